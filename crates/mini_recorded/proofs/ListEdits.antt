-- What is made of a list of statements, from the place of one on.
use Rattle.std.proofs.Common.{◌≡◌, ℕ, zero, suc, ◌+◌, ◌<◌, ◌≤◌, Bool, true, false, refl, sym, ap, ◌∙◌, subst, arith}
use Rattle.std.specs.Prelude.{◌&&◌, Option, Some, None, option_map, option_and_then, if◌then◌else◌}
use Rattle.std.proofs.lemmas.Bool.{and_parts, false≢true}
use Rattle.mini_model.specs.declared.place.Position.{Position}
use Rattle.mini_model.specs.Paths.{append}
use Rattle.mini_model.specs.Tree.{Tree, Trees, none, ◌▸◌, absent, children, child_or_absent, count, listed, expression_statement}
use Rattle.mini_node.specs.Children.{first_children, part, rest_children, with_child, without}
use Rattle.mini_node.specs.Kinds.{sequence, is_block, is_empty_statement, is_listed}
use Rattle.mini_node.specs.Lends.{with_children}
use Rattle.mini_node.specs.Made.{listed_is}
use Rattle.mini_node.specs.Walks.{with_same}
use Rattle.mini_rows.specs.Lists.{are_unscoped}
use Rattle.mini_log.specs.Terms.{when}
use Rattle.mini_log.specs.ListRows.{gone, in_list, is_joinable, is_statements, first_by, joined, parts, spread, within}
use Rattle.mini_log.specs.Walk.{or_else}
use Rattle.mini_checker.specs.Made.{Made}
use Rattle.mini_recorded.specs.Edited.{Edited}

-- ---- trees and options

pub nothing : (o : Option Trees) (ts : Trees) → o ≡ None → Edited o ts ts false
nothing o ts e = subst (λ x. Edited x ts ts false) (sym e) (record { said = refl; trees = refl })

pub something : (o : Option Trees) (ts us vs : Trees) → o ≡ Some us → vs ≡ us → Edited o ts vs true
something o ts us vs e f = subst (λ x. Edited x ts vs true) (sym e) (record { said = refl; trees = f })

pub nothing_made : (o : Option Tree) (t : Tree) → o ≡ None → Made o t t false
nothing_made o t e = subst (λ x. Made x t t false) (sym e) (record { said = refl; tree = refl })

pub something_made : (o : Option Tree) (t u v : Tree) → o ≡ Some u → v ≡ u → Made o t v true
something_made o t u v e f = subst (λ x. Made x t v true) (sym e) (record { said = refl; tree = f })

-- the first of two
pub first_edited : (o p : Option Trees) (ts us : Trees) → Edited o ts us true → Edited (or_else o p) ts us true
first_edited None p ts us m = absurd (false≢true (sym m.said))
first_edited (Some vs) p ts us m = m

pub second_edited : (o : Option Trees) (P : Trees → Option Trees) (ts us vs : Trees) (b : Bool) → Edited o ts us false → Edited (P us) us vs b → Edited (or_else o (P ts)) ts vs b
second_edited None P ts us vs b m n = subst (λ w. Edited (P w) w vs b) m.trees n
second_edited (Some ws) P ts us vs b m n = absurd (false≢true m.said)

map_map : {A B C : Type 0} (f : A → B) (g : B → C) (o : Option A) → option_map g (option_map f o) ≡ option_map (λ x. g (f x)) o
map_map f g None = refl
map_map f g (Some x) = refl

-- ---- past the end

pub past_end : (g : Trees → Option Trees) (ts : Trees) (i : ℕ) → g none ≡ None → count ts ≤ i → within g ts i ≡ None
past_end g none zero e h = e
past_end g none (suc i) e h = refl
past_end g (t ▸ ts) zero e h = absurd (omega (arith, h))
past_end g (t ▸ ts) (suc i) e h = ap (option_map (λ us. t ▸ us)) (past_end g ts i e (omega (arith, h)))

-- ---- 66

pub goes : (ts : Trees) (i : ℕ) → i < count ts → is_empty_statement (child_or_absent ts i) ≡ true → within gone ts i ≡ Some (without ts i)
goes none i h e = absurd (omega (arith, h))
goes (t ▸ ts) zero h e = ap (λ b. if b then Some ts else None) e
goes (t ▸ ts) (suc i) h e = ap (option_map (λ us. t ▸ us)) (goes ts i (omega (arith, h)) e)

pub stays : (ts : Trees) (i : ℕ) → i < count ts → is_empty_statement (child_or_absent ts i) ≡ false → within gone ts i ≡ None
stays none i h e = absurd (omega (arith, h))
stays (t ▸ ts) zero h e = ap (λ b. if b then Some ts else None) e
stays (t ▸ ts) (suc i) h e = ap (option_map (λ us. t ▸ us)) (stays ts i (omega (arith, h)) e)

-- `a, b;` of `a;` and `b;`
abbrev both : Tree → Tree → Tree
both t u = expression_statement (sequence (append (parts (part t 0)) (parts (part u 0))))

abbrev may_join : Bool → Trees → ℕ → Bool
may_join b ts i = b && (is_joinable (child_or_absent ts i) && is_joinable (child_or_absent ts (suc i)))

joins_at : (b : Bool) (ts : Trees) (i : ℕ) → suc i < count ts → may_join b ts i ≡ true → within (joined b) ts i ≡ Some (with_child (without ts (suc i)) i (both (child_or_absent ts i) (child_or_absent ts (suc i))))
joins_at b none i h e = absurd (omega (arith, h))
joins_at b (t ▸ none) i h e = absurd (omega (arith, h))
joins_at b (t ▸ (u ▸ ts)) zero h e = ap (λ c. if c then Some (both t u ▸ ts) else None) e
joins_at b (t ▸ (u ▸ ts)) (suc i) h e = ap (option_map (λ us. t ▸ us)) (joins_at b (u ▸ ts) i (omega (arith, h)) e)

apart_at : (b : Bool) (ts : Trees) (i : ℕ) → suc i < count ts → may_join b ts i ≡ false → within (joined b) ts i ≡ None
apart_at b none i h e = absurd (omega (arith, h))
apart_at b (t ▸ none) i h e = absurd (omega (arith, h))
apart_at b (t ▸ (u ▸ ts)) zero h e = ap (λ c. if c then Some (both t u ▸ ts) else None) e
apart_at b (t ▸ (u ▸ ts)) (suc i) h e = ap (option_map (λ us. t ▸ us)) (apart_at b (u ▸ ts) i (omega (arith, h)) e)

pub no_next : (b : Bool) (ts : Trees) (i : ℕ) → count ts ≤ suc i → within (joined b) ts i ≡ None
no_next b none zero h = refl
no_next b none (suc i) h = refl
no_next b (t ▸ none) zero h = refl
no_next b (t ▸ (u ▸ ts)) zero h = absurd (omega (arith, h))
no_next b (t ▸ ts) (suc i) h = ap (option_map (λ us. t ▸ us)) (no_next b ts i (omega (arith, h)))

pub with_twice : (ts : Trees) (k : ℕ) (x y : Tree) → with_child (with_child ts k x) k y ≡ with_child ts k y
with_twice none k x y = refl
with_twice (t ▸ ts) zero x y = refl
with_twice (t ▸ ts) (suc k) x y = ap (λ us. t ▸ us) (with_twice ts k x y)

still_first : (ts : Trees) (i : ℕ) → child_or_absent (without ts (suc i)) i ≡ child_or_absent ts i
still_first none i = refl
still_first (t ▸ none) zero = refl
still_first (t ▸ (u ▸ ts)) zero = refl
still_first (t ▸ ts) (suc i) = still_first ts i

-- as code takes the two out, the second one first
pub joins : (b : Bool) (ts us vs ws : Trees) (i j : ℕ) (a c w : Tree) → j ≡ suc i → suc i < count ts → b && (is_joinable (child_or_absent ts i) && is_joinable (child_or_absent ts j)) ≡ true →
    c ≡ child_or_absent ts j → us ≡ without ts j → a ≡ child_or_absent us i → vs ≡ with_child us i absent → w ≡ both a c → ws ≡ with_child vs i w → Edited (within (joined b) ts i) ts ws true
joins b ts us vs ws i j a c w next h e is_c is_us is_a is_vs is_w is_ws =
    something (within (joined b) ts i) ts (with_child (without ts (suc i)) i (both (child_or_absent ts i) (child_or_absent ts (suc i)))) ws
    (joins_at b ts i h (ap (λ k. b && (is_joinable (child_or_absent ts i) && is_joinable (child_or_absent ts k))) (sym next) ∙ e))
    (is_ws ∙ ap (λ x. with_child x i w) is_vs ∙ with_twice us i absent w ∙ ap (λ x. with_child x i w) (is_us ∙ ap (without ts) next) ∙ ap (with_child (without ts (suc i)) i) (is_w ∙ ap (λ x. both x c) first ∙ ap (both (child_or_absent ts i)) (is_c ∙ ap (child_or_absent ts) next)))
  where
    first : a ≡ child_or_absent ts i
    first = is_a ∙ ap (λ x. child_or_absent x i) (is_us ∙ ap (without ts) next) ∙ still_first ts i

pub apart : (b : Bool) (ts : Trees) (i j : ℕ) → j ≡ suc i → suc i < count ts → b && (is_joinable (child_or_absent ts i) && is_joinable (child_or_absent ts j)) ≡ false → Edited (within (joined b) ts i) ts ts false
apart b ts i j next h e = nothing (within (joined b) ts i) ts (apart_at b ts i h (ap (λ k. b && (is_joinable (child_or_absent ts i) && is_joinable (child_or_absent ts k))) (sym next) ∙ e))

count_without : (ts : Trees) (j : ℕ) → j < count ts → count (without ts j) + 1 ≡ count ts
count_without none j h = absurd (omega (arith, h))
count_without (t ▸ ts) zero h = omega arith
count_without (t ▸ ts) (suc j) h = let rest = count_without ts j (omega (arith, h)) in omega (arith, rest)

pub still_within : (ts us : Trees) (i : ℕ) → i + 1 < count ts → us ≡ without ts (i + 1) → i < count us
still_within ts us i h e = let fewer = count_without ts (i + 1) h in omega (arith, fewer, h, ap count e)

-- ---- 79

spreads_at : (ts : Trees) (i : ℕ) → i < count ts → is_block (child_or_absent ts i) && are_unscoped (children (part (child_or_absent ts i) 0)) ≡ true →
    within spread ts i ≡ Some (append (append (first_children i ts) (children (part (child_or_absent ts i) 0))) (without (rest_children i ts) 0))
spreads_at none i h e = absurd (omega (arith, h))
spreads_at (t ▸ ts) zero h e = ap (λ b. if b then Some (append (children (part t 0)) ts) else None) e
spreads_at (t ▸ ts) (suc i) h e = ap (option_map (λ us. t ▸ us)) (spreads_at ts i (omega (arith, h)) e)

pub holds : (ts : Trees) (i : ℕ) → i < count ts → is_block (child_or_absent ts i) && are_unscoped (children (part (child_or_absent ts i) 0)) ≡ false → within spread ts i ≡ None
holds none i h e = absurd (omega (arith, h))
holds (t ▸ ts) zero h e = ap (λ b. if b then Some (append (children (part t 0)) ts) else None) e
holds (t ▸ ts) (suc i) h e = ap (option_map (λ us. t ▸ us)) (holds ts i (omega (arith, h)) e)

first_of_rest : (ts : Trees) (i : ℕ) → child_or_absent (rest_children i ts) 0 ≡ child_or_absent ts i
first_of_rest none i = refl
first_of_rest (t ▸ ts) zero = refl
first_of_rest (t ▸ ts) (suc i) = first_of_rest ts i

pub rest_there : (ts us : Trees) (i : ℕ) → i < count ts → us ≡ rest_children i ts → 0 < count us
rest_there ts us i h e = let some = by ts i h in omega (arith, some, ap count e)
  where
    by : (ts : Trees) (i : ℕ) → i < count ts → 0 < count (rest_children i ts)
    by none i h = absurd (omega (arith, h))
    by (t ▸ ts) zero h = omega arith
    by (t ▸ ts) (suc i) h = by ts i (omega (arith, h))

-- as code takes the block out and puts its statements in
pub spreads : (ts us rest left items vs ws : Trees) (i : ℕ) (c d : Tree) → i < count ts → is_block (child_or_absent ts i) && are_unscoped (children (part (child_or_absent ts i) 0)) ≡ true →
    us ≡ first_children i ts → rest ≡ rest_children i ts → c ≡ child_or_absent rest 0 → left ≡ without rest 0 → d ≡ part c 0 → items ≡ children d → vs ≡ append us items → ws ≡ append vs left → Edited (within spread ts i) ts ws true
spreads ts us rest left items vs ws i c d h e is_us is_rest is_c is_left is_d is_items is_vs is_ws =
    something (within spread ts i) ts (append (append (first_children i ts) (children (part (child_or_absent ts i) 0))) (without (rest_children i ts) 0)) ws (spreads_at ts i h e)
    (is_ws ∙ ap (λ x. append x left) (is_vs ∙ ap (λ x. append x items) is_us ∙ ap (append (first_children i ts)) inner) ∙ ap (append (append (first_children i ts) (children (part (child_or_absent ts i) 0)))) (is_left ∙ ap (λ x. without x 0) is_rest))
  where
    inner : items ≡ children (part (child_or_absent ts i) 0)
    inner = is_items ∙ ap children (is_d ∙ ap (λ x. part x 0) (is_c ∙ ap (λ x. child_or_absent x 0) is_rest ∙ first_of_rest ts i))

-- ---- one statement for another

first_at : (f : Tree → Option Tree) (ts : Trees) (i : ℕ) → i < count ts → within (first_by f) ts i ≡ option_map (with_child ts i) (f (child_or_absent ts i))
first_at f none i h = absurd (omega (arith, h))
first_at f (t ▸ ts) zero h = by (f t)
  where
    by : (o : Option Tree) → option_map (λ u. u ▸ ts) o ≡ option_map (with_child (t ▸ ts) zero) o
    by None = refl
    by (Some u) = refl
first_at f (t ▸ ts) (suc i) h = ap (option_map (λ us. t ▸ us)) (first_at f ts i (omega (arith, h))) ∙ map_map (with_child ts i) (λ us. t ▸ us) (f (child_or_absent ts i))

put_at : (ts : Trees) (i : ℕ) (o : Option Tree) (u : Tree) (b : Bool) → Made o (child_or_absent ts i) u b → Edited (option_map (with_child ts i) o) ts (with_child ts i u) b
put_at ts i None u b m = record { said = m.said; trees = ap (with_child ts i) m.tree ∙ with_same ts i }
put_at ts i (Some v) u b m = record { said = m.said; trees = ap (with_child ts i) m.tree }

pub first_made : (f : Tree → Option Tree) (ts : Trees) (i : ℕ) (c u : Tree) (b : Bool) → i < count ts → c ≡ child_or_absent ts i → Made (f c) c u b → Edited (within (first_by f) ts i) ts (with_child ts i u) b
first_made f ts i c u b h e m =
    subst (λ o. Edited o ts (with_child ts i u) b) (sym (first_at f ts i h)) (put_at ts i (f (child_or_absent ts i)) u b (subst (λ x. Made (f x) x u b) e m))

-- ---- the list

list_is : (g : Trees → Option Trees) (p : Position) (t : Tree) (i : ℕ) → is_statements p && is_listed t ≡ true → in_list g p t i ≡ option_map listed (within g (children t) i)
list_is g p t i e = by (within g (children t) i)
  where
    by : (o : Option Trees) → option_and_then (λ us. when (is_statements p && is_listed t) (listed us)) o ≡ option_map listed o
    by None = refl
    by (Some us) = ap (λ b. when b (listed us)) e

pub no_list : (g : Trees → Option Trees) (p : Position) (t : Tree) (i : ℕ) → is_statements p && is_listed t ≡ false → in_list g p t i ≡ None
no_list g p t i e = by (within g (children t) i)
  where
    by : (o : Option Trees) → option_and_then (λ us. when (is_statements p && is_listed t) (listed us)) o ≡ None
    by None = refl
    by (Some us) = ap (λ b. when b (listed us)) e

with_children_is : (t : Tree) (us : Trees) → is_listed t ≡ true → with_children t us ≡ listed us
with_children_is t us e = ap (λ x. with_children x us) (listed_is t e)

raised : (t : Tree) (o : Option Trees) (us : Trees) (b : Bool) → is_listed t ≡ true → Edited o (children t) us b → Made (option_map listed o) t (with_children t us) b
raised t None us b e m = record { said = m.said; tree = with_children_is t us e ∙ ap listed m.trees ∙ sym (listed_is t e) }
raised t (Some vs) us b e m = record { said = m.said; tree = with_children_is t us e ∙ ap listed m.trees }

pub list_made : (g : Trees → Option Trees) (p : Position) (t : Tree) (i : ℕ) (ts us : Trees) (b : Bool) → is_statements p && is_listed t ≡ true → ts ≡ children t → Edited (within g ts i) ts us b → Made (in_list g p t i) t (with_children t us) b
list_made g p t i ts us b e f m =
    subst (λ o. Made o t (with_children t us) b) (sym (list_is g p t i e))
    (raised t (within g (children t) i) us b (and_parts (is_statements p) (is_listed t) e).1 (subst (λ x. Edited (within g x i) x us b) f m))

pub two_made : (g k : Trees → Option Trees) (p : Position) (t : Tree) (i : ℕ) (ts us : Trees) (b : Bool) → is_statements p && is_listed t ≡ true → ts ≡ children t → Edited (or_else (within g ts i) (within k ts i)) ts us b →
    Made (or_else (in_list g p t i) (in_list k p t i)) t (with_children t us) b
two_made g k p t i ts us b e f m =
    subst (λ o. Made o t (with_children t us) b) (by (within g (children t) i) (within k (children t) i) ∙ ap (λ o. or_else o (option_map listed (within k (children t) i))) (sym (list_is g p t i e)) ∙ ap (or_else (in_list g p t i)) (sym (list_is k p t i e)))
    (raised t (or_else (within g (children t) i) (within k (children t) i)) us b (and_parts (is_statements p) (is_listed t) e).1 (subst (λ x. Edited (or_else (within g x i) (within k x i)) x us b) f m))
  where
    by : (o q : Option Trees) → option_map listed (or_else o q) ≡ or_else (option_map listed o) (option_map listed q)
    by None q = refl
    by (Some vs) q = refl

pub nothing_joined : (s : Bool) (p : Position) (t : Tree) (i : ℕ) → is_statements p && is_listed t ≡ false → Made (or_else (in_list gone p t i) (in_list (joined s) p t i)) t t false
nothing_joined s p t i e = nothing_made (or_else (in_list gone p t i) (in_list (joined s) p t i)) t (ap (λ o. or_else o (in_list (joined s) p t i)) (no_list gone p t i e) ∙ no_list (joined s) p t i e)
