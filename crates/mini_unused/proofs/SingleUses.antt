-- A block in which a name is read once, right after its declaration.
use Rattle.std.proofs.Common.{◌≡◌, ℕ, zero, suc, ◌+◌, ◌<◌, ◌≤◌, Bool, true, false, [], ◌∷◌, refl, sym, ap, ◌∙◌, subst, true≢false, add-one, arith}
use Rattle.std.specs.Prelude.{not, ◌&&◌, ◌||◌, if◌then◌else◌}
use Rattle.std.proofs.lemmas.Bool.{and_parts, ltb-true, ltb-false}
use Rattle.std.proofs.Math.Dec.{ltb}
use Rattle.mini_model.specs.declared.kind.PropertyKind.TheVariants.{Init}
use Rattle.mini_model.specs.declared.kind.VariableDeclarationKind.{VariableDeclarationKind}
use Rattle.mini_model.specs.declared.name.Name.{Name}
use Rattle.mini_model.specs.declared.shape.Shape.{Shape}
use Rattle.mini_model.specs.declared.shape.Shape.TheVariants as shape
use Rattle.mini_model.specs.Tree.{Tree, Trees, node, none, ◌▸◌, shape_of, children, count, node_count, node_counts, child_or_absent}
use Rattle.mini_model.specs.Paths.{append}
use Rattle.mini_laws.specs.Naming as kinds
use Rattle.mini_laws.specs.ScopeList.{has_eval}
use Rattle.mini_node.specs.Children.{names_of, part, with_child, with_part, is_bare, is_nameless, number_of, first_children, rest_children}
use Rattle.mini_node.specs.Kinds.{is_absent_part, is_block}
use Rattle.mini_node.specs.Made.{block_is}
use Rattle.mini_node.specs.Walks.{next_child}
use Rattle.mini_terms.specs.Folds.{is_effect_free}
use Rattle.mini_rows.specs.Lists.{block, declaration}
use Rattle.mini_rows.specs.Declarations.{binding, declarator}
use Rattle.mini_rows.specs.Unused.{resolved, declared_among, declared_left, names, any_names, is_own_key, is_short, in_full, may_hold, is_reached, leads, has_arguments, holds_list, is_childless, is_written_value, is_value_operator, is_constant, reads, is_first, leads_to, put_first, put_among, passes_branch, passes_at, is_sure, is_placed, begins_bare, suits, are_passed_in, all_passed, is_head_shape, reads_first, takes, may_move, lets_go, Row71, passes, passes_item, gathered_by, gathered_below}
use Rattle.mini_unused.specs.RemoveUnusedDeclaration.{declares_name, is_lexical_shape, declares_list, may_declare, may_lose, is_free_at, list_at}
use Rattle.mini_rows.specs.declared.gathered.Gathered.{Gathered}
use Rattle.mini_rows.specs.declared.gathered.Gathered.TheVariants.{Values as OfValues}
use Rattle.mini_rows.specs.Switches.{Liberties}
use Rattle.mini_unused.specs.SubstituteNext.{put_named}
use Rattle.mini_unused.specs.SubstituteSingleUse.{is_own_name, written_in_full, mention_place, may_lead, all_pass, is_reached_at, may_reach, is_head, last_place, is_declared_over, is_mentioned_around, reads_next, is_read_once, is_single_declarator, is_single, declaration_left, list_single}
use Rattle.mini_unused.proofs.Unused.{no_outside, parts_of, there_child, there_first, and_both, Declares, declares, a_declaration, left_is}

-- ---- the part that reads

pub childless : (t : Tree) → count (children t) ≡ 0 → is_childless t ≡ true
childless (node h xs n none) e = refl
childless (node h xs n (t ▸ ts)) e = absurd (omega (arith, e))

pub first_leaf : (x : Name) (b : Bool) (t : Tree) → count (children t) ≡ 0 → is_first x b t ≡ (not b && reads x t)
first_leaf x b (node h xs n none) e = refl
first_leaf x b (node h xs n (t ▸ ts)) e = absurd (omega (arith, e))

-- a key
pub own_key_is : (t : Tree) → is_own_key t ≡ (is_bare t 0 && is_own_name (shape_of t))
own_key_is (node (shape.IdentifierName s) [] zero none) = refl
own_key_is (node (shape.IdentifierName s) [] zero (t ▸ ts)) = refl
own_key_is (node (shape.IdentifierName s) [] (suc n) ts) = refl
own_key_is (node (shape.IdentifierName s) (x ∷ xs) n ts) = refl
own_key_is (node h xs n ts) = sym (never (is_bare (node h xs n ts) 0))
  where
    never : (b : Bool) → (b && false) ≡ false
    never true = refl
    never false = refl

pub no_first : (ts : Trees) → rest_children 0 ts ≡ ts
no_first none = refl
no_first (t ▸ ts) = refl

-- where a part leads at all
pub leads_further : (h : Shape) (i : ℕ) (c : Tree) → (i ≡ 0 → ⊥) → (i ≡ 1 → ⊥) → (i ≡ 2 → ⊥) → leads false h i c ≡ false
leads_further h zero c f g k = absurd (f refl)
leads_further h (suc zero) c f g k = absurd (g refl)
leads_further h (suc (suc zero)) c f g k = absurd (k refl)
leads_further h (suc (suc (suc i))) c f g k = refl

pub lists_further : (h : Shape) (i : ℕ) → (i ≡ 0 → ⊥) → holds_list h i ≡ has_arguments h
lists_further h zero f = absurd (f refl)
lists_further h (suc i) f = refl

pub branch_further : (r : Tree) (i : ℕ) (t : Tree) → (i ≡ 0 → ⊥) → passes_branch r i t ≡ true
branch_further r zero t f = absurd (f refl)
branch_further r (suc i) t f = refl

pub bare_none : (x : Name) (ts : Trees) → count ts ≡ 0 → begins_bare x ts ≡ true
bare_none x none e = refl
bare_none x (t ▸ ts) e = absurd (omega (arith, e))

pub bare_some : (x : Name) (ts : Trees) (t : Tree) → 0 < count ts → t ≡ child_or_absent ts 0 → begins_bare x ts ≡ (is_childless t && names x t)
bare_some x none t h e = absurd (omega (arith, h))
bare_some x (u ▸ ts) t h e = ap (λ v. is_childless v && names x v) (sym e)

pub values_pass : (r t : Tree) → passes_item OfValues r t ≡ passes r t
values_pass r t = by (passes r t)
  where
    by : (b : Bool) → (b || false) ≡ b
    by true = refl
    by false = refl

pub gathered_further : (h : Shape) (i : ℕ) → (i ≡ 0 → ⊥) → gathered_by h i ≡ gathered_by h 1
gathered_further h zero f = absurd (f refl)
gathered_further shape.ArrayExpression (suc i) f = refl
gathered_further shape.ObjectExpression (suc i) f = refl
gathered_further (shape.CallExpression o) (suc i) f = refl
gathered_further shape.NewExpression (suc i) f = refl
gathered_further shape.TemplateLiteral (suc i) f = refl
gathered_further h (suc i) f = refl

pub no_name : (t : Tree) → count (children t) ≡ 0 → is_absent_part (part t 0) ≡ true
no_name (node h ys n none) e = refl
no_name (node h ys n (t ▸ ts)) e = absurd (omega (arith, e))

pub reached_further : (m : Gathered) (r : Tree) (h : Shape) (i : ℕ) → (i ≡ 0 → ⊥) → is_reached_at m r h i ≡ (is_constant r || (is_placed m (is_effect_free r) h && is_sure (is_effect_free r) h))
reached_further m r h zero f = absurd (f refl)
reached_further m r h (suc i) f = refl

-- constants
pub constant_literal : (t : Tree) → is_written_value (shape_of t) ≡ true → is_constant t ≡ true
constant_literal (node h ys n none) e = e
constant_literal (node h ys n (t ▸ none)) e = ap (λ b. b || (is_value_operator h && is_written_value (shape_of t))) e
constant_literal (node h ys n (t ▸ (u ▸ ts))) e = e

pub constant_operator : (t : Tree) → is_written_value (shape_of t) ≡ false → is_value_operator (shape_of t) ≡ true → count (children t) ≡ 1 → is_constant t ≡ is_written_value (shape_of (part t 0))
constant_operator (node h ys n none) e o c = absurd (omega (arith, c))
constant_operator (node h ys n (t ▸ none)) e o c = λ k. e k || (o k && is_written_value (shape_of t))
constant_operator (node h ys n (t ▸ (u ▸ ts))) e o c = absurd (omega (arith, c))

pub no_operator : (t : Tree) → is_written_value (shape_of t) ≡ false → is_value_operator (shape_of t) ≡ false → is_constant t ≡ false
no_operator (node h ys n none) e f = e
no_operator (node h ys n (t ▸ none)) e f = λ k. e k || (f k && is_written_value (shape_of t))
no_operator (node h ys n (t ▸ (u ▸ ts))) e f = e

pub no_constant : (t : Tree) → is_written_value (shape_of t) ≡ false → (count (children t) ≡ 1 → ⊥) → is_constant t ≡ false
no_constant (node h ys n none) e f = e
no_constant (node h ys n (t ▸ none)) e f = absurd (f (omega arith))
no_constant (node h ys n (t ▸ (u ▸ ts))) e f = e

-- where the first of them mentions the name, and where it doesn't
pub place_here : (x : Name) (t : Tree) (ts : Trees) → names x t ≡ true → mention_place x (t ▸ ts) ≡ 0
place_here x t ts e = ap (λ c. if c then 0 else suc (mention_place x ts)) e

pub place_later : (x : Name) (t : Tree) (ts : Trees) → names x t ≡ false → mention_place x (t ▸ ts) ≡ suc (mention_place x ts)
place_later x t ts e = ap (λ c. if c then 0 else suc (mention_place x ts)) e

each_bool : (P : Bool → Type 0) (b : Bool) → (b ≡ true → P true) → (b ≡ false → P false) → P b
each_bool P true f g = f refl
each_bool P false f g = g refl

-- the part at a place, where there is one
abbrev leads_there : Name → Bool → Shape → ℕ → ℕ → Trees → Bool
leads_there x b h i p ts = leads b h i (child_or_absent ts p) && (is_first x (holds_list h i) (child_or_absent ts p) && not (any_names x (rest_children (suc p) ts)))

abbrev leads_one : Name → Bool → Shape → ℕ → Tree → Trees → Bool → Bool
leads_one x b h i t ts c = if c then (leads b h i t && (is_first x (holds_list h i) t && not (any_names x ts))) else leads_to x b h (suc i) ts

leads_at : (x : Name) (b : Bool) (h : Shape) (i : ℕ) (ts : Trees) → mention_place x ts < count ts → leads_to x b h i ts ≡ leads_there x b h (i + mention_place x ts) (mention_place x ts) ts
leads_at x b h i none l = absurd (omega (arith, l))
leads_at x b h i (t ▸ ts) l = by (names x t) refl l (leads_at x b h (suc i) ts)
  where
    by : (c : Bool) → names x t ≡ c → mention_place x (t ▸ ts) < count (t ▸ ts) → (mention_place x ts < count ts → leads_to x b h (suc i) ts ≡ leads_there x b h (suc i + mention_place x ts) (mention_place x ts) ts) → leads_to x b h i (t ▸ ts) ≡ leads_there x b h (i + mention_place x (t ▸ ts)) (mention_place x (t ▸ ts)) (t ▸ ts)
    by true e l f =
        ap (leads_one x b h i t ts) e ∙ (λ k. leads b h i t && (is_first x (holds_list h i) t && not (any_names x (sym (no_first ts) k)))) ∙ sym (ap (λ p. leads_there x b h (i + p) p (t ▸ ts)) (place_here x t ts e) ∙ ap (λ j. leads_there x b h j 0 (t ▸ ts)) (omega arith))
    by false e l f =
        let q = mention_place x ts in
        let later = place_later x t ts e in
        ap (leads_one x b h i t ts) e ∙ f (omega (arith, l, later)) ∙ sym (ap (λ p. leads_there x b h (i + p) p (t ▸ ts)) later ∙ ap (λ j. leads_there x b h j (suc q) (t ▸ ts)) (omega arith))

leads_nowhere : (x : Name) (b : Bool) (h : Shape) (i : ℕ) (ts : Trees) → count ts ≤ mention_place x ts → leads_to x b h i ts ≡ false
leads_nowhere x b h i none l = refl
leads_nowhere x b h i (t ▸ ts) l = by (names x t) refl l (leads_nowhere x b h (suc i) ts)
  where
    by : (c : Bool) → names x t ≡ c → count (t ▸ ts) ≤ mention_place x (t ▸ ts) → (count ts ≤ mention_place x ts → leads_to x b h (suc i) ts ≡ false) → leads_to x b h i (t ▸ ts) ≡ false
    by true e l f = let here = place_here x t ts e in absurd (omega (arith, l, here))
    by false e l f = let later = place_later x t ts e in ap (λ c. if c then (leads b h i t && (is_first x (holds_list h i) t && not (any_names x ts))) else leads_to x b h (suc i) ts) e ∙ f (omega (arith, l, later))

pub and_false : (a : Bool) → (a && false) ≡ false
and_false true = refl
and_false false = refl

and_assoc : (a b c : Bool) → (a && (b && c)) ≡ ((a && b) && c)
and_assoc true b c = refl
and_assoc false b c = refl

and_turned : (a b c : Bool) → (a && (b && c)) ≡ ((b && a) && c)
and_turned true true c = refl
and_turned true false c = refl
and_turned false true c = refl
and_turned false false c = refl

-- by what is asked of the node, of the part and of those after it
pub first_by : (x : Name) (b : Bool) (t : Tree) (p : ℕ) (m f a : Bool) → p ≡ mention_place x (children t) → p < count (children t) → m ≡ may_lead b t p → f ≡ is_first x (holds_list (shape_of t) p) (part t p) → a ≡ any_names x (rest_children (suc p) (children t)) → is_first x b t ≡ (m && (f && not a))
first_by x b (node h xs n none) p m f a e l g i k = absurd (omega (arith, l))
first_by x b (node h xs n (t ▸ ts)) p m f a e l g i k =
    let us : Trees = t ▸ ts in
    let same = may_hold (node h xs n us) in
    let there = leads_at x b h 0 us (omega (arith, e, l)) ∙ ap (λ j. leads_there x b h j (mention_place x us) us) (omega arith) ∙ sym (ap (λ j. leads_there x b h j j us) e) in
    ap (λ c. same && c) there ∙ and_turned same (leads b h p (child_or_absent us p)) (is_first x (holds_list h p) (child_or_absent us p) && not (any_names x (rest_children (suc p) us))) ∙ sym (λ j. g j && (i j && not (k j)))

pub not_mentioned : (x : Name) (b : Bool) (t : Tree) (p : ℕ) → 0 < count (children t) → p ≡ mention_place x (children t) → count (children t) ≤ p → is_first x b t ≡ false
not_mentioned x b (node h xs n none) p s e l = absurd (omega (arith, s))
not_mentioned x b (node h xs n (t ▸ ts)) p s e l = ap (λ c. may_hold (node h xs n (t ▸ ts)) && c) (leads_nowhere x b h 0 (t ▸ ts) (omega (arith, e, l))) ∙ and_false (may_hold (node h xs n (t ▸ ts)))

-- ---- the place of a mention

pub place_start : (x : Name) (ts : Trees) → any_names x (first_children 0 ts) ≡ false
place_start x none = refl
place_start x (t ▸ ts) = refl

pub or_left : (a b : Bool) → (a || b) ≡ false → a ≡ false
or_left true b e = absurd (true≢false e)
or_left false b e = refl

pub or_right : (a b : Bool) → (a || b) ≡ false → b ≡ false
or_right true b e = absurd (true≢false e)
or_right false b e = e

pub place_found : (x : Name) (ts : Trees) (i : ℕ) (c : Tree) → i < count ts → any_names x (first_children i ts) ≡ false → c ≡ child_or_absent ts i → names x c ≡ true → i ≡ mention_place x ts
place_found x none i c l f e n = absurd (omega (arith, l))
place_found x (t ▸ ts) zero c l f e n = sym (place_here x t ts (sym (ap (names x) e) ∙ n))
place_found x (t ▸ ts) (suc i) c l f e n = ap suc (place_found x ts i c (omega (arith, l)) (or_right (names x t) (any_names x (first_children i ts)) f) e n) ∙ sym (place_later x t ts (or_left (names x t) (any_names x (first_children i ts)) f))

pub place_end : (x : Name) (ts : Trees) (i : ℕ) → count ts ≤ i → any_names x (first_children i ts) ≡ false → count ts ≡ mention_place x ts
place_end x none i l f = refl
place_end x (t ▸ ts) zero l f = absurd (omega (arith, l))
place_end x (t ▸ ts) (suc i) l f = ap suc (place_end x ts i (omega (arith, l)) (or_right (names x t) (any_names x (first_children i ts)) f)) ∙ sym (place_later x t ts (or_left (names x t) (any_names x (first_children i ts)) f))

place_within : (x : Name) (ts : Trees) → mention_place x ts ≤ count ts
place_within x none = omega arith
place_within x (t ▸ ts) = by (names x t) refl (place_within x ts)
  where
    by : (c : Bool) → names x t ≡ c → mention_place x ts ≤ count ts → mention_place x (t ▸ ts) ≤ count (t ▸ ts)
    by true e l = let here = place_here x t ts e in omega (arith, here)
    by false e l = let later = place_later x t ts e in omega (arith, later, l)

-- ---- the parts before it

pub all_start : (m : Gathered) (r : Tree) (h : Shape) (ts : Trees) → all_pass m r h 0 (first_children 0 ts) ≡ true
all_start m r h none = refl
all_start m r h (t ▸ ts) = refl

pub all_step : (m : Gathered) (r : Tree) (h : Shape) (ts : Trees) (i : ℕ) (c : Tree) → i < count ts → c ≡ child_or_absent ts i → passes_at m r h i c ≡ true → all_pass m r h 0 (first_children i ts) ≡ true → all_pass m r h 0 (first_children (i + 1) ts) ≡ true
all_step m r h ts i c l e p a = ap (λ j. all_pass m r h 0 (first_children j ts)) (add-one i) ∙ go 0 ts i i (omega arith) l e p a
  where
    go : (k : ℕ) (ts : Trees) (i j : ℕ) → j ≡ k + i → i < count ts → c ≡ child_or_absent ts i → passes_at m r h j c ≡ true → all_pass m r h k (first_children i ts) ≡ true → all_pass m r h k (first_children (suc i) ts) ≡ true
    go k none i j n l e p a = absurd (omega (arith, l))
    go k (t ▸ ts) zero j n l e p a = and_both (passes_at m r h k t) (all_pass m r h (suc k) (first_children 0 ts)) (sym (λ q. passes_at m r h (here q) (e q)) ∙ p) (start ts)
      where
        here : j ≡ k
        here = omega (arith, n)

        start : (ts : Trees) → all_pass m r h (suc k) (first_children 0 ts) ≡ true
        start none = refl
        start (t ▸ ts) = refl
    go k (t ▸ ts) (suc i) j n l e p a =
        let (x, y) = and_parts (passes_at m r h k t) (all_pass m r h (suc k) (first_children i ts)) a in
        and_both (passes_at m r h k t) (all_pass m r h (suc k) (first_children (suc i) ts)) x (go (suc k) ts i j (omega (arith, n)) (omega (arith, l)) e p y)

pub all_stopped : (m : Gathered) (r : Tree) (h : Shape) (ts : Trees) (i w : ℕ) (c : Tree) → i < count ts → i < w → c ≡ child_or_absent ts i → passes_at m r h i c ≡ false → all_pass m r h 0 (first_children w ts) ≡ false
all_stopped m r h ts i w c l k e p = go 0 ts i w i (omega arith) l k e p
  where
    go : (n : ℕ) (ts : Trees) (i w j : ℕ) → j ≡ n + i → i < count ts → i < w → c ≡ child_or_absent ts i → passes_at m r h j c ≡ false → all_pass m r h n (first_children w ts) ≡ false
    go n none i w j o l k e p = absurd (omega (arith, l))
    go n (t ▸ ts) i zero j o l k e p = absurd (omega (arith, k))
    go n (t ▸ ts) zero (suc w) j o l k e p = ap (λ b. b && all_pass m r h (suc n) (first_children w ts)) (sym (λ q. passes_at m r h (here q) (e q)) ∙ p)
      where
        here : j ≡ n
        here = omega (arith, o)
    go n (t ▸ ts) (suc i) (suc w) j o l k e p = ap (λ b. passes_at m r h n t && b) (go (suc n) ts i w j (omega (arith, o)) (omega (arith, l)) (omega (arith, k)) e p) ∙ and_false (passes_at m r h n t)

-- up to a place, and there
abbrev passed_there : Name → Gathered → Tree → Shape → ℕ → ℕ → Trees → ℕ → Bool
passed_there x m r h i j ts p = all_pass m r h i (first_children p ts) && are_passed_in x (gathered_below m h j) r (child_or_absent ts p)

abbrev passed_one : Name → Gathered → Tree → Shape → ℕ → Tree → Trees → Bool → Bool
passed_one x m r h i t ts c = if c then are_passed_in x (gathered_below m h i) r t else (passes_at m r h i t && all_passed x m r h (suc i) ts)

passed_at : (x : Name) (m : Gathered) (r : Tree) (h : Shape) (i : ℕ) (ts : Trees) → mention_place x ts < count ts → all_passed x m r h i ts ≡ passed_there x m r h i (i + mention_place x ts) ts (mention_place x ts)
passed_at x m r h i none l = absurd (omega (arith, l))
passed_at x m r h i (t ▸ ts) l = by (names x t) refl l (passed_at x m r h (suc i) ts)
  where
    by : (c : Bool) → names x t ≡ c → mention_place x (t ▸ ts) < count (t ▸ ts) → (mention_place x ts < count ts → all_passed x m r h (suc i) ts ≡ passed_there x m r h (suc i) (suc i + mention_place x ts) ts (mention_place x ts)) → all_passed x m r h i (t ▸ ts) ≡ passed_there x m r h i (i + mention_place x (t ▸ ts)) (t ▸ ts) (mention_place x (t ▸ ts))
    by true e l f = ap (passed_one x m r h i t ts) e ∙ sym (ap (λ p. passed_there x m r h i (i + p) (t ▸ ts) p) (place_here x t ts e) ∙ ap (λ j. passed_there x m r h i j (t ▸ ts) 0) (omega arith))
    by false e l f =
        let q = mention_place x ts in
        let later = place_later x t ts e in
        ap (passed_one x m r h i t ts) e ∙ ap (λ c. passes_at m r h i t && c) (f (omega (arith, l, later))) ∙ and_assoc (passes_at m r h i t) (all_pass m r h (suc i) (first_children q ts)) (are_passed_in x (gathered_below m h (suc i + q)) r (child_or_absent ts q))
        ∙ sym (ap (λ p. passed_there x m r h i (i + p) (t ▸ ts) p) later ∙ ap (λ j. passed_there x m r h i j (t ▸ ts) (suc q)) (omega arith))

passed_nowhere : (x : Name) (m : Gathered) (r : Tree) (h : Shape) (i : ℕ) (ts : Trees) → count ts ≤ mention_place x ts → all_passed x m r h i ts ≡ all_pass m r h i (first_children (count ts) ts)
passed_nowhere x m r h i none l = refl
passed_nowhere x m r h i (t ▸ ts) l = by (names x t) refl l (passed_nowhere x m r h (suc i) ts)
  where
    by : (c : Bool) → names x t ≡ c → count (t ▸ ts) ≤ mention_place x (t ▸ ts) → (count ts ≤ mention_place x ts → all_passed x m r h (suc i) ts ≡ all_pass m r h (suc i) (first_children (count ts) ts)) → all_passed x m r h i (t ▸ ts) ≡ (passes_at m r h i t && all_pass m r h (suc i) (first_children (count ts) ts))
    by true e l f = let here = place_here x t ts e in absurd (omega (arith, l, here))
    by false e l f = let later = place_later x t ts e in ap (passed_one x m r h i t ts) e ∙ ap (λ c. passes_at m r h i t && c) (f (omega (arith, l, later)))

-- the part that mentions the name, by its place
begun_at : (a b c : Bool) → (a || (b && (c || true))) ≡ (a || b)
begun_at true b c = refl
begun_at false true true = refl
begun_at false true false = refl
begun_at false false c = refl

later_at : (a b c : Bool) → (a || (b && (c || false))) ≡ (a || (b && c))
later_at true b c = refl
later_at false true true = refl
later_at false true false = refl
later_at false false c = refl

reached_place : (x : Name) (m : Gathered) (r : Tree) (h : Shape) (ts : Trees) → is_reached x m r h ts ≡ is_reached_at m r h (mention_place x ts)
reached_place x m r h none = begun_at (is_constant r) (is_placed m (is_effect_free r) h) (is_sure (is_effect_free r) h)
reached_place x m r h (t ▸ ts) = by (names x t) refl
  where
    by : (c : Bool) → names x t ≡ c → is_reached x m r h (t ▸ ts) ≡ is_reached_at m r h (mention_place x (t ▸ ts))
    by true e = ap (λ c. is_constant r || (is_placed m (is_effect_free r) h && (is_sure (is_effect_free r) h || c))) e ∙ begun_at (is_constant r) (is_placed m (is_effect_free r) h) (is_sure (is_effect_free r) h) ∙ sym (ap (is_reached_at m r h) (place_here x t ts e))
    by false e = ap (λ c. is_constant r || (is_placed m (is_effect_free r) h && (is_sure (is_effect_free r) h || c))) e ∙ later_at (is_constant r) (is_placed m (is_effect_free r) h) (is_sure (is_effect_free r) h) ∙ sym (ap (is_reached_at m r h) (place_later x t ts e))

reached_by : (x : Name) (m : Gathered) (r : Tree) (h : Shape) (ts : Trees) (p : ℕ) → p ≡ mention_place x ts → is_reached x m r h ts ≡ is_reached_at m r h p
reached_by x m r h ts p e = reached_place x m r h ts ∙ sym (ap (is_reached_at m r h) e)

none_passed : (x : Name) (m : Gathered) (r : Tree) (h : Shape) (ts : Trees) (p : ℕ) → p ≡ mention_place x ts → all_pass m r h 0 (first_children p ts) ≡ false → all_passed x m r h 0 ts ≡ false
none_passed x m r h ts p e f = by (ltb p (count ts)) refl
  where
    by : (b : Bool) → ltb p (count ts) ≡ b → all_passed x m r h 0 ts ≡ false
    by true k =
        let less = ltb-true p (count ts) k in
        passed_at x m r h 0 ts (omega (arith, e, less)) ∙ sym (ap (λ q. passed_there x m r h 0 (0 + q) ts q) e) ∙ ap (λ c. c && are_passed_in x (gathered_below m h (0 + p)) r (child_or_absent ts p)) f
    by false k =
        let more = ltb-false p (count ts) k in
        let within = place_within x ts in
        let same : count ts ≡ p = omega (arith, e, more, within) in
        passed_nowhere x m r h 0 ts (omega (arith, e, more)) ∙ ap (λ j. all_pass m r h 0 (first_children j ts)) same ∙ f

-- what is asked of a node beside that
abbrev before_passed : Name → Gathered → Tree → Shape → Trees → Bool → Bool → Bool
before_passed x m r h ts a b = a && (b && all_passed x m r h 0 ts)

pub passed_none : (x : Name) (m : Gathered) (r t : Tree) (p : ℕ) → p ≡ mention_place x (children t) → may_reach x m r t p ≡ false → are_passed_in x m r t ≡ false
passed_none x m r (node h xs n ts) p e f = by (suits x r h ts) (is_reached_at m r h p) refl refl f
  where
    by : (a b : Bool) → suits x r h ts ≡ a → is_reached_at m r h p ≡ b → (a && (b && all_pass m r h 0 (first_children p ts))) ≡ false → (suits x r h ts && (is_reached x m r h ts && all_passed x m r h 0 ts)) ≡ false
    by false b j k f = ap (λ c. c && (is_reached x m r h ts && all_passed x m r h 0 ts)) j
    by true true j k f = (λ q. before_passed x m r h ts (j q) ((reached_by x m r h ts p e ∙ k) q)) ∙ none_passed x m r h ts p e f
    by true false j k f = λ q. before_passed x m r h ts (j q) ((reached_by x m r h ts p e ∙ k) q)

-- it is as what is asked of the parts before
reached_all : (x : Name) (m : Gathered) (r : Tree) (h : Shape) (ts : Trees) (p : ℕ) → p ≡ mention_place x ts → (suits x r h ts && (is_reached_at m r h p && all_pass m r h 0 (first_children p ts))) ≡ true → ((suits x r h ts && (is_reached x m r h ts && all_passed x m r h 0 ts)) ≡ all_passed x m r h 0 ts) × (all_pass m r h 0 (first_children p ts) ≡ true)
reached_all x m r h ts p e f =
    let (j, g) = and_parts (suits x r h ts) (is_reached_at m r h p && all_pass m r h 0 (first_children p ts)) f in
    let (k, a) = and_parts (is_reached_at m r h p) (all_pass m r h 0 (first_children p ts)) g in
    (λ q. before_passed x m r h ts (j q) ((reached_by x m r h ts p e ∙ k) q), a)

pub passed_all : (x : Name) (m : Gathered) (r t : Tree) (p : ℕ) → p ≡ mention_place x (children t) → count (children t) ≤ p → may_reach x m r t p ≡ true → are_passed_in x m r t ≡ true
passed_all x m r (node h xs n ts) p e l f =
    let (k, g) = reached_all x m r h ts p e f in
    let within = place_within x ts in
    let same : count ts ≡ p = omega (arith, e, l, within) in
    k ∙ passed_nowhere x m r h 0 ts (omega (arith, e, l)) ∙ ap (λ j. all_pass m r h 0 (first_children j ts)) same ∙ g

pub passed_below : (x : Name) (m : Gathered) (r t : Tree) (p : ℕ) → p ≡ mention_place x (children t) → p < count (children t) → may_reach x m r t p ≡ true → are_passed_in x m r t ≡ are_passed_in x (gathered_below m (shape_of t) p) r (part t p)
passed_below x m r (node h xs n ts) p e l f =
    let (k, g) = reached_all x m r h ts p e f in
    k ∙ passed_at x m r h 0 ts (omega (arith, e, l)) ∙ sym (ap (λ q. passed_there x m r h 0 (0 + q) ts q) e) ∙ ap (λ c. c && are_passed_in x (gathered_below m h (0 + p)) r (child_or_absent ts p)) g ∙ ap (λ j. are_passed_in x (gathered_below m h j) r (child_or_absent ts p)) (omega arith)

-- of a statement

pub no_part : (x : Name) (t : Tree) → count (children t) ≡ 0 → reads_first x t ≡ false
no_part x (node h xs n none) e = refl
no_part x (node h xs n (t ▸ ts)) e = absurd (omega (arith, e))

pub reads_by : (x : Name) (t : Tree) (m f a : Bool) → 0 < count (children t) → m ≡ is_head t → f ≡ is_first x false (part t 0) → a ≡ any_names x (rest_children 1 (children t)) → reads_first x t ≡ (m && (f && not a))
reads_by x (node h xs n none) m f a s e g i = absurd (omega (arith, s))
reads_by x (node h xs n (t ▸ ts)) m f a s e g i = and_assoc (is_head_shape h) (is_nameless (node h xs n (t ▸ ts))) (is_first x false t && not (any_names x ts)) ∙ sym (λ k. e k && (g k && not ((i ∙ ap (any_names x) (no_first ts)) k)))

pub no_head : (x : Name) (t : Tree) → is_head t ≡ false → reads_first x t ≡ false
no_head x (node h xs n none) e = refl
no_head x (node h xs n (t ▸ ts)) e = reads_by x (node h xs n (t ▸ ts)) false (is_first x false t) (any_names x (rest_children 1 (t ▸ ts))) (omega arith) (sym e) refl refl

pub head_not_read : (x : Name) (t : Tree) → 0 < count (children t) → is_first x false (part t 0) ≡ false → reads_first x t ≡ false
head_not_read x t s e = reads_by x t (is_head t) false (any_names x (rest_children 1 (children t))) s refl (sym e) refl ∙ and_false (is_head t)

pub head_read_by : (x : Name) (t : Tree) (a : Bool) → 0 < count (children t) → is_head t ≡ true → is_first x false (part t 0) ≡ true → a ≡ any_names x (rest_children 1 (children t)) → reads_first x t ≡ not a
head_read_by x t a s e f g = reads_by x t true true a s (sym e) (sym f) g

-- a property, shorthand and in full
pub stays_in_full : (t : Tree) → is_short (shape_of t) ≡ false → written_in_full t ≡ t
stays_in_full (node h xs n ts) e = ap (λ b. node (if b then shape.ObjectProperty Init false false false else h) xs n ts) e

pub now_in_full : (t : Tree) → is_short (shape_of t) ≡ true → written_in_full t ≡ node (shape.ObjectProperty Init false false false) (names_of t) (number_of t) (children t)
now_in_full (node h xs n ts) e = ap (λ b. node (if b then shape.ObjectProperty Init false false false else h) xs n ts) e

pub put_leaf : (x : Name) (r t : Tree) → count (children t) ≡ 0 → put_first x r t ≡ r
put_leaf x r (node h xs n none) e = refl
put_leaf x r (node h xs n (t ▸ ts)) e = absurd (omega (arith, e))

abbrev put_one : Name → Tree → Tree → Trees → Bool → Trees
put_one x r t ts c = if c then put_first x r t ▸ ts else t ▸ put_among x r ts

abbrev put_there : Name → Tree → Trees → ℕ → Trees
put_there x r us p = with_child us p (put_first x r (child_or_absent us p))

pub put_at : (x : Name) (r : Tree) (ts : Trees) → mention_place x ts < count ts → put_among x r ts ≡ with_child ts (mention_place x ts) (put_first x r (child_or_absent ts (mention_place x ts)))
put_at x r none l = absurd (omega (arith, l))
put_at x r (t ▸ ts) l = by (names x t) refl l (put_at x r ts)
  where
    by : (c : Bool) → names x t ≡ c → mention_place x (t ▸ ts) < count (t ▸ ts) → (mention_place x ts < count ts → put_among x r ts ≡ put_there x r ts (mention_place x ts)) → put_among x r (t ▸ ts) ≡ put_there x r (t ▸ ts) (mention_place x (t ▸ ts))
    by true e l f = ap (put_one x r t ts) e ∙ sym (ap (put_there x r (t ▸ ts)) (place_here x t ts e))
    by false e l f = let later = place_later x t ts e in ap (put_one x r t ts) e ∙ ap (λ us. t ▸ us) (f (omega (arith, l, later))) ∙ sym (ap (put_there x r (t ▸ ts)) later)

put_nowhere : (x : Name) (r : Tree) (ts : Trees) → count ts ≤ mention_place x ts → put_among x r ts ≡ ts
put_nowhere x r none l = refl
put_nowhere x r (t ▸ ts) l = by (names x t) refl l (put_nowhere x r ts)
  where
    by : (c : Bool) → names x t ≡ c → count (t ▸ ts) ≤ mention_place x (t ▸ ts) → (count ts ≤ mention_place x ts → put_among x r ts ≡ ts) → put_among x r (t ▸ ts) ≡ t ▸ ts
    by true e l f = let here = place_here x t ts e in absurd (omega (arith, l, here))
    by false e l f = let later = place_later x t ts e in ap (λ c. if c then put_first x r t ▸ ts else t ▸ put_among x r ts) e ∙ ap (λ us. t ▸ us) (f (omega (arith, l, later)))

pub put_none : (x : Name) (r t : Tree) (p : ℕ) → 0 < count (children t) → p ≡ mention_place x (children t) → count (children t) ≤ p → put_first x r t ≡ written_in_full t
put_none x r (node h xs n none) p s e l = absurd (omega (arith, s))
put_none x r (node h xs n (t ▸ ts)) p s e l = ap (node (in_full h) xs n) (put_nowhere x r (t ▸ ts) (omega (arith, e, l)))

pub smaller_at : (t u : Tree) (p : ℕ) → p < count (children t) → u ≡ part t p → node_count u < node_count t
smaller_at (node h xs n ts) u p l e = let same = ap node_count e in let less = go ts p l in omega (arith, same, less)
  where
    go : (ts : Trees) (p : ℕ) → p < count ts → node_count (child_or_absent ts p) ≤ node_counts ts
    go none p l = absurd (omega (arith, l))
    go (t ▸ ts) zero l = omega arith
    go (t ▸ ts) (suc p) l = let rest = go ts p (omega (arith, l)) in omega (arith, rest)

pub part_smaller : (t u : Tree) → 0 < count (children t) → u ≡ part t 0 → node_count u < node_count t
part_smaller t u e f = smaller_at t u 0 e f

-- ---- the last declarator

pub last_is : (ts : Trees) → 0 < count ts → last_place ts + 1 ≡ count ts
last_is none h = absurd (omega (arith, h))
last_is (t ▸ none) h = refl
last_is (t ▸ (u ▸ ts)) h = let rest = last_is (u ▸ ts) (omega arith) in omega (arith, rest)

pub no_declarator : (free : Bool) (W : Liberties) (l o : Tree) (ts : Trees) (i j : ℕ) → count (children l) ≡ 0 → is_single_declarator free W l j o ts i ≡ false
no_declarator free W (node h xs n none) o ts i j e = refl
no_declarator free W (node h xs n (t ▸ us)) o ts i j e = absurd (omega (arith, e))

pub read_next : (x : Name) (r : Tree) (ts : Trees) (i : ℕ) → takes x r (child_or_absent ts (i + 1)) ≡ reads_next x r ts i
read_next x r ts i = ap (λ k. takes x r (child_or_absent ts k)) (add-one i)

pub single_by : (W : Liberties) (o : Tree) (ts : Trees) (i : ℕ) (statement l : Tree) (n : ℕ) (free r : Bool) → statement ≡ child_or_absent ts i → may_declare o statement ≡ true → l ≡ part statement 0 → n ≡ last_place (children l) → free ≡ is_lexical_shape (shape_of statement) → r ≡ is_single_declarator free W l n o ts i → r ≡ is_single W o ts i
single_by W o ts i statement l n free r s e f g z h =
    let there : l ≡ list_at ts i = f ∙ ap (λ t. part t 0) s in
    let is_free : free ≡ is_free_at ts i = z ∙ ap (λ t. is_lexical_shape (shape_of t)) s in
    h ∙ (λ k. is_single_declarator (is_free k) W (there k) ((g ∙ ap (λ t. last_place (children t)) there) k) o ts i)
    ∙ sym (ap (λ b. b && is_single_declarator (is_free_at ts i) W (list_at ts i) (last_place (children (list_at ts i))) o ts i) (ap (may_declare o) (sym s) ∙ e))

pub last_rest : (ts : Trees) → rest_children (suc (last_place ts)) ts ≡ none
last_rest none = refl
last_rest (t ▸ none) = refl
last_rest (t ▸ (u ▸ ts)) = last_rest (u ▸ ts)

pub last_there : (ts : Trees) (d : Tree) → last_place (append ts (d ▸ none)) ≡ count ts
last_there none d = refl
last_there (t ▸ none) d = refl
last_there (t ▸ (u ▸ ts)) d = ap suc (last_there (u ▸ ts) d)

pub none_after : (ts : Trees) → append ts none ≡ ts
none_after none = refl
none_after (t ▸ ts) = ap (λ us. t ▸ us) (none_after ts)

-- ---- two neighbours

pub next_part : (t : Tree) (i : ℕ) (x : Tree) → part (with_part t i x) (suc i) ≡ part t (suc i)
next_part (node h xs n ts) i x = go ts i
  where
    go : (ts : Trees) (i : ℕ) → child_or_absent (with_child ts i x) (suc i) ≡ child_or_absent ts (suc i)
    go none i = refl
    go (t ▸ ts) zero = refl
    go (t ▸ ts) (suc i) = go ts i

pub with_two : (ts : Trees) (i : ℕ) (x y : Tree) → suc i < count ts → with_child (with_child ts i x) (suc i) y ≡ append (first_children i ts) (x ▸ (y ▸ rest_children (suc (suc i)) ts))
with_two none i x y h = absurd (omega (arith, h))
with_two (t ▸ none) i x y h = absurd (omega (arith, h))
with_two (t ▸ (u ▸ ts)) zero x y h = ap (λ us. x ▸ (y ▸ us)) (sym (no_first ts))
with_two (t ▸ (u ▸ ts)) (suc i) x y h = ap (λ us. t ▸ us) (with_two (u ▸ ts) i x y (omega (arith, h)))

pub next_there : (ts : Trees) (d e : Tree) (us : Trees) → child_or_absent (append ts (d ▸ (e ▸ us))) (suc (count ts)) ≡ e
next_there none d e us = refl
next_there (t ▸ ts) d e us = next_there ts d e us

pub rest_there : (ts : Trees) (d e : Tree) (us : Trees) → rest_children (suc (suc (count ts))) (append ts (d ▸ (e ▸ us))) ≡ us
rest_there none d e us = no_first us
rest_there (t ▸ ts) d e us = rest_there ts d e us

pub within_there : (ts : Trees) (d e : Tree) (us : Trees) → suc (count ts) < count (append ts (d ▸ (e ▸ us)))
within_there none d e us = omega arith
within_there (t ▸ ts) d e us = let within = within_there ts d e us in omega (arith, within)

-- ---- what is written is what the row says

record Once (x : Name) (init : Tree) (ds : Trees) (j : ℕ) (ts : Trees) (i : ℕ) : Type 0 where
  taken : takes x init (child_or_absent ts (suc i)) ≡ true
  initial : names x init ≡ false
  declared_earlier : any_names x (first_children j ds) ≡ false
  earlier : any_names x (first_children i ts) ≡ false
  later : any_names x (rest_children (suc (suc i)) ts) ≡ false

pub neither : (a b : Bool) → not (a || b) ≡ true → (a ≡ false) × (b ≡ false)
neither true b e = absurd (true≢false (sym e))
neither false true e = absurd (true≢false (sym e))
neither false false e = (refl, refl)

read_once : (x : Name) (init : Tree) (ds : Trees) (j : ℕ) (ts : Trees) (i : ℕ) → is_read_once (x ∷ []) no_outside init ds j ts i ≡ true → Once x init ds j ts i
read_once x init ds j ts i e =
    let a = reads_next x init ts i in
    let (p, q) = and_parts a (not (is_declared_over x init ds j) && not (is_mentioned_around x ts i)) e in
    let (r, s) = and_parts (not (is_declared_over x init ds j)) (not (is_mentioned_around x ts i)) q in
    let (t, u) = neither (names x init) (any_names x (first_children j ds)) r in
    let (w, v) = neither (any_names x (rest_children (suc (suc i)) ts)) (any_names x (first_children i ts)) s in
    record { taken = p; initial = t; declared_earlier = u; earlier = v; later = w }

abbrev pub block_single : Tree → ℕ → ℕ → Tree
block_single t i j = with_part t 0 (list_single (part t 0) i j)

module _ (t : Tree) (i : ℕ) (b : is_block t ≡ true) (next : suc i < count (children (part t 0))) (some : 0 < count (children (list_at (children (part t 0)) i))) (W : Liberties) (single : is_single W no_outside (children (part t 0)) i ≡ true) (v : has_eval t ≡ false) where
  abbrev ts : Trees
  ts = children (part t 0)

  abbrev statement : Tree
  statement = child_or_absent ts i

  abbrev ds : Trees
  ds = children (part statement 0)

  abbrev j : ℕ
  j = last_place ds

  abbrev d : Tree
  d = child_or_absent ds j

  abbrev init : Tree
  init = part d 1

  abbrev head : Tree
  head = child_or_absent ts (suc i)

  abbrev before : Trees
  before = first_children i ts

  abbrev after : Trees
  after = rest_children (suc (suc i)) ts

  abbrev first : Trees
  first = first_children j ds

  abbrev once_there : Bool
  once_there = is_read_once (names_of (part d 0)) no_outside init ds j ts i

  abbrev lost : Bool
  lost = may_lose (is_free_at ts i) W (names_of (part d 0))

  tests : (declares_list statement ≡ true) × (declares_name d ≡ true) × (may_move W.switches init ≡ true) × (once_there ≡ true) × (lost ≡ true)
  tests =
      let (a, p) = and_parts (declares_list statement) (declares_name d && (lost && (may_move W.switches init && once_there))) single in
      let (c, q) = and_parts (declares_name d) (lost && (may_move W.switches init && once_there)) p in
      let (l, m) = and_parts lost (may_move W.switches init && once_there) q in
      let (f, r) = and_parts (may_move W.switches init) once_there m in
      (a, c, f, r, l)

  abbrev kind : VariableDeclarationKind
  kind = (a_declaration statement tests.0).0

  let_there : statement ≡ declaration kind ds
  let_there = (a_declaration statement tests.0).1

  abbrev one : Declares d
  one = declares d tests.1

  abbrev x : Name
  x = resolved one.spelling one.symbol

  goes : lets_go W.writable kind one.symbol ≡ true
  goes = sym (λ k. may_lose (is_lexical_shape (shape_of (let_there k))) W (names_of (part (one.is k) 0))) ∙ tests.4

  reading : Once x init ds j ts i
  reading = read_once x init ds j ts i (sym (ap (λ y. is_read_once (names_of (part y 0)) no_outside init ds j ts i) one.is) ∙ tests.3)

  last_within : j < count ds
  last_within = let same = last_is ds some in omega (arith, same)

  statement_is : statement ≡ declared_among kind x first init none
  statement_is = let_there ∙ ap (declaration kind) (parts_of ds j last_within ∙ ap (λ us. append first (d ▸ us)) (last_rest ds) ∙ ap (λ y. append first (y ▸ none)) one.is)

  block_there : t ≡ block (append before (declared_among kind x first init none ▸ (head ▸ after)))
  block_there = block_is t b ∙ ap block (parts_of ts i (let within = next in omega (arith, within)) ∙ ap (λ us. append before (statement ▸ us)) (next_child ts (suc i) next) ∙ ap (λ y. append before (y ▸ (head ▸ after))) statement_is)

  left_there : declaration_left statement j ≡ declared_left kind first
  left_there = ap (λ y. declaration_left y j) let_there ∙ left_is kind ds j last_within ∙ ap (λ us. declared_left kind (append first us)) (last_rest ds) ∙ ap (declared_left kind) (none_after first)

  named_there : put_named (names_of (part d 0)) init head ≡ put_first x init head
  named_there = ap (λ y. put_named (names_of (part y 0)) init head) one.is

  written_there : (u : Tree) → u ≡ block_single t i j → u ≡ block (append before (declared_left kind first ▸ (put_first x init head ▸ after)))
  written_there u f =
      f ∙ ap (λ y. block_single y i j) (block_is t b) ∙ ap block (with_two ts i (declaration_left statement j) (put_named (names_of (part d 0)) init head) next) ∙ (λ k. block (append before (left_there k ▸ (named_there k ▸ after))))

  pub row_there : (u : Tree) → u ≡ block_single t i j → Row71 W t u
  row_there u f = record {
    before = before;
    kind = kind;
    goes = goes;
    first = first;
    spelling = one.spelling;
    symbol = one.symbol;
    init = init;
    head = head;
    after = after;
    moves = tests.2;
    taken = reading.taken;
    earlier = reading.earlier;
    declared_earlier = reading.declared_earlier;
    initial = reading.initial;
    later = reading.later;
    unseen = sym (ap has_eval block_there) ∙ v;
    shape = block_there;
    written = written_there u f;
  }

  -- whether it is of a `var`
  pub single_told : (u : Tree) (f : u ≡ block_single t i j) → not (kinds.is_lexical (row_there u f).kind) ≡ not (is_lexical_shape (shape_of statement))
  unfolding row_there
  single_told u f = ap (λ y. not (is_lexical_shape (shape_of y))) (sym let_there)

-- ---- where nothing is written no row reads it

module _ (W : Liberties) (t w : Tree) (r : Row71 W t w) where
  abbrev named : Name
  named = resolved r.spelling r.symbol

  abbrev declared : Tree
  declared = declarator (binding named) r.init

  abbrev declarators : Trees
  declarators = append r.first (declared ▸ none)

  abbrev pub stated : Tree
  stated = declaration r.kind declarators

  abbrev statements : Trees
  statements = append r.before (stated ▸ (r.head ▸ r.after))

  once_is : is_read_once (named ∷ []) no_outside r.init declarators (count r.first) statements (count r.before) ≡ true
  once_is =
      let y = named in
      let all = λ (a b c d f : Bool). a && (not (b || c) && not (d || f)) in
      let head_there = ap (takes y r.init) (next_there r.before stated r.head r.after) ∙ r.taken in
      let first_ds = ap (any_names y) (there_first r.first declared none) ∙ r.declared_earlier in
      let first_ts = ap (any_names y) (there_first r.before stated (r.head ▸ r.after)) ∙ r.earlier in
      let rest_ts = ap (any_names y) (rest_there r.before stated r.head r.after) ∙ r.later in
      λ k. all (head_there k) (r.initial k) (first_ds k) (rest_ts k) (first_ts k)

  pub single_there : is_single W no_outside (children (part t 0)) (count r.before) ≡ true
  single_there =
      let i = count r.before in
      ap (λ v. is_single W no_outside (children (part v 0)) i) r.shape
      ∙ ap (λ c. declares_list c && is_single_declarator (is_lexical_shape (shape_of c)) W (part c 0) (last_place (children (part c 0))) no_outside statements i) (there_child r.before stated (r.head ▸ r.after))
      ∙ ap (λ j. is_single_declarator (kinds.is_lexical r.kind) W (part stated 0) j no_outside statements i) (last_there r.first declared)
      ∙ ap (λ c. declares_name c && (may_lose (kinds.is_lexical r.kind) W (names_of (part c 0)) && (may_move W.switches (part c 1) && is_read_once (names_of (part c 0)) no_outside (part c 1) declarators (count r.first) statements i))) (there_child r.first declared none)
      ∙ and_both (lets_go W.writable r.kind r.symbol) (may_move W.switches r.init && is_read_once (named ∷ []) no_outside r.init declarators (count r.first) statements i) r.goes (and_both (may_move W.switches r.init) (is_read_once (named ∷ []) no_outside r.init declarators (count r.first) statements i) r.moves once_is)

  pub single_within : suc (count r.before) < count (children (part t 0))
  single_within = subst (λ v. suc (count r.before) < count (children (part v 0))) (sym r.shape) (within_there r.before stated r.head r.after)

pub none_single : (W : Liberties) (t : Tree) → ((i : ℕ) → suc i < count (children (part t 0)) → is_single W no_outside (children (part t 0)) i ≡ false) → (w : Tree) → Row71 W t w → ⊥
none_single W t f w r = true≢false (sym (single_there W t w r) ∙ f (count r.before) (single_within W t w r))
