-- The index of a node of ESTree below another, by the child that holds it.
use Rattle.std.proofs.Common.{◌≡◌, ℕ, zero, suc, ◌+◌, ◌-◌, ◌<◌, ◌≤◌, Bool, true, false, nat_lt, ◌∷◌, refl, sym, ap, ◌∙◌, subst, arith, add-one}
use Rattle.std.specs.Prelude.{Option, Some, None, is_some, option_map, option_and_then, if◌then◌else◌}
use Rattle.std.proofs.lemmas.Bool.{false≢true}
use Rattle.std.proofs.lemmas.Bool.Decides.{nat_tests}
use Rattle.mini_model.specs.declared.place.Position.{Position}
use Rattle.mini_model.specs.Paths.{Path, append, child_at, node_at, stands_for, spread, Standing, Node, Holder, Missing, standing, by_standing, width}
use Rattle.mini_model.specs.Tree.{Tree, Trees, node, none, ◌▸◌, count, child_or_absent}
use Rattle.mini_node.specs.Children.{with_child}
use Rattle.mini_log.specs.Walk.{step_at, step_in}
use Rattle.mini_replay.specs.Seeking.{IsPath, further, before}

zero_plus : (n : ℕ) → 0 + n ≡ n
zero_plus n = omega arith

less : (a b : ℕ) → a < b → nat_lt a b ≡ true
less a b h = grind (arith, nat_tests)

not_less : (a b : ℕ) → b ≤ a → nat_lt a b ≡ false
not_less a b h = grind (arith, nat_tests)

pub lt_of : (a b : ℕ) → nat_lt a b ≡ true → a < b
lt_of a b e = grind (arith, nat_tests)

pub le_of : (a b : ℕ) → nat_lt a b ≡ false → b ≤ a
le_of a b e = grind (arith, nat_tests)

plus_minus : (w j : ℕ) → w + j - w ≡ j
plus_minus w j = omega arith

-- ---- how many there are

pub count_append : (ts us : Trees) → count (append ts us) ≡ count ts + count us
count_append none us = sym (zero_plus (count us))
count_append (t ▸ ts) us = let e = count_append ts us in omega (arith, e)

next_by : (ts : Trees) (k : ℕ) → k < count ts → before ts (suc k) ≡ before ts k + width (child_or_absent ts k)
next_by none k h = absurd (omega (arith, h))
next_by (t ▸ none) zero h = omega arith
next_by (t ▸ (u ▸ ts)) zero h = omega arith
next_by (t ▸ ts) (suc k) h = let e = next_by ts k (omega (arith, h)) in omega (arith, e)

pub next : (ts : Trees) (k : ℕ) → k < count ts → before ts (k + 1) ≡ before ts k + width (child_or_absent ts k)
next ts k h = ap (before ts) (add-one k) ∙ next_by ts k h

pub none_before : (ts : Trees) → 0 ≡ before ts 0
none_before none = refl
none_before (t ▸ ts) = refl

-- one more of them
pub one_more : (ts : Trees) (k old w new : ℕ) (c : Tree) → k < count ts → c ≡ child_or_absent ts k → w ≡ width c → new ≡ old + w → old ≡ before ts k → new ≡ before ts (k + 1)
one_more ts k old w new c h e f g o = let one = next ts k h in let same = f ∙ ap width e in omega (arith, one, same, g, o)

pub all_before : (ts : Trees) (k : ℕ) → count ts ≤ k → before ts k ≡ count (spread ts)
all_before none k h = refl
all_before (t ▸ ts) zero h = absurd (omega (arith, h))
all_before (t ▸ ts) (suc k) h = let e = all_before ts k (omega (arith, h)) in let f : count (spread (t ▸ ts)) ≡ width t + count (spread ts) = count_append (stands_for t) (spread ts) in omega (arith, e, f)

pub at_most : (ts : Trees) (k : ℕ) → k < count ts → before ts k + width (child_or_absent ts k) ≤ count (spread ts)
at_most none k h = absurd (omega (arith, h))
at_most (t ▸ ts) zero h = let f : count (spread (t ▸ ts)) ≡ width t + count (spread ts) = count_append (stands_for t) (spread ts) in omega (arith, f)
at_most (t ▸ ts) (suc k) h = let e = at_most ts k (omega (arith, h)) in let f : count (spread (t ▸ ts)) ≡ width t + count (spread ts) = count_append (stands_for t) (spread ts) in omega (arith, e, f)

-- ---- the child that holds an index

pub record Holds (ts : Trees) (i : ℕ) : Type 0 where
  pub at : ℕ
  pub index : ℕ
  pub there : at < count ts
  pub inside : index < width (child_or_absent ts at)
  pub is : i ≡ before ts at + index

held_by : (t : Tree) (ts : Trees) (i : ℕ) (b : Bool) → nat_lt i (width t) ≡ b → (width t ≤ i → Holds ts (i - width t)) → Holds (t ▸ ts) i
held_by t ts i true e later = record { at = 0; index = i; there = omega arith; inside = lt_of i (width t) e; is = sym (zero_plus i) }
held_by t ts i false e later =
    let past : width t ≤ i = le_of i (width t) e in
    let r = later past in
    let rest = r.is in
    let there = r.there in
    record { at = suc r.at; index = r.index; there = omega (arith, there); inside = r.inside; is = omega (arith, rest, past) }

pub held : (ts : Trees) (i : ℕ) → i < count (spread ts) → Holds ts i
held none i h = absurd (omega (arith, h))
held (t ▸ ts) i h =
    let whole : count (spread (t ▸ ts)) ≡ width t + count (spread ts) = count_append (stands_for t) (spread ts) in
    held_by t ts i (nat_lt i (width t)) refl (λ past. held ts (i - width t) (omega (arith, h, whole, past)))

-- ---- a step on a path that goes on with it

map_map : {A B C : Type 0} (f : A → B) (g : B → C) (o : Option A) → option_map g (option_map f o) ≡ option_map (λ x. g (f x)) o
map_map f g None = refl
map_map f g (Some x) = refl

pub step_there : (f : Position → Tree → Path → Option Tree) (π : ℕ → Position) (ts : Trees) (k i : ℕ) (q : Path) → k < count ts → i < width (child_or_absent ts k) →
    step_in f π ts (before ts k + i) q ≡ option_map (with_child ts k) (step_at f (π k) (child_or_absent ts k) (further (child_or_absent ts k) i q))
step_there f π none k i q h w = absurd (omega (arith, h))
step_there f π (t ▸ ts) zero i q h w =
    ap (λ j. step_in f π (t ▸ ts) j q) (zero_plus i)
    ∙ ap (λ b. if b then option_map (λ u. u ▸ ts) (step_at f (π zero) t (further t i q)) else option_map (λ us. t ▸ us) (step_in f (λ j. π (suc j)) ts (i - width t) q)) (less i (width t) w)
step_there f π (t ▸ ts) (suc k) i q h w =
    ap (λ j. step_in f π (t ▸ ts) j q) (sums (width t) (before ts k) i)
    ∙ ap (λ b. if b then option_map (λ u. u ▸ ts) (step_at f (π zero) t (further t (width t + (before ts k + i)) q)) else option_map (λ us. t ▸ us) (step_in f (λ j. π (suc j)) ts (width t + (before ts k + i) - width t) q))
    (not_less (width t + (before ts k + i)) (width t) (omega arith))
    ∙ ap (λ j. option_map (λ us. t ▸ us) (step_in f (λ j. π (suc j)) ts j q)) (plus_minus (width t) (before ts k + i))
    ∙ ap (option_map (λ us. t ▸ us)) (step_there f (λ j. π (suc j)) ts k i q (omega (arith, h)) w)
    ∙ map_map (with_child ts k) (λ us. t ▸ us) (step_at f (π (suc k)) (child_or_absent ts k) (further (child_or_absent ts k) i q))
  where
    sums : (a b c : ℕ) → a + b + c ≡ a + (b + c)
    sums a b c = omega arith

-- ---- a path that goes on with it

some_inside : (ts : Trees) (i : ℕ) → count ts ≤ i → child_at ts i ≡ None
some_inside none i h = refl
some_inside (t ▸ ts) zero h = absurd (omega (arith, h))
some_inside (t ▸ ts) (suc i) h = some_inside ts i (omega (arith, h))

inside_by : (us : Trees) (i : ℕ) (q : Path) (b : Bool) → nat_lt i (count us) ≡ b → is_some (option_and_then (node_at q) (child_at us i)) ≡ true → i < count us
inside_by us i q true d e = lt_of i (count us) d
inside_by us i q false d e = absurd (false≢true (sym (ap (λ o. is_some (option_and_then (node_at q) o)) (some_inside us i (le_of i (count us) d))) ∙ e))

pub path_inside : (ts : Trees) (i : ℕ) (q : Path) → is_some (option_and_then (node_at q) (child_at (spread ts) i)) ≡ true → i < count (spread ts)
path_inside ts i q e = inside_by (spread ts) i q (nat_lt i (count (spread ts))) refl e

first_ones : (us vs : Trees) (i : ℕ) → i < count us → child_at (append us vs) i ≡ child_at us i
first_ones none vs i h = absurd (omega (arith, h))
first_ones (u ▸ us) vs zero h = refl
first_ones (u ▸ us) vs (suc i) h = first_ones us vs i (omega (arith, h))

last_ones : (us vs : Trees) (i : ℕ) → child_at (append us vs) (count us + i) ≡ child_at vs i
last_ones none vs i = ap (child_at vs) (zero_plus i)
last_ones (u ▸ us) vs i = ap (child_at (u ▸ append us vs)) (out (count us) i) ∙ last_ones us vs i
  where
    out : (a b : ℕ) → suc a + b ≡ suc (a + b)
    out a b = omega arith

child_there : (ts : Trees) (k i : ℕ) → k < count ts → i < width (child_or_absent ts k) → child_at (spread ts) (before ts k + i) ≡ child_at (stands_for (child_or_absent ts k)) i
child_there none k i h w = absurd (omega (arith, h))
child_there (t ▸ ts) zero i h w = ap (child_at (append (stands_for t) (spread ts))) (zero_plus i) ∙ first_ones (stands_for t) (spread ts) i w
child_there (t ▸ ts) (suc k) i h w =
    ap (child_at (append (stands_for t) (spread ts))) (sums (width t) (before ts k) i)
    ∙ last_ones (stands_for t) (spread ts) (before ts k + i)
    ∙ child_there ts k i (omega (arith, h)) w
  where
    sums : (a b c : ℕ) → a + b + c ≡ a + (b + c)
    sums a b c = omega arith

in_child : (t : Tree) (i : ℕ) (q : Path) → i < width t → option_and_then (node_at q) (child_at (stands_for t) i) ≡ node_at (further t i q) t
in_child (node h xs n ts) i q w = by (standing h) refl (subst (λ s. i < count (by_standing s (node h xs n ts ▸ none) (spread ts) none)) refl w)
  where
    by : (s : Standing) → standing h ≡ s → i < count (by_standing s (node h xs n ts ▸ none) (spread ts) none) →
        option_and_then (node_at q) (child_at (by_standing s (node h xs n ts ▸ none) (spread ts) none) i) ≡ node_at (by_standing s q (i ∷ q) (i ∷ q)) (node h xs n ts)
    by Node e w = ap (λ j. option_and_then (node_at q) (child_at (node h xs n ts ▸ none) j)) (only i w)
      where
        only : (j : ℕ) → j < 1 → j ≡ 0
        only j w = omega (arith, w)
    by Holder e w = refl
    by Missing e w = absurd (omega (arith, w))

pub path_there : (ts : Trees) (k i : ℕ) (q : Path) → k < count ts → i < width (child_or_absent ts k) → is_some (option_and_then (node_at q) (child_at (spread ts) (before ts k + i))) ≡ true →
    IsPath (child_or_absent ts k) (further (child_or_absent ts k) i q)
path_there ts k i q h w e =
    sym (ap is_some (in_child (child_or_absent ts k) i q w)) ∙ sym (ap (λ o. is_some (option_and_then (node_at q) o)) (child_there ts k i h w)) ∙ e
