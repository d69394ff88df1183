-- How often a form stands in a tree, and what that says of trees that are built of parts.
use Rattle.std.proofs.Common.{◌≡◌, ◌<◌, ◌≤◌, ◌+◌, ℕ, zero, suc, arith, Bool, true, false, true≢false, Option, refl, sym, ap, ◌∙◌}
use Rattle.std.specs.Prelude.{◌||◌, if◌then◌else◌}
use Rattle.mini_model.specs.Tree.{Tree, Trees, node, none, ◌▸◌, child_or_absent}
use Rattle.mini_model.specs.Paths.{append}
use Rattle.mini_node.specs.Children.{part}
use Rattle.mini_rows.specs.Forms.{Form, Exponentiation, BareCatch, Coalescing, Chaining, Deciding, year, is_form, form_of, has_form, any_has_form, IsWithinEdition}

abbrev pub own_by : Bool → ℕ
own_by true = 1
own_by false = 0

-- how often a node is the form: once, or never
abbrev pub own : Form → Option Form → ℕ
own f o = own_by (is_form f o)

abbrev mutual
  pub times : Form → Tree → ℕ
  times f (node h xs n ts) = own f (form_of h ts) + all_times f ts

  pub all_times : Form → Trees → ℕ
  all_times f none = 0
  all_times f (t ▸ ts) = times f t + all_times f ts

-- where it never stands in the first tree it never stands in the second
abbrev pub Fewer : Form → Tree → Tree → Type 0
Fewer f n w = times f n ≡ 0 → times f w ≡ 0

-- each form newer than an edition
abbrev pub FewerNewer : ℕ → Tree → Tree → Type 0
FewerNewer e n w = (f : Form) → e < year f → Fewer f n w

pub written : (f : Form) {n w s t : Tree} → n ≡ s → w ≡ t → Fewer f s t → Fewer f n w
written f {n} {w} {s} {t} g k l z = ap (times f) k ∙ l (sym (ap (times f) g) ∙ z)

-- no form is newer than the edition of 2021
pub no_later : (f : Form) → year f ≤ 2021
no_later Exponentiation = omega arith
no_later BareCatch = omega arith
no_later Coalescing = omega arith
no_later Chaining = omega arith
no_later (Deciding o) = omega arith

-- ---- that it stands there

module _ (f : Form) where
  none_of : (a b : Bool) → (a || b) ≡ false → (a ≡ false) × (b ≡ false)
  none_of true b e = absurd (true≢false e)
  none_of false b e = (refl, e)

  mutual
    pub never_there : (t : Tree) → has_form f t ≡ false → times f t ≡ 0
    never_there (node h xs n ts) e =
        let (a, b) = none_of (is_form f (form_of h ts)) (any_has_form f ts) e in
        let first : own f (form_of h ts) ≡ 0 = ap own_by a in
        omega (arith, first, never_among ts b)

    never_among : (ts : Trees) → any_has_form f ts ≡ false → all_times f ts ≡ 0
    never_among none e = refl
    never_among (t ▸ ts) e =
        let (a, b) = none_of (has_form f t) (any_has_form f ts) e in
        omega (arith, never_there t a, never_among ts b)

  not_one : (b : Bool) → own_by b ≡ 0 → b ≡ false
  not_one true e = absurd (omega (arith, e))
  not_one false e = refl

  both_none : (a b : Bool) → a ≡ false → b ≡ false → (a || b) ≡ false
  both_none true b e g = e
  both_none false b e g = g

  mutual
    pub lacks_it : (t : Tree) → times f t ≡ 0 → has_form f t ≡ false
    lacks_it (node h xs n ts) e = both_none (is_form f (form_of h ts)) (any_has_form f ts) (not_one (is_form f (form_of h ts)) (omega (arith, e))) (all_lack ts (omega (arith, e)))

    all_lack : (ts : Trees) → all_times f ts ≡ 0 → any_has_form f ts ≡ false
    all_lack none e = refl
    all_lack (t ▸ ts) e = both_none (has_form f t) (any_has_form f ts) (lacks_it t (omega (arith, e))) (all_lack ts (omega (arith, e)))

pub within : (e : ℕ) (n w : Tree) → FewerNewer e n w → IsWithinEdition e n w
within e n w k f newer there = by (has_form f n) refl
  where
    by : (b : Bool) → has_form f n ≡ b → b ≡ true
    by true h = refl
    by false h = absurd (true≢false (sym there ∙ lacks_it f w (k f newer (never_there f n h))))

pub fewer_within : (e : ℕ) (n w : Tree) → IsWithinEdition e n w → FewerNewer e n w
fewer_within e n w k f newer z = by (has_form f w) refl
  where
    by : (b : Bool) → has_form f w ≡ b → times f w ≡ 0
    by true h = absurd (true≢false (sym (k f newer h) ∙ lacks_it f n z))
    by false h = never_there f w h

-- ---- lists, parts and choices

module _ (f : Form) where
  pub all_append : (ts us : Trees) → all_times f (append ts us) ≡ all_times f ts + all_times f us
  all_append none us = omega arith
  all_append (t ▸ ts) us = omega (arith, all_append ts us)

  pub child_lacks : (ts : Trees) (i : ℕ) → all_times f ts ≡ 0 → times f (child_or_absent ts i) ≡ 0
  child_lacks none i z = refl
  child_lacks (t ▸ ts) zero z = omega (arith, z)
  child_lacks (t ▸ ts) (suc i) z = child_lacks ts i (omega (arith, z))

  pub part_lacks : (t : Tree) (i : ℕ) → times f t ≡ 0 → times f (part t i) ≡ 0
  part_lacks (node h xs n ts) i z = child_lacks ts i (omega (arith, z))

  pub choice_lacks : (b : Bool) (t u : Tree) → times f t ≡ 0 → times f u ≡ 0 → times f (if b then t else u) ≡ 0
  choice_lacks true t u x y = x
  choice_lacks false t u x y = y
