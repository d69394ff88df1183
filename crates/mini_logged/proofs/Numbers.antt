-- The rows by number, one after another.
use Rattle.std.proofs.Common.{◌≡◌, refl, sym, ap, ◌∙◌, ℕ, ◌+◌, ◌<◌, ◌≤◌, Bool, true, false, nat_lt, subst, arith}
use Rattle.std.specs.Prelude.{Option, Some, None, is_some}
use Rattle.std.proofs.lemmas.Option.{none-some}
use Rattle.std.proofs.lemmas.Bool.Decides.{nat_tests}
use Rattle.mini_model.specs.declared.place.Position.{Position}
use Rattle.mini_model.specs.Tree.{Tree}
use Rattle.mini_laws.specs.Value.{VariableSet}
use Rattle.mini_log.specs.declared.row.LogRow.{LogRow}
use Rattle.mini_log.specs.declared.row.LogRow.TheVariants as row
use Rattle.mini_log.specs.RowStep.{row_number, row_numbered}
use Rattle.mini_logged.specs.Offers.{AnyOffered, NoneBefore, OfferedHere, made_here}

numbered : (r : LogRow) → row_numbered (row_number r) ≡ Some r
numbered row.Row1 = refl
numbered row.Row3 = refl
numbered row.Row7 = refl
numbered row.Row12 = refl
numbered row.Row13 = refl
numbered row.Row15 = refl
numbered row.Row19 = refl
numbered row.Row23 = refl
numbered row.Row33 = refl
numbered row.Row34 = refl
numbered row.Row39 = refl
numbered row.Row40 = refl
numbered row.Row41 = refl
numbered row.Row42 = refl
numbered row.Row49 = refl
numbered row.Row54 = refl
numbered row.Row55 = refl
numbered row.Row58 = refl
numbered row.Row60 = refl
numbered row.Row61 = refl
numbered row.Row65 = refl
numbered row.Row66 = refl
numbered row.Row79 = refl
numbered row.Row82 = refl

number_below : (r : LogRow) → row_number r < 83
number_below row.Row1 = omega arith
number_below row.Row3 = omega arith
number_below row.Row7 = omega arith
number_below row.Row12 = omega arith
number_below row.Row13 = omega arith
number_below row.Row15 = omega arith
number_below row.Row19 = omega arith
number_below row.Row23 = omega arith
number_below row.Row33 = omega arith
number_below row.Row34 = omega arith
number_below row.Row39 = omega arith
number_below row.Row40 = omega arith
number_below row.Row41 = omega arith
number_below row.Row42 = omega arith
number_below row.Row49 = omega arith
number_below row.Row54 = omega arith
number_below row.Row55 = omega arith
number_below row.Row58 = omega arith
number_below row.Row60 = omega arith
number_below row.Row61 = omega arith
number_below row.Row65 = omega arith
number_below row.Row66 = omega arith
number_below row.Row79 = omega arith
number_below row.Row82 = omega arith

pub none_yet : (W : VariableSet) (p : Position) (t : Tree) → NoneBefore W p t 0
none_yet W p t k h = absurd (omega (arith, h))

pub none_next : (W : VariableSet) (p : Position) (t : Tree) (n : ℕ) (o : Option LogRow) → o ≡ None → OfferedHere W p t n o → NoneBefore W p t n → NoneBefore W p t (n + 1)
none_next W p t n o same here yet k h r e = by (nat_lt k n) refl
  where
    lt_of : (a b : ℕ) → nat_lt a b ≡ true → a < b
    lt_of a b e = grind (arith, nat_tests)

    last_of : (a b : ℕ) → nat_lt a b ≡ false → a < b + 1 → a ≡ b
    last_of a b e h = grind (arith, nat_tests)

    by : (b : Bool) → nat_lt k n ≡ b → made_here W p t r ≡ None
    by true d = yet k (lt_of k n d) r e
    by false d = subst (OfferedHere W p t n) same here r (subst (λ m. row_numbered m ≡ Some r) (last_of k n d h) e)

pub none_any : (W : VariableSet) (p : Position) (t : Tree) (n : ℕ) → 83 ≤ n → NoneBefore W p t n → AnyOffered W p t None
none_any W p t n h yet r = let below = number_below r in yet (row_number r) (omega (arith, h, below)) r (numbered r)

-- ---- the row of one number

pub no_number : (W : VariableSet) (p : Position) (t : Tree) (n : ℕ) → row_numbered n ≡ None → OfferedHere W p t n None
no_number W p t n e r f = absurd (none-some r (sym e ∙ f))

pub not_offered : (W : VariableSet) (p : Position) (t : Tree) (n : ℕ) (r : LogRow) (o : Option Tree) → row_numbered n ≡ Some r → o ≡ made_here W p t r → o ≡ None → OfferedHere W p t n None
not_offered W p t n r o e m f s g = let same : r ≡ s = cc (sym e ∙ g) in subst (λ x. made_here W p t x ≡ None) same (sym m ∙ f)

pub is_offered : (W : VariableSet) (p : Position) (t : Tree) (r : LogRow) (o : Option Tree) (u : Tree) → o ≡ made_here W p t r → o ≡ Some u → is_some (made_here W p t r) ≡ true
is_offered W p t r o u m f = ap is_some (sym m ∙ f)
