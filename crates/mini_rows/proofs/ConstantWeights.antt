-- A row on a constant, where it writes something lighter, makes the whole lighter.
use Rattle.std.proofs.Common.{◌≡◌, ℕ, zero, suc, ◌+◌, ◌≤◌, true, false, Some, refl, sym, ap, subst, ◌∙◌, ◌⊎◌, inl, inr, true≢false}
use Rattle.std.specs.Prelude.{pos, negsuc, length}
use Rattle.mini_model.specs.declared.operator.UnaryOperator.TheVariants as unary_operator
use Rattle.mini_model.specs.declared.place.Position.{Position}
use Rattle.mini_model.specs.declared.place.Position.TheVariants.{Expr}
use Rattle.mini_model.specs.declared.seat.Seat.{Seat}
use Rattle.mini_model.specs.declared.shape.Shape.TheVariants as shape
use Rattle.mini_model.specs.Tree.{Tree, leaf, unary}
use Rattle.mini_model.specs.Weight.{outline, weight}
use Rattle.mini_laws.specs.Value.{Value, Undefined, Null, Boolean, Number, String}
use Rattle.mini_laws.specs.Weights.{Lightens, counts_items}
use Rattle.mini_terms.specs.Calculated.{free_value, calculated}
use Rattle.mini_terms.specs.Plain.{lit, void_zero}
use Rattle.mini_terms.proofs.Calculated.{Form, of_unary, of_binary, calculated_is}
use Rattle.mini_rows.specs.Constants.{RowConstant, RowLength, ConstantRow, least_gain, ConstantContracts}
use Rattle.mini_rows.specs.Spellings.{numeral}
use Rattle.mini_rows.proofs.ConstantMeaning.{nothing, calculated_plain}
use Rattle.mini_rows.proofs.FoldMeaning.{plain_of}
use Rattle.mini_rows.proofs.FoldWeights.{there, no_choice}

-- the number 0 weighs less by 2 than what it stands for

abbrev zero_literal : Tree
zero_literal = leaf (shape.NumericLiteral (pos zero))

-- no other literal is 0

abbrev NoZero : Tree → Type 0
NoZero w = (outline w).is_zero ≡ false

lit_zero : (v : Value) (w : Tree) → lit v ≡ Some w → NoZero w ⊎ (zero_literal ≡ w)
lit_zero Undefined w e = inl (subst NoZero {x = void_zero} {y = w} (cc e) refl)
lit_zero Null w e = inl (subst NoZero {x = leaf shape.NullLiteral} {y = w} (cc e) refl)
lit_zero (Boolean true) w e = inl (subst NoZero {x = unary unary_operator.LogicalNot (leaf (shape.NumericLiteral (pos 0)))} {y = w} (cc e) refl)
lit_zero (Boolean false) w e = inl (subst NoZero {x = unary unary_operator.LogicalNot (leaf (shape.NumericLiteral (pos 1)))} {y = w} (cc e) refl)
lit_zero (Number (pos zero)) w e = inr (cc e)
lit_zero (Number (pos (suc n))) w e = inl (subst NoZero {x = leaf (shape.NumericLiteral (pos (suc n)))} {y = w} (cc e) refl)
lit_zero (Number (negsuc n)) w e = inl (subst NoZero {x = leaf (shape.NumericLiteral (negsuc n))} {y = w} (cc e) refl)
lit_zero (String t) w e = inl (subst NoZero {x = leaf (shape.StringLiteral t)} {y = w} (cc e) refl)
lit_zero v w e = nothing e

calculated_no_zero : (t : Tree) (v : Value) → calculated t ≡ Some v → NoZero t
calculated_no_zero t v e = go (calculated_is t v e).made_of
  where
    go : Form true free_value t v → NoZero t
    go (of_unary o is e) = ap (λ x. (outline x).is_zero) is
    go (of_binary o is e) = ap (λ x. (outline x).is_zero) is

constant_zero : (s : Seat) (n w : Tree) → RowConstant s n w → ((outline n).is_zero ≡ (outline w).is_zero) ⊎ (weight (Expr s) w + 2 ≤ weight (Expr s) n)
constant_zero s n w r = go (lit_zero r.value w r.literal)
  where
    go : NoZero w ⊎ (zero_literal ≡ w) → ((outline n).is_zero ≡ (outline w).is_zero) ⊎ (weight (Expr s) w + 2 ≤ weight (Expr s) n)
    go (inl e) = inl (calculated_no_zero n r.value r.known ∙ sym e)
    go (inr e) = inr (subst (λ k. weight (Expr s) w + k ≤ weight (Expr s) n) (ap least_gain (sym e)) r.gains)

-- of what isn't 0, and of what is
length_zero : (s : Seat) (n w : Tree) → RowLength s n w → ((outline n).is_zero ≡ (outline w).is_zero) ⊎ (weight (Expr s) w + 2 ≤ weight (Expr s) n)
length_zero s n w r = go (length r.units) (r.written)
  where
    go : (k : ℕ) → w ≡ numeral (pos k) → ((outline n).is_zero ≡ (outline w).is_zero) ⊎ (weight (Expr s) w + 2 ≤ weight (Expr s) n)
    go zero is = inr (subst (λ k. weight (Expr s) w + k ≤ weight (Expr s) n) (ap least_gain is) r.gains)
    go (suc k) is = inl (ap (λ x. (outline x).is_zero) r.shape ∙ sym (ap (λ x. (outline x).is_zero) is))

kept_zero : (p : Position) (n w : Tree) → ConstantRow p n w → ((outline n).is_zero ≡ (outline w).is_zero) ⊎ (weight p w + 2 ≤ weight p n)
kept_zero (Expr s) n w (inl r) = constant_zero s n w r
kept_zero (Expr s) n w (inr (inr r)) = length_zero s n w r
kept_zero (Expr s) n w (inr (inl r)) = inl (ap (λ x. (outline x).is_zero) r.shape ∙ sym (ap (λ x. (outline x).is_zero) r.written))
kept_zero p n w r = absurd r

kept_absent : (p : Position) (n w : Tree) → ConstantRow p n w → (outline n).absent ≡ (outline w).absent
kept_absent (Expr s) n w (inr (inr r)) = ap (λ x. (outline x).absent) r.shape ∙ sym (ap (λ x. (outline x).absent) r.written)
kept_absent (Expr s) n w (inr (inl r)) = ap (λ x. (outline x).absent) r.shape ∙ sym (ap (λ x. (outline x).absent) r.written)
kept_absent (Expr s) n w (inl r) = there n (calculated_plain n r.value r.known) ∙ sym (there w (plain_of s w r.stays))
kept_absent p n w r = absurd r

kept_choice : (p : Position) (n w : Tree) → ConstantRow p n w → (outline n).chooses ≡ (outline w).chooses
kept_choice (Expr s) n w (inr (inr r)) = ap (λ x. (outline x).chooses) r.shape ∙ sym (ap (λ x. (outline x).chooses) r.written)
kept_choice (Expr s) n w (inr (inl r)) = ap (λ x. (outline x).chooses) r.shape ∙ sym (ap (λ x. (outline x).chooses) r.written)
kept_choice (Expr s) n w (inl r) = no_choice n (calculated_plain n r.value r.known) ∙ sym (no_choice w (plain_of s w r.stays))
kept_choice p n w r = absurd r

kept_items : (p : Position) (n w : Tree) → ConstantRow p n w → counts_items p ≡ true → (outline n).items ≡ (outline w).items
kept_items (Expr s) n w r e = absurd (true≢false (sym e))
kept_items p n w r e = absurd r

pub lightens : Lightens ConstantContracts
lightens = record {
  lighter = λ p n w c. c.lighter;
  absent = λ p n w c a. kept_absent p n w c.row;
  items = λ p n w c a. kept_items p n w c.row a;
  is_zero = λ p n w c a. kept_zero p n w c.row;
  chooses = λ p n w c a. inl (λ h. sym (kept_choice p n w c.row) ∙ h);
}
