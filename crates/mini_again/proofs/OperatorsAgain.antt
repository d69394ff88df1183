-- Rows of operators read a node that is read again.
use Rattle.mini_again.proofs.ModelTreeAgain.{shape_of_again}
use Rattle.mini_again.proofs.Names.{if_again}
use Rattle.mini_again.proofs.NodeChildrenAgain.{is_bare_again}
use Rattle.mini_again.proofs.SpellingsAgain.{negated_digit_again}
use Rattle.mini_again.proofs.TermCalculatedAgain.{value_within_again}
use Rattle.mini_again.proofs.TermEffectsAgain.{ef_again}
use Rattle.mini_again.proofs.TermKindAgain.{kind_again}
use Rattle.mini_again.proofs.TermPartsAgain.{leaves_nothing_again}
use Rattle.mini_again.specs.Again.{Renaming, again}
use Rattle.mini_laws.specs.Renaming.{rename_name}
use Rattle.mini_model.specs.Tree.{Tree, unary}
use Rattle.mini_model.specs.declared.operator.BinaryOperator.{BinaryOperator}
use Rattle.mini_model.specs.declared.operator.UnaryOperator.TheVariants.{Typeof}
use Rattle.mini_model.specs.declared.seat.Seat.{Seat}
use Rattle.mini_rows.specs.Choices.{pair}
use Rattle.mini_rows.specs.Operators.{OperatorRow, Row16, Row17, Row2, Row56Left, Row56Right, Row8, TypeRow, says_equal, with_number, Deleted, SameTypes, NeverType, LeftPlus, RightPlus, JoinedMasks}
use Rattle.mini_rows.specs.Spellings.{binary, negated_digit}
use Rattle.mini_terms.specs.Calculated.{operand_depth}
use Rattle.mini_terms.specs.Folds.{is_effect_free}
use Rattle.mini_terms.specs.Parts.{leaves_nothing}
use Rattle.std.proofs.Common.{ap, inl, inr}
use Rattle.std.specs.Prelude.{Bool, false, not, refl, true, ℤ, ◌&&◌, ◌≡◌}

pub row16_again : (ρ : Renaming) (n w : Tree) → Row16 n w → Row16 (again ρ n) (again ρ w)
row16_again ρ n w r = record {
  operator = r.operator;
  name = rename_name ρ.symbol r.name;
  equality = r.equality;
  shape = ap (again ρ) r.shape;
  written = simp (negated_digit_again ρ (says_equal r.operator)) at (ap (again ρ) r.written);
}

pub type_row_again : (ρ : Renaming) (asked : Bool) (n w : Tree) → TypeRow asked n w → TypeRow asked (again ρ n) (again ρ w)
type_row_again ρ asked n w r = record {
  operator = r.operator;
  operand = again ρ r.operand;
  right = again ρ r.right;
  equality = r.equality;
  known = simp (shape_of_again ρ r.right, is_bare_again ρ r.right 0, kind_again ρ r.right) r.known;
  effect_free = simp (ef_again ρ asked (binary r.operator (unary Typeof r.operand) r.right)) r.effect_free;
  dropped = simp (leaves_nothing_again ρ (binary r.operator (unary Typeof r.operand) r.right)) r.dropped;
  shape = ap (again ρ) r.shape;
  written = simp (negated_digit_again ρ (not (says_equal r.operator))) at (ap (again ρ) r.written);
}

pub row17_again : (ρ : Renaming) (t u : Tree) → Row17 t u → Row17 (again ρ t) (again ρ u)
row17_again ρ r = type_row_again ρ true r

pub row2_again : (ρ : Renaming) (n w : Tree) → Row2 n w → Row2 (again ρ n) (again ρ w)
row2_again ρ n w r = record {
  operand = again ρ r.operand;
  value = simp (shape_of_again ρ r.operand) r.value;
  shape = ap (again ρ) r.shape;
  written = simp (← (ef_again ρ true r.operand), ← (leaves_nothing_again ρ r.operand)) at (simp (← (if_again ρ (is_effect_free r.operand && leaves_nothing r.operand) (negated_digit true) (pair r.operand (negated_digit true))), negated_digit_again ρ true) at (ap (again ρ) r.written));
}

pub row56_left_again : (ρ : Renaming) (n w : Tree) → Row56Left n w → Row56Left (again ρ n) (again ρ w)
row56_left_again ρ n w r = record {
  operator = r.operator;
  operand = again ρ r.operand;
  right = again ρ r.right;
  number = r.number;
  numeric = r.numeric;
  known = simp (value_within_again ρ false operand_depth r.right) r.known;
  shape = ap (again ρ) r.shape;
  written = ap (again ρ) r.written;
}

pub row56_right_again : (ρ : Renaming) (n w : Tree) → Row56Right n w → Row56Right (again ρ n) (again ρ w)
row56_right_again ρ n w r = record {
  operator = r.operator;
  left = again ρ r.left;
  operand = again ρ r.operand;
  numeric = r.numeric;
  known = simp (kind_again ρ r.left) r.known;
  shape = ap (again ρ) r.shape;
  written = ap (again ρ) r.written;
}

pub with_number_again : (ρ : Renaming) (o : BinaryOperator) (b : Bool) (a : Tree) (c : ℤ) → with_number o b (again ρ a) c ≡ again ρ (with_number o b a c)
with_number_again ρ o true a c = refl
with_number_again ρ o false a c = refl

pub row8_again : (ρ : Renaming) (n w : Tree) → Row8 n w → Row8 (again ρ n) (again ρ w)
row8_again ρ n w r = record {
  operator = r.operator;
  on_right = r.on_right;
  operand = again ρ r.operand;
  first = r.first;
  second = r.second;
  joined = r.joined;
  bitwise = r.bitwise;
  known = r.known;
  short = r.short;
  shape = simp (← (with_number_again ρ r.operator r.on_right r.operand r.first)) at (ap (again ρ) r.shape);
  written = ap (again ρ) r.written;
}

pub operator_row_again : (ρ : Renaming) (s : Seat) (n w : Tree) → OperatorRow s n w → OperatorRow s (again ρ n) (again ρ w)
operator_row_again ρ s n w (Deleted r) = Deleted (row2_again ρ n w r)
operator_row_again ρ s n w (SameTypes r) = SameTypes (row16_again ρ n w r)
operator_row_again ρ s n w (NeverType r) = NeverType (row17_again ρ n w r)
operator_row_again ρ s n w (LeftPlus r) = LeftPlus (row56_left_again ρ n w r)
operator_row_again ρ s n w (RightPlus r) = RightPlus (row56_right_again ρ n w r)
operator_row_again ρ s n w (JoinedMasks r) = JoinedMasks (row8_again ρ n w r)
