-- Rows of operands whose value is known read a node that is read again.
use Rattle.mini_again.proofs.BooleansAgain.{digit_again}
use Rattle.mini_again.proofs.ModelTreeAgain.{shape_of_again}
use Rattle.mini_again.proofs.Names.{none_again}
use Rattle.mini_again.proofs.NodeChildrenAgain.{is_bare_again, names_of_again}
use Rattle.mini_again.proofs.NodeKindsAgain.{is_named_leaf_again}
use Rattle.mini_again.proofs.OperatorsAgain.{operator_row_again}
use Rattle.mini_again.proofs.SpellingsAgain.{negated_digit_again}
use Rattle.mini_again.proofs.TermEffectsAgain.{ef_again}
use Rattle.mini_again.proofs.TermFoldsAgain.{goes_on_again}
use Rattle.mini_again.proofs.TermKindAgain.{kind_again}
use Rattle.mini_again.proofs.TermPartsAgain.{is_number_again, leaves_nothing_again, weighs_again}
use Rattle.mini_again.proofs.TermReadingAgain.{is_item_again, is_plain_part_again, stands_again}
use Rattle.mini_again.specs.Again.{Renaming, again}
use Rattle.mini_laws.specs.Operators.{same_boolean}
use Rattle.mini_laws.specs.Renaming.{rename_name}
use Rattle.mini_model.specs.Tree.{Tree}
use Rattle.mini_model.specs.declared.name.Name.{Name}
use Rattle.mini_model.specs.declared.operator.BinaryOperator.{BinaryOperator}
use Rattle.mini_model.specs.declared.operator.BinaryOperator.TheVariants.{Addition, BitwiseOr}
use Rattle.mini_model.specs.declared.place.Position.{Position}
use Rattle.mini_model.specs.declared.place.Position.TheVariants.{Expr}
use Rattle.mini_model.specs.declared.seat.Seat.{Seat}
use Rattle.mini_node.specs.Children.{names_of}
use Rattle.mini_rows.specs.Booleans.{digit}
use Rattle.mini_rows.specs.Choices.{loosely}
use Rattle.mini_rows.specs.Operands.{OperandRow, Row14, Row27, Row27Asked, Row27Enclosed, Row29, Row30, Row31, Row32, Row4, Row7, beside, is_undefined_name, told_by, zero_told, MiddleOperand, EmptyText, BooleanBesideTruth, TruthBesideValue, JoinedTexts, BitsBesideZero, BitsWithZero, WholeOrZero, ByOperator, ShiftAsked, ShiftEnclosed}
use Rattle.mini_rows.specs.Spellings.{negated_digit, numeral, text}
use Rattle.std.proofs.Common.{ap, inl, inr}
use Rattle.std.specs.Prelude.{Bool, List, [], false, map, refl, true, ◌∷◌, ◌≡◌}

pub row14_again : (ρ : Renaming) (s : Seat) (n w : Tree) → Row14 s n w → Row14 s (again ρ n) (again ρ w)
row14_again ρ s n w r = record {
  operator = r.operator;
  left = again ρ r.left;
  middle = again ρ r.middle;
  right = again ρ r.right;
  tells = r.tells;
  known = simp (goes_on_again ρ r.operator r.middle) r.known;
  effect_free = simp (ef_again ρ true r.middle) r.effect_free;
  dropped = simp (leaves_nothing_again ρ r.middle) r.dropped;
  heavy = simp (weighs_again ρ r.middle) r.heavy;
  stays = simp (is_plain_part_again ρ r.right, is_item_again ρ r.right, stands_again ρ r.right, is_number_again ρ r.right) r.stays;
  shape = ap (again ρ) r.shape;
  written = ap (again ρ) r.written;
}

pub zero_told_again : (ρ : Renaming) (b : Bool) (a : Tree) → zero_told b (again ρ a) ≡ again ρ (zero_told b a)
zero_told_again ρ true a = refl
zero_told_again ρ false a = refl

pub row27_again : (ρ : Renaming) (n w : Tree) → Row27 n w → Row27 (again ρ n) (again ρ w)
row27_again ρ n w r = record {
  equal = r.equal;
  operand = again ρ r.operand;
  known = simp (shape_of_again ρ r.operand, is_bare_again ρ r.operand 1, is_bare_again ρ r.operand 2, kind_again ρ r.operand) r.known;
  shape = simp (digit_again ρ false) at (ap (again ρ) r.shape);
  written = simp (← (zero_told_again ρ r.equal r.operand)) at (ap (again ρ) r.written);
}

pub row27_asked_again : (ρ : Renaming) (s : Seat) (n w : Tree) → Row27Asked s n w → Row27Asked s (again ρ n) (again ρ w)
row27_asked_again ρ s n w r = record {
  operand = again ρ r.operand;
  known = simp (shape_of_again ρ r.operand, is_bare_again ρ r.operand 2, kind_again ρ r.operand) r.known;
  asked = r.asked;
  shape = simp (digit_again ρ false) at (ap (again ρ) r.shape);
  written = ap (again ρ) r.written;
}

pub row27_enclosed_again : (ρ : Renaming) (s : Seat) (n w : Tree) → Row27Enclosed s n w → Row27Enclosed s (again ρ n) (again ρ w)
row27_enclosed_again ρ s n w r = record {
  equal = r.equal;
  operand = again ρ r.operand;
  known = simp (shape_of_again ρ r.operand, is_bare_again ρ r.operand 2, kind_again ρ r.operand) r.known;
  seated = r.seated;
  shape = simp (digit_again ρ false) at (ap (again ρ) r.shape);
  written = simp (← (zero_told_again ρ r.equal r.operand)) at (ap (again ρ) r.written);
}

pub told_by_again : (ρ : Renaming) (b : Bool) (t : Tree) → told_by b (again ρ t) ≡ again ρ (told_by b t)
told_by_again ρ true b = refl
told_by_again ρ false b = refl

pub row29_again : (ρ : Renaming) (s : Seat) (n w : Tree) → Row29 s n w → Row29 s (again ρ n) (again ρ w)
row29_again ρ s n w r = record {
  equal = r.equal;
  truth = r.truth;
  operand = again ρ r.operand;
  known = simp (kind_again ρ r.operand) r.known;
  stays = simp (told_by_again ρ (same_boolean r.equal r.truth) r.operand, is_plain_part_again ρ (told_by (same_boolean r.equal r.truth) r.operand), is_item_again ρ (told_by (same_boolean r.equal r.truth) r.operand), stands_again ρ (told_by (same_boolean r.equal r.truth) r.operand), is_number_again ρ (told_by (same_boolean r.equal r.truth) r.operand)) r.stays;
  shape = simp (negated_digit_again ρ r.truth) at (ap (again ρ) r.shape);
  written = simp (← (told_by_again ρ (same_boolean r.equal r.truth) r.operand)) at (ap (again ρ) r.written);
}

pub beside_again : (ρ : Renaming) (o : BinaryOperator) (b : Bool) (a k : Tree) → beside o b (again ρ a) (again ρ k) ≡ again ρ (beside o b a k)
beside_again ρ o true a k = refl
beside_again ρ o false a k = refl

pub row30_again : (ρ : Renaming) (n w : Tree) → Row30 n w → Row30 (again ρ n) (again ρ w)
row30_again ρ n w r = record {
  equal = r.equal;
  truth = r.truth;
  on_right = r.on_right;
  operand = again ρ r.operand;
  shape = simp (negated_digit_again ρ r.truth, ← (beside_again ρ (loosely r.equal) r.on_right r.operand (negated_digit r.truth))) at (ap (again ρ) r.shape);
  written = simp (digit_again ρ r.truth, ← (beside_again ρ (loosely r.equal) r.on_right r.operand (digit r.truth))) at (ap (again ρ) r.written);
}

pub row31_again : (ρ : Renaming) (s : Seat) (n w : Tree) → Row31 s n w → Row31 s (again ρ n) (again ρ w)
row31_again ρ s n w r = record {
  operator = r.operator;
  on_right = r.on_right;
  operand = again ρ r.operand;
  number = r.number;
  known = r.known;
  sided = r.sided;
  seated = r.seated;
  shape = simp (← (beside_again ρ r.operator r.on_right r.operand (numeral r.number))) at (ap (again ρ) r.shape);
  written = simp (digit_again ρ false) at (ap (again ρ) r.written);
}

pub row32_again : (ρ : Renaming) (n w : Tree) → Row32 n w → Row32 (again ρ n) (again ρ w)
row32_again ρ n w r = record {
  on_right = r.on_right;
  operand = again ρ r.operand;
  known = simp (shape_of_again ρ r.operand, is_bare_again ρ r.operand 1, is_bare_again ρ r.operand 2, kind_again ρ r.operand) r.known;
  shape = simp (digit_again ρ false, ← (beside_again ρ BitwiseOr r.on_right r.operand (digit false))) at (ap (again ρ) r.shape);
  written = ap (again ρ) r.written;
}

pub is_undefined_name_again : (ρ : Renaming) (xs : List Name) → is_undefined_name (map (rename_name ρ.symbol) xs) ≡ is_undefined_name xs
is_undefined_name_again ρ (x ∷ []) = simp (none_again ρ x.symbol)
is_undefined_name_again ρ xs = refl

pub row4_again : (ρ : Renaming) (n w : Tree) → Row4 n w → Row4 (again ρ n) (again ρ w)
row4_again ρ n w r = record {
  left = again ρ r.left;
  before = r.before;
  tail = again ρ r.tail;
  after = r.after;
  known = simp (shape_of_again ρ r.tail, is_bare_again ρ r.tail 0, is_named_leaf_again ρ r.tail, names_of_again ρ r.tail, is_undefined_name_again ρ (names_of r.tail)) r.known;
  shape = ap (again ρ) r.shape;
  written = ap (again ρ) r.written;
}

pub row7_again : (ρ : Renaming) (s : Seat) (n w : Tree) → Row7 s n w → Row7 s (again ρ n) (again ρ w)
row7_again ρ s n w r = record {
  on_right = r.on_right;
  operand = again ρ r.operand;
  known = simp (kind_again ρ r.operand) r.known;
  stays = simp (is_plain_part_again ρ r.operand, is_item_again ρ r.operand, stands_again ρ r.operand, is_number_again ρ r.operand) r.stays;
  shape = simp (← (beside_again ρ Addition r.on_right r.operand (text []))) at (ap (again ρ) r.shape);
  written = ap (again ρ) r.written;
}

pub operand_row_again : (ρ : Renaming) (p : Position) (n w : Tree) → OperandRow p n w → OperandRow p (again ρ n) (again ρ w)
operand_row_again ρ (Expr s) n w (MiddleOperand r) = MiddleOperand (row14_again ρ s n w r)
operand_row_again ρ (Expr s) n w (EmptyText r) = EmptyText (row7_again ρ s n w r)
operand_row_again ρ (Expr s) n w (BooleanBesideTruth r) = BooleanBesideTruth (row29_again ρ s n w r)
operand_row_again ρ (Expr s) n w (TruthBesideValue r) = TruthBesideValue (row30_again ρ n w r)
operand_row_again ρ (Expr s) n w (JoinedTexts r) = JoinedTexts (row4_again ρ n w r)
operand_row_again ρ (Expr s) n w (BitsBesideZero r) = BitsBesideZero (row27_again ρ n w r)
operand_row_again ρ (Expr s) n w (BitsWithZero r) = BitsWithZero (row31_again ρ s n w r)
operand_row_again ρ (Expr s) n w (WholeOrZero r) = WholeOrZero (row32_again ρ n w r)
operand_row_again ρ (Expr s) n w (ByOperator r) = ByOperator (operator_row_again ρ s n w r)
operand_row_again ρ (Expr s) n w (ShiftAsked r) = ShiftAsked (row27_asked_again ρ s n w r)
operand_row_again ρ (Expr s) n w (ShiftEnclosed r) = ShiftEnclosed (row27_enclosed_again ρ s n w r)
operand_row_again ρ p0 n w r = absurd r
