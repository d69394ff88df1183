-- Rows on operands whose value is known, and on operators, ask less.
use Rattle.std.specs.Prelude.{◌≡◌, refl, ℤ, pos, Bool, true, false, not, ◌&&◌, [], ◌++◌, if◌then◌else◌}
use Rattle.std.proofs.Common.{inl, inr, ap, ◌∙◌, sym, subst, true≢false}
use Rattle.mini_model.specs.declared.operator.BinaryOperator.{BinaryOperator}
use Rattle.mini_model.specs.declared.operator.BinaryOperator.TheVariants.{Addition, BitwiseOr}
use Rattle.mini_model.specs.declared.operator.UnaryOperator.TheVariants.{Delete, LogicalNot, Typeof, UnaryPlus}
use Rattle.mini_model.specs.declared.place.Position.{Position}
use Rattle.mini_model.specs.declared.place.Position.TheVariants.{Expr}
use Rattle.mini_model.specs.declared.seat.Seat.{Seat}
use Rattle.mini_model.specs.declared.shape.Shape.TheVariants as shape
use Rattle.mini_model.specs.Tree.{Tree, Trees, node, none, ◌▸◌, listed, shape_of, unary, negation, logical, identifier}
use Rattle.mini_accept.specs.WellShaped.{Slot, fits}
use Rattle.mini_laws.specs.ScopeList.{is_eval_callee}
use Rattle.mini_terms.specs.Folds.{is_effect_free}
use Rattle.mini_terms.specs.Parts.{leaves_nothing}
use Rattle.mini_rows.specs.Booleans.{digit, plus}
use Rattle.mini_rows.specs.Choices.{loosely, pair}
use Rattle.mini_laws.specs.Operators.{same_boolean}
use Rattle.mini_rows.specs.Operands.{beside, told_by, is_int32, zero_told, Row14, Row4, OperandRow, OperandContracts, MiddleOperand, EmptyText, BooleanBesideTruth, TruthBesideValue, JoinedTexts, BitsBesideZero, BitsWithZero, WholeOrZero, ByOperator, ShiftAsked, ShiftEnclosed}
use Rattle.mini_rows.specs.Operators.{says_equal, with_number, TypeRow, OperatorRow, Deleted, SameTypes, NeverType, LeftPlus, RightPlus, JoinedMasks}
use Rattle.mini_rows.specs.Sketches.{Head, shape_by, is_expression_head, Unary, Binary, Logical, Sequence, Asked, AsValue}
use Rattle.mini_rows.specs.Spellings.{binary, text, numeral, negated_digit}
use Rattle.mini_rows.proofs.ArrangedValues.{is_value}
use Rattle.mini_less.specs.Families.{LessAt, OperandsReadLess}
use Rattle.mini_less.proofs.ConstantsLess.{beside_part}
use Rattle.mini_less.proofs.LessRows.{reads_less_by}
use Rattle.mini_less.proofs.Made.{ByParts}
use Rattle.mini_less.proofs.Nodes.{unary_part, a_unary, binary_parts, a_binary, logical_parts, a_logical, a_sequence, a_number, a_text, a_digit, a_truth, made_under, part_of, Uncalled, suited, asked_truth, binary_values}

module _ (q : Seat) (n w : Tree) where
  middle_less : Row14 q n w → LessAt (Expr q) n w
  middle_less r =
      made_under q n w (Logical r.operator) (logical r.operator r.left r.middle ▸ r.right ▸ none) refl r.shape tt (Logical r.operator) (r.left ▸ r.right ▸ none) refl r.written (λ strict x k Q l y.
      let (inner, last) = logical_parts Q l r.operator (logical r.operator r.left r.middle) r.right (subst (Q AsValue) r.shape y) in
      subst (Q AsValue) (sym r.written) (a_logical Q l r.operator r.left r.right (logical_parts Q l r.operator r.left r.middle inner).0 last))

  -- what stands beside a constant is written
  beside_value : (strict : Bool) (x : Slot) (o : BinaryOperator) (b : Bool) (a k : Tree) → fits strict x (beside o b a k) ≡ true → is_value (shape_of a) ≡ true
  beside_value strict x o true a k e = (binary_values strict x o a k e).0
  beside_value strict x o false a k e = (binary_values strict x o k a e).1

  beside_less : (o : BinaryOperator) (b : Bool) (a k : Tree) → n ≡ beside o b a k → w ≡ a → Uncalled q w → LessAt (Expr q) n w
  beside_less o true a k e f c = part_of q n w (Binary o) (a ▸ k ▸ none) refl e tt a f (λ strict x i. beside_value strict x o true a k i) (λ Q l y. beside_part Q l o true a k y) c
  beside_less o false a k e f c = part_of q n w (Binary o) (k ▸ a ▸ none) refl e tt a f (λ strict x i. beside_value strict x o false a k i) (λ Q l y. beside_part Q l o false a k y) c

  -- something is made of it
  beside_made : (o : BinaryOperator) (b : Bool) (a k : Tree) → n ≡ beside o b a k → (g : Head) (us : Trees) → is_expression_head g ≡ true → w ≡ node (shape_by g) [] 0 us → ((Q : Asked → Tree → Type 0) → ByParts Q → Q AsValue a → Q AsValue (node (shape_by g) [] 0 us)) → LessAt (Expr q) n w
  beside_made o true a k e g us h f made = made_under q n w (Binary o) (a ▸ k ▸ none) refl e tt g us h f (λ strict x i Q l y. subst (Q AsValue) (sym f) (made Q l (beside_part Q l o true a k (subst (Q AsValue) e y))))
  beside_made o false a k e g us h f made = made_under q n w (Binary o) (k ▸ a ▸ none) refl e tt g us h f (λ strict x i Q l y. subst (Q AsValue) (sym f) (made Q l (beside_part Q l o false a k (subst (Q AsValue) e y))))

  told_less : (c : Bool) (o : BinaryOperator) (a k : Tree) → n ≡ binary o a k → w ≡ told_by c a → Uncalled q w → LessAt (Expr q) n w
  told_less true o a k e f u = beside_less o true a k e f u
  told_less false o a k e f u = beside_made o true a k e (Unary LogicalNot) (a ▸ none) refl f (λ Q l y. a_unary Q l LogicalNot a y)

  zero_less : (c : Bool) (o : BinaryOperator) (a k : Tree) → n ≡ binary o a k → w ≡ zero_told c a → LessAt (Expr q) n w
  zero_less true o a k e f = beside_made o true a k e (Unary LogicalNot) (a ▸ none) refl f (λ Q l y. a_unary Q l LogicalNot a y)
  zero_less false o a k e f = beside_made o true a k e (Unary LogicalNot) (negation a ▸ none) refl f (λ Q l y. a_unary Q l LogicalNot (negation a) (a_unary Q l LogicalNot a y))

  counted_less : (o : BinaryOperator) (b c : Bool) (a k : Tree) → n ≡ beside o b a k → w ≡ beside o b a (digit c) → LessAt (Expr q) n w
  counted_less o true c a k e f = beside_made o true a k e (Binary o) (a ▸ digit c ▸ none) refl f (λ Q l y. a_binary Q l o a (digit c) y (a_digit Q l c))
  counted_less o false c a k e f = beside_made o false a k e (Binary o) (digit c ▸ a ▸ none) refl f (λ Q l y. a_binary Q l o (digit c) a (a_digit Q l c) y)

  added_less : Row4 n w → LessAt (Expr q) n w
  added_less r =
      made_under q n w (Binary Addition) (binary Addition r.left (text r.before) ▸ r.tail ▸ none) refl r.shape tt (Binary Addition) (r.left ▸ text (r.before ++ r.after) ▸ none) refl r.written (λ strict x k Q l y.
      let (inner, last) = binary_parts Q l Addition (binary Addition r.left (text r.before)) r.tail (subst (Q AsValue) r.shape y) in
      subst (Q AsValue) (sym r.written) (a_binary Q l Addition r.left (text (r.before ++ r.after)) (binary_parts Q l Addition r.left (text r.before) inner).0 (a_text Q l (r.before ++ r.after))))

  -- no name makes a number of 32 bits
  int32_called : (t : Tree) → is_int32 t ≡ true → is_eval_callee t ≡ false
  int32_called (node shape.Identifier xs m ts) e = absurd (true≢false (sym e))
  int32_called (node h xs m ts) e = refl

  -- ---- operators

  deleted_less : (a : Tree) (c : Bool) → n ≡ unary Delete a → w ≡ (if c then negated_digit true else pair a (negated_digit true)) → LessAt (Expr q) n w
  deleted_less a true e f = made_under q n w (Unary Delete) (a ▸ none) refl e tt (Unary LogicalNot) (numeral (pos 0) ▸ none) refl f (λ strict x k Q l y. subst (Q AsValue) (sym f) (a_truth Q l true))
  deleted_less a false e f =
      made_under q n w (Unary Delete) (a ▸ none) refl e tt Sequence (listed (a ▸ negated_digit true ▸ none) ▸ none) refl f (λ strict x k Q l y.
      subst (Q AsValue) (sym f) (a_sequence Q l (a ▸ negated_digit true ▸ none) (unary_part Q l Delete a (subst (Q AsValue) e y), (a_truth Q l true, tt))))

  known_less : (o : BinaryOperator) (a b : Tree) (c : Bool) → n ≡ binary o a b → w ≡ negated_digit c → LessAt (Expr q) n w
  known_less o a b true e f = made_under q n w (Binary o) (a ▸ b ▸ none) refl e tt (Unary LogicalNot) (numeral (pos 0) ▸ none) refl f (λ strict x k Q l y. subst (Q AsValue) (sym f) (a_truth Q l true))
  known_less o a b false e f = made_under q n w (Binary o) (a ▸ b ▸ none) refl e tt (Unary LogicalNot) (numeral (pos 1) ▸ none) refl f (λ strict x k Q l y. subst (Q AsValue) (sym f) (a_truth Q l false))

  masked_less : (o : BinaryOperator) (b : Bool) (a : Tree) (c d r : ℤ) → n ≡ binary o (with_number o b a c) (numeral d) → w ≡ binary o a (numeral r) → LessAt (Expr q) n w
  masked_less o b a c d r e f =
      made_under q n w (Binary o) (with_number o b a c ▸ numeral d ▸ none) refl e tt (Binary o) (a ▸ numeral r ▸ none) refl f (λ strict x k Q l y.
      subst (Q AsValue) (sym f) (a_binary Q l o a (numeral r) (inner b Q l (binary_parts Q l o (with_number o b a c) (numeral d) (subst (Q AsValue) e y)).0) (a_number Q l r)))
    where
      inner : (b : Bool) (Q : Asked → Tree → Type 0) → ByParts Q → Q AsValue (with_number o b a c) → Q AsValue a
      inner true Q l y = (binary_parts Q l o a (numeral c) y).0
      inner false Q l y = (binary_parts Q l o (numeral c) a y).1

  pub type_less : (asked : Bool) → TypeRow asked n w → LessAt (Expr q) n w
  type_less asked r = known_less r.operator (unary Typeof r.operand) r.right (not (says_equal r.operator)) r.shape r.written

  pub operator_less : OperatorRow q n w → LessAt (Expr q) n w
  operator_less (Deleted r) = deleted_less r.operand (is_effect_free r.operand && leaves_nothing r.operand) r.shape r.written
  operator_less (SameTypes r) = known_less r.operator (unary Typeof (identifier r.name)) (unary Typeof (identifier r.name)) (says_equal r.operator) r.shape r.written
  operator_less (NeverType r) = type_less true r
  operator_less (LeftPlus r) =
      made_under q n w (Binary r.operator) (plus r.operand ▸ r.right ▸ none) refl r.shape tt (Binary r.operator) (r.operand ▸ r.right ▸ none) refl r.written (λ strict x k Q l y.
      let (first, last) = binary_parts Q l r.operator (plus r.operand) r.right (subst (Q AsValue) r.shape y) in
      subst (Q AsValue) (sym r.written) (a_binary Q l r.operator r.operand r.right (unary_part Q l UnaryPlus r.operand first) last))
  operator_less (RightPlus r) =
      made_under q n w (Binary r.operator) (r.left ▸ plus r.operand ▸ none) refl r.shape tt (Binary r.operator) (r.left ▸ r.operand ▸ none) refl r.written (λ strict x k Q l y.
      let (first, last) = binary_parts Q l r.operator r.left (plus r.operand) (subst (Q AsValue) r.shape y) in
      subst (Q AsValue) (sym r.written) (a_binary Q l r.operator r.left r.operand first (unary_part Q l UnaryPlus r.operand last)))
  operator_less (JoinedMasks r) = masked_less r.operator r.on_right r.operand r.first r.second r.joined r.shape r.written

  row_here : OperandRow (Expr q) n w → LessAt (Expr q) n w
  row_here (MiddleOperand r) = middle_less r
  row_here (EmptyText r) = beside_less Addition r.on_right r.operand (text []) r.shape r.written (suited q r.operand w r.written r.stays)
  row_here (BooleanBesideTruth r) = told_less (same_boolean r.equal r.truth) (loosely r.equal) r.operand (negated_digit r.truth) r.shape r.written (suited q (told_by (same_boolean r.equal r.truth) r.operand) w r.written r.stays)
  row_here (TruthBesideValue r) = counted_less (loosely r.equal) r.on_right r.truth r.operand (negated_digit r.truth) r.shape r.written
  row_here (JoinedTexts r) = added_less r
  row_here (BitsBesideZero r) = zero_less r.equal (loosely r.equal) r.operand (digit false) r.shape r.written
  row_here (BitsWithZero r) = beside_made r.operator r.on_right r.operand (numeral r.number) r.shape (Binary BitwiseOr) (r.operand ▸ digit false ▸ none) refl r.written (λ Q l y. a_binary Q l BitwiseOr r.operand (digit false) y (a_digit Q l false))
  row_here (WholeOrZero r) = beside_less BitwiseOr r.on_right r.operand (digit false) r.shape r.written (λ i. ap is_eval_callee r.written ∙ int32_called r.operand r.known)
  row_here (ByOperator r) = operator_less r
  row_here (ShiftAsked r) = beside_less (loosely false) true r.operand (digit false) r.shape r.written (asked_truth q w r.asked)
  row_here (ShiftEnclosed r) = zero_less r.equal (loosely r.equal) r.operand (digit false) r.shape r.written

row_less : (p : Position) (n w : Tree) → OperandRow p n w → LessAt p n w
row_less (Expr q) n w r = row_here q n w r
row_less p n w r = absurd r

pub operands_read_less : OperandsReadLess
operands_read_less = reads_less_by OperandContracts (λ p n w c. row_less p n w c.row)
