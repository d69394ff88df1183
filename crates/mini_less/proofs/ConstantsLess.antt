-- Rows on constants ask less: a literal is made, and what goes says nothing more.
use Rattle.std.specs.Prelude.{ℕ, ◌≡◌, refl, ℤ, pos, Bool, true, false, List, length, Some, codes}
use Rattle.std.proofs.Common.{inl, inr, sym, subst}
use Rattle.mini_model.specs.declared.operator.BinaryOperator.{BinaryOperator}
use Rattle.mini_model.specs.declared.place.Position.{Position}
use Rattle.mini_model.specs.declared.place.Position.TheVariants.{Expr}
use Rattle.mini_model.specs.declared.seat.Seat.{Seat}
use Rattle.mini_model.specs.Tree.{Tree, none, ◌▸◌, shape_of, null_literal}
use Rattle.mini_node.specs.Children.{part}
use Rattle.mini_laws.specs.ScopeList.{is_eval_callee}
use Rattle.mini_laws.specs.Value.{Value, Undefined, Null, Boolean, Number as ANumber, String}
use Rattle.mini_terms.specs.Calculated.{free_value}
use Rattle.mini_terms.specs.Plain.{lit}
use Rattle.mini_terms.proofs.Calculated.{Form, of_unary, of_binary, calculated_is}
use Rattle.mini_rows.specs.Constants.{RowConstant, RowJoined, RowLength, ConstantRow, ConstantContracts}
use Rattle.mini_rows.specs.Operands.{beside}
use Rattle.mini_rows.specs.Sketches.{Number, Unary, Binary, StaticMember, Asked, AsValue}
use Rattle.mini_rows.specs.Spellings.{text, numeral, key, void_zero, negated_digit}
use Rattle.mini_rows.proofs.ArrangedValues.{is_value}
use Rattle.mini_less.specs.Families.{LessAt, ConstantsReadLess}
use Rattle.mini_less.proofs.LessRows.{reads_less_by}
use Rattle.mini_less.proofs.Made.{ByParts, made_less}
use Rattle.mini_less.proofs.Nodes.{binary_parts, a_binary, a_number, a_text, a_null, a_void, a_truth, made_under}

here : (P : Tree → Type 0) (k w : Tree) → Some k ≡ Some w → P k → P w
here P k w e p = subst P (cc e) p

-- what holds of each literal holds of that of a value
pub literal_by : (P : Tree → Type 0) → P void_zero → P null_literal → P (negated_digit true) → P (negated_digit false) → ((m : ℤ) → P (numeral m)) → ((s : List ℕ) → P (text s)) → (v : Value) (w : Tree) → lit v ≡ Some w → P w
literal_by P u z t f m s Undefined w e = here P void_zero w e u
literal_by P u z t f m s Null w e = here P null_literal w e z
literal_by P u z t f m s (Boolean true) w e = here P (negated_digit true) w e t
literal_by P u z t f m s (Boolean false) w e = here P (negated_digit false) w e f
literal_by P u z t f m s (ANumber k) w e = here P (numeral k) w e (m k)
literal_by P u z t f m s (String r) w e = here P (text r) w e (s r)
literal_by P u z t f m s v w e = absurd (cc e)

pub literal : (Q : Asked → Tree → Type 0) → ByParts Q → (v : Value) (w : Tree) → lit v ≡ Some w → Q AsValue w
literal Q l = literal_by (Q AsValue) (a_void Q l) (a_null Q l) (a_truth Q l true) (a_truth Q l false) (a_number Q l) (a_text Q l)

literal_value : (v : Value) (w : Tree) → lit v ≡ Some w → is_value (shape_of w) ≡ true
literal_value = literal_by (λ t. is_value (shape_of t) ≡ true) refl refl refl refl (λ m. refl) (λ s. refl)

literal_called : (v : Value) (w : Tree) → lit v ≡ Some w → is_eval_callee w ≡ false
literal_called = literal_by (λ t. is_eval_callee t ≡ false) refl refl refl refl (λ m. refl) (λ s. refl)

constant_less : (q : Seat) (n w : Tree) → RowConstant q n w → LessAt (Expr q) n w
constant_less q n w r = go (calculated_is n r.value r.known).made_of
  where
    go : Form true free_value n r.value → LessAt (Expr q) n w
    go (of_unary o is e) = made_less q n w (Unary o) (part n 0 ▸ none) refl is tt (λ strict x k. literal_value r.value w r.literal) (λ strict x k Q l y. literal Q l r.value w r.literal) (λ i. literal_called r.value w r.literal)
    go (of_binary o is e) = made_less q n w (Binary o) (part n 0 ▸ part n 1 ▸ none) refl is tt (λ strict x k. literal_value r.value w r.literal) (λ strict x k Q l y. literal Q l r.value w r.literal) (λ i. literal_called r.value w r.literal)

-- the operand that is no constant
pub beside_part : (Q : Asked → Tree → Type 0) → ByParts Q → (o : BinaryOperator) (b : Bool) (a k : Tree) → Q AsValue (beside o b a k) → Q AsValue a
beside_part Q l o true a k y = (binary_parts Q l o a k y).0
beside_part Q l o false a k y = (binary_parts Q l o k a y).1

joined_less : (q : Seat) (n w : Tree) → RowJoined q n w → LessAt (Expr q) n w
joined_less q n w r =
    made_under q n w (Binary r.operator) (beside r.operator r.on_right r.operand r.first ▸ r.second ▸ none) refl r.shape tt (Binary r.operator) (r.operand ▸ r.literal ▸ none) refl r.written (λ strict x k Q l y.
    let (inner, last) = binary_parts Q l r.operator (beside r.operator r.on_right r.operand r.first) r.second (subst (Q AsValue) r.shape y) in
    subst (Q AsValue) (sym r.written) (a_binary Q l r.operator r.operand r.literal (beside_part Q l r.operator r.on_right r.operand r.first inner) (literal Q l r.value r.literal r.written_out)))

length_less : (q : Seat) (n w : Tree) → RowLength q n w → LessAt (Expr q) n w
length_less q n w r = made_under q n w (StaticMember false) (r.text ▸ key (codes "length") ▸ none) refl r.shape tt (Number (pos (length r.units))) none refl r.written (λ strict x k Q l y. subst (Q AsValue) (sym r.written) (a_number Q l (pos (length r.units))))

row_less : (p : Position) (n w : Tree) → ConstantRow p n w → LessAt p n w
row_less (Expr q) n w (inl r) = constant_less q n w r
row_less (Expr q) n w (inr (inl r)) = joined_less q n w r
row_less (Expr q) n w (inr (inr r)) = length_less q n w r
row_less p n w r = absurd r

pub constants_read_less : ConstantsReadLess
constants_read_less = reads_less_by ConstantContracts (λ p n w c. row_less p n w c.row)
