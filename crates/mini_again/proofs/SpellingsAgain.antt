-- Rows of spellings read a node that is read again.
use Rattle.mini_again.proofs.ModelTreeAgain.{shape_of_again}
use Rattle.mini_again.proofs.ModelWeightAgain.{outlines_again}
use Rattle.mini_again.proofs.NodeChildrenAgain.{names_of_again}
use Rattle.mini_again.proofs.TermReadingAgain.{is_typed_by_again}
use Rattle.mini_again.specs.Again.{Renaming, again}
use Rattle.mini_model.specs.Tree.{Tree, node, shape_of}
use Rattle.mini_model.specs.declared.place.Position.{Position}
use Rattle.mini_model.specs.declared.place.Position.TheVariants.{Expr}
use Rattle.mini_node.specs.Children.{names_of}
use Rattle.mini_rows.specs.Spellings.{IsUndefined, PlainForm, Row19, Row33, Row33Assigned, Row33Name, Row33Number, Row33Updated, Row54, Row55, Row55Value, Row58Left, Row58Right, Row60Yield, Row65, SpellingRow, a_big_int, a_boolean, a_null, a_number, a_template, a_text, a_void, is_awkward_left, is_inner, negated_digit, plain, ShortBoolean, DottedMember, DottedTarget, DottedUpdate, LooseLeft, LooseRight, SwappedEquality, BareYield, OrderedTypeof, PlainTemplate, ComparedWithVoid, Stepped, Row36, amount}
use Rattle.std.proofs.Common.{ap, inl, inr}
use Rattle.std.specs.Prelude.{Bool, false, refl, true, ◌≡◌}
use Rattle.mini_model.specs.declared.shape.Shape.TheVariants as shape
use Rattle.mini_model.specs.declared.operator.UpdateOperator.{UpdateOperator}
use Rattle.mini_model.specs.declared.operator.UpdateOperator.TheVariants.{Decrement, Increment}

pub is_undefined_again : (ρ : Renaming) (v : Tree) → IsUndefined v → IsUndefined (again ρ v)
is_undefined_again ρ v (inl r) = inl (ap (again ρ) r)
is_undefined_again ρ v (inr r) = inr (ap (again ρ) r)

pub row19_again : (ρ : Renaming) (n w : Tree) → Row19 n w → Row19 (again ρ n) (again ρ w)
row19_again ρ n w r = record {
  is_tail = r.is_tail;
  raw = r.raw;
  content = r.content;
  shorter = r.shorter;
  shape = ap (again ρ) r.shape;
  written = ap (again ρ) r.written;
}

pub row33_name_again : (ρ : Renaming) (n w : Tree) → Row33Name n w → Row33Name (again ρ n) (again ρ w)
row33_name_again ρ n w r = record {
  is_optional = r.is_optional;
  object = again ρ r.object;
  name = r.name;
  is_name = r.is_name;
  shape = ap (again ρ) r.shape;
  written = ap (again ρ) r.written;
}

pub row33_number_again : (ρ : Renaming) (n w : Tree) → Row33Number n w → Row33Number (again ρ n) (again ρ w)
row33_number_again ρ n w r = record {
  object = again ρ r.object;
  number = r.number;
  is_safe = r.is_safe;
  shape = ap (again ρ) r.shape;
  written = ap (again ρ) r.written;
}

pub row33_again : (ρ : Renaming) (n w : Tree) → Row33 n w → Row33 (again ρ n) (again ρ w)
row33_again ρ n w (inl r) = inl (row33_name_again ρ n w r)
row33_again ρ n w (inr r) = inr (row33_number_again ρ n w r)

pub row33_assigned_again : (ρ : Renaming) (n w : Tree) → Row33Assigned n w → Row33Assigned (again ρ n) (again ρ w)
row33_assigned_again ρ n w r = record {
  operator = r.operator;
  target = again ρ r.target;
  turned = again ρ r.turned;
  value = again ρ r.value;
  member = row33_again ρ r.target r.turned r.member;
  shape = ap (again ρ) r.shape;
  written = ap (again ρ) r.written;
}

pub row33_updated_again : (ρ : Renaming) (n w : Tree) → Row33Updated n w → Row33Updated (again ρ n) (again ρ w)
row33_updated_again ρ n w r = record {
  operator = r.operator;
  is_prefix = r.is_prefix;
  target = again ρ r.target;
  turned = again ρ r.turned;
  member = row33_again ρ r.target r.turned r.member;
  shape = ap (again ρ) r.shape;
  written = ap (again ρ) r.written;
}

pub is_awkward_left_again : (ρ : Renaming) (t : Tree) → is_awkward_left (again ρ t) ≡ is_awkward_left t
is_awkward_left_again ρ (node h xs n ts) = simp (outlines_again ρ ts)

pub is_inner_again : (ρ : Renaming) (t : Tree) → is_inner (again ρ t) ≡ is_inner t
is_inner_again ρ (node shape.InnerExpression xs n ts) = refl
is_inner_again ρ _ = refl

pub plain_again : (ρ : Renaming) (a_null : PlainForm) → again ρ (plain a_null) ≡ plain a_null
plain_again ρ (a_number n) = refl
plain_again ρ (a_text s) = refl
plain_again ρ (a_boolean b) = refl
plain_again ρ a_null = refl
plain_again ρ (a_big_int n) = refl
plain_again ρ (a_template is_tail raw cooked) = refl
plain_again ρ a_void = refl

pub row54_again : (ρ : Renaming) (n w : Tree) → Row54 n w → Row54 (again ρ n) (again ρ w)
row54_again ρ n w r = record {
  operator = r.operator;
  left = r.left;
  right = again ρ r.right;
  equality = r.equality;
  ready = simp (is_awkward_left_again ρ r.right) r.ready;
  outer = simp (is_inner_again ρ r.right) r.outer;
  shape = simp (plain_again ρ r.left) at (ap (again ρ) r.shape);
  written = simp (plain_again ρ r.left) at (ap (again ρ) r.written);
}

pub row55_again : (ρ : Renaming) (n w : Tree) → Row55 n w → Row55 (again ρ n) (again ρ w)
row55_again ρ n w r = record {
  operator = r.operator;
  name = r.name;
  equality = r.equality;
  shape = ap (again ρ) r.shape;
  written = ap (again ρ) r.written;
}

pub row55_value_again : (ρ : Renaming) (n w : Tree) → Row55Value n w → Row55Value (again ρ n) (again ρ w)
row55_value_again ρ n w r = record {
  operator = r.operator;
  operand = again ρ r.operand;
  equality = r.equality;
  value = simp (shape_of_again ρ r.operand, names_of_again ρ r.operand, is_typed_by_again ρ (shape_of r.operand) (names_of r.operand)) r.value;
  shape = ap (again ρ) r.shape;
  written = ap (again ρ) r.written;
}

pub row58_left_again : (ρ : Renaming) (n w : Tree) → Row58Left n w → Row58Left (again ρ n) (again ρ w)
row58_left_again ρ n w r = record {
  operator = r.operator;
  left = again ρ r.left;
  right = again ρ r.right;
  loose = r.loose;
  undefined = is_undefined_again ρ r.left r.undefined;
  shape = ap (again ρ) r.shape;
  written = ap (again ρ) r.written;
}

pub row58_right_again : (ρ : Renaming) (n w : Tree) → Row58Right n w → Row58Right (again ρ n) (again ρ w)
row58_right_again ρ n w r = record {
  operator = r.operator;
  left = again ρ r.left;
  right = again ρ r.right;
  loose = r.loose;
  undefined = is_undefined_again ρ r.right r.undefined;
  shape = ap (again ρ) r.shape;
  written = ap (again ρ) r.written;
}

pub row60_yield_again : (ρ : Renaming) (n w : Tree) → Row60Yield n w → Row60Yield (again ρ n) (again ρ w)
row60_yield_again ρ n w r = record {
  shape = ap (again ρ) r.shape;
  written = ap (again ρ) r.written;
}

pub negated_digit_again : (ρ : Renaming) (b : Bool) → again ρ (negated_digit b) ≡ negated_digit b
negated_digit_again ρ true = refl
negated_digit_again ρ false = refl

pub row65_again : (ρ : Renaming) (n w : Tree) → Row65 n w → Row65 (again ρ n) (again ρ w)
row65_again ρ n w r = record {
  value = r.value;
  shape = ap (again ρ) r.shape;
  written = simp (negated_digit_again ρ r.value) at (ap (again ρ) r.written);
}

pub amount_again : (ρ : Renaming) (o : UpdateOperator) → again ρ (amount o) ≡ amount o
amount_again ρ Decrement = refl
amount_again ρ Increment = refl

pub row36_again : (ρ : Renaming) (n w : Tree) → Row36 n w → Row36 (again ρ n) (again ρ w)
row36_again ρ n w r = record {
  operator = r.operator;
  target = again ρ r.target;
  shape = simp (amount_again ρ r.operator) at (ap (again ρ) r.shape);
  written = ap (again ρ) r.written;
}

pub spelling_row_again : (ρ : Renaming) (p : Position) (n w : Tree) → SpellingRow p n w → SpellingRow p (again ρ n) (again ρ w)
spelling_row_again ρ (Expr s) n w (ShortBoolean r) = ShortBoolean (row65_again ρ n w r)
spelling_row_again ρ (Expr s) n w (DottedMember r) = DottedMember (row33_again ρ n w r)
spelling_row_again ρ (Expr s) n w (DottedTarget r) = DottedTarget (row33_assigned_again ρ n w r)
spelling_row_again ρ (Expr s) n w (DottedUpdate r) = DottedUpdate (row33_updated_again ρ n w r)
spelling_row_again ρ (Expr s) n w (LooseLeft r) = LooseLeft (row58_left_again ρ n w r)
spelling_row_again ρ (Expr s) n w (LooseRight r) = LooseRight (row58_right_again ρ n w r)
spelling_row_again ρ (Expr s) n w (SwappedEquality r) = SwappedEquality (row54_again ρ n w r)
spelling_row_again ρ (Expr s) n w (BareYield r) = BareYield (row60_yield_again ρ n w r)
spelling_row_again ρ (Expr s) n w (OrderedTypeof r) = OrderedTypeof (row55_again ρ n w r)
spelling_row_again ρ (Expr s) n w (PlainTemplate r) = PlainTemplate (row19_again ρ n w r)
spelling_row_again ρ (Expr s) n w (ComparedWithVoid r) = ComparedWithVoid (row55_value_again ρ n w r)
spelling_row_again ρ (Expr s) n w (Stepped r) = Stepped (row36_again ρ n w r)
spelling_row_again ρ p0 n w r = absurd r
