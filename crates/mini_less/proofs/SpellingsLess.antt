-- Rows on spellings ask less.
use Rattle.std.specs.Prelude.{ℕ, ◌≡◌, refl, ℤ, pos, Bool, true, false, List, [], Some, codes}
use Rattle.std.proofs.Common.{inl, inr, sym, subst}
use Rattle.mini_model.specs.declared.operator.UnaryOperator.TheVariants.{LogicalNot, Typeof}
use Rattle.mini_model.specs.declared.place.Position.{Position}
use Rattle.mini_model.specs.declared.place.Position.TheVariants.{Expr}
use Rattle.mini_model.specs.declared.seat.Seat.{Seat}
use Rattle.mini_model.specs.declared.shape.Shape.TheVariants as shape
use Rattle.std.specs.Fmt.{signed_decimal}
use Rattle.mini_model.specs.Tree.{Tree, node, none, ◌▸◌, listed, unary, absent, null_literal}
use Rattle.mini_rows.specs.Sketches.{AbsentPart, BooleanValue, String, PropertyName, Unary, Binary, StaticMember, ComputedMember, Yield, Template, Assignment, Update, Asked, AsValue, AsWord, target_asked}
use Rattle.mini_rows.specs.Spellings.{text, numeral, key, boolean, void_zero, negated_digit, computed_member, static_member, plain, typeof_name, ordered, strict_operator, Row33Name, Row33Number, Row33, Row33Assigned, Row33Updated, Row58Left, Row58Right, Row54, Row60Yield, Row55, Row55Value, Row19, SpellingRow, SpellingContracts, ShortBoolean, DottedMember, DottedTarget, DottedUpdate, LooseLeft, LooseRight, SwappedEquality, BareYield, OrderedTypeof, PlainTemplate, ComparedWithVoid, Stepped, Row36, amount}
use Rattle.mini_less.specs.Families.{LessAt, SpellingsReadLess}
use Rattle.mini_less.proofs.LessRows.{reads_less_by}
use Rattle.mini_less.proofs.Made.{ByParts}
use Rattle.mini_less.proofs.Nodes.{unary_part, binary_parts, a_binary, a_number, a_text, a_null, a_void, a_truth, made_under}
use Rattle.mini_model.specs.declared.operator.AssignmentOperator.TheVariants.{Subtraction}

-- 33, however the member stands
module _ (Q : Asked → Tree → Type 0) (l : ByParts Q) (c : Asked) where
  name_made : (b : Bool) (o : Tree) (s : List ℕ) → Q c (computed_member b o (text s)) → Q c (static_member b o (key s))
  name_made b o s y = l.up (StaticMember b) refl c (o ▸ key s ▸ none) tt ((l.down (ComputedMember b) refl c (o ▸ text s ▸ none) tt y).0, (l.up (PropertyName s) refl AsWord none tt tt, tt))

  number_made : (o : Tree) (s : List ℕ) (m : ℤ) → Q c (computed_member false o (text s)) → Q c (computed_member false o (numeral m))
  number_made o s m y = l.up (ComputedMember false) refl c (o ▸ numeral m ▸ none) tt ((l.down (ComputedMember false) refl c (o ▸ text s ▸ none) tt y).0, (a_number Q l m, tt))

  member_made : (n w : Tree) → Row33 n w → Q c n → Q c w
  member_made n w (inl r) y = subst (Q c) (sym r.written) (name_made r.is_optional r.object r.name (subst (Q c) r.shape y))
  member_made n w (inr r) y = subst (Q c) (sym r.written) (number_made r.object (signed_decimal r.number) r.number (subst (Q c) r.shape y))

module _ (q : Seat) (n w : Tree) where
  boolean_less : (b : Bool) → n ≡ boolean b → w ≡ negated_digit b → LessAt (Expr q) n w
  boolean_less true e f = made_under q n w (BooleanValue true) none refl e tt (Unary LogicalNot) (numeral (pos 0) ▸ none) refl f (λ strict x k Q l y. subst (Q AsValue) (sym f) (a_truth Q l true))
  boolean_less false e f = made_under q n w (BooleanValue false) none refl e tt (Unary LogicalNot) (numeral (pos 1) ▸ none) refl f (λ strict x k Q l y. subst (Q AsValue) (sym f) (a_truth Q l false))

  name_less : Row33Name n w → LessAt (Expr q) n w
  name_less r = made_under q n w (ComputedMember r.is_optional) (r.object ▸ text r.name ▸ none) refl r.shape tt (StaticMember r.is_optional) (r.object ▸ key r.name ▸ none) refl r.written (λ strict x k Q l y. member_made Q l AsValue n w (inl r) y)

  number_less : Row33Number n w → LessAt (Expr q) n w
  number_less r = made_under q n w (ComputedMember false) (r.object ▸ text (signed_decimal r.number) ▸ none) refl r.shape tt (ComputedMember false) (r.object ▸ numeral r.number ▸ none) refl r.written (λ strict x k Q l y. member_made Q l AsValue n w (inr r) y)

  assigned_less : Row33Assigned n w → LessAt (Expr q) n w
  assigned_less r =
      made_under q n w (Assignment r.operator) (r.target ▸ r.value ▸ none) refl r.shape tt (Assignment r.operator) (r.turned ▸ r.value ▸ none) refl r.written (λ strict x k Q l y.
      let (target, rest) = l.down (Assignment r.operator) refl AsValue (r.target ▸ r.value ▸ none) tt (subst (Q AsValue) r.shape y) in
      subst (Q AsValue) (sym r.written) (l.up (Assignment r.operator) refl AsValue (r.turned ▸ r.value ▸ none) tt (member_made Q l (target_asked r.operator) r.target r.turned r.member target, rest)))

  updated_less : Row33Updated n w → LessAt (Expr q) n w
  updated_less r =
      made_under q n w (Update r.operator r.is_prefix) (r.target ▸ none) refl r.shape tt (Update r.operator r.is_prefix) (r.turned ▸ none) refl r.written (λ strict x k Q l y.
      let (target, rest) = l.down (Update r.operator r.is_prefix) refl AsValue (r.target ▸ none) tt (subst (Q AsValue) r.shape y) in
      subst (Q AsValue) (sym r.written) (l.up (Update r.operator r.is_prefix) refl AsValue (r.turned ▸ none) tt (member_made Q l _ r.target r.turned r.member target, rest)))

  left_less : Row58Left n w → LessAt (Expr q) n w
  left_less r = made_under q n w (Binary r.operator) (r.left ▸ r.right ▸ none) refl r.shape tt (Binary r.operator) (null_literal ▸ r.right ▸ none) refl r.written (λ strict x k Q l y. subst (Q AsValue) (sym r.written) (a_binary Q l r.operator null_literal r.right (a_null Q l) (binary_parts Q l r.operator r.left r.right (subst (Q AsValue) r.shape y)).1))

  right_less : Row58Right n w → LessAt (Expr q) n w
  right_less r = made_under q n w (Binary r.operator) (r.left ▸ r.right ▸ none) refl r.shape tt (Binary r.operator) (r.left ▸ null_literal ▸ none) refl r.written (λ strict x k Q l y. subst (Q AsValue) (sym r.written) (a_binary Q l r.operator r.left null_literal (binary_parts Q l r.operator r.left r.right (subst (Q AsValue) r.shape y)).0 (a_null Q l)))

  swapped_less : Row54 n w → LessAt (Expr q) n w
  swapped_less r =
      made_under q n w (Binary r.operator) (plain r.left ▸ r.right ▸ none) refl r.shape tt (Binary r.operator) (r.right ▸ plain r.left ▸ none) refl r.written (λ strict x k Q l y.
      let (a, b) = binary_parts Q l r.operator (plain r.left) r.right (subst (Q AsValue) r.shape y) in
      subst (Q AsValue) (sym r.written) (a_binary Q l r.operator r.right (plain r.left) b a))

  yield_less : Row60Yield n w → LessAt (Expr q) n w
  yield_less r = made_under q n w (Yield false) (void_zero ▸ none) refl r.shape tt (Yield false) (absent ▸ none) refl r.written (λ strict x k Q l y. subst (Q AsValue) (sym r.written) (l.up (Yield false) refl AsValue (absent ▸ none) tt (l.up AbsentPart refl AsValue none tt tt, tt)))

  typeof_less : Row55 n w → LessAt (Expr q) n w
  typeof_less r =
      made_under q n w (Binary r.operator) (typeof_name r.name ▸ text (codes "undefined") ▸ none) refl r.shape tt (Binary (ordered r.operator)) (typeof_name r.name ▸ text (codes "u") ▸ none) refl r.written (λ strict x k Q l y.
      subst (Q AsValue) (sym r.written) (a_binary Q l (ordered r.operator) (typeof_name r.name) (text (codes "u")) (binary_parts Q l r.operator (typeof_name r.name) (text (codes "undefined")) (subst (Q AsValue) r.shape y)).0 (a_text Q l (codes "u"))))

  value_less : Row55Value n w → LessAt (Expr q) n w
  value_less r =
      made_under q n w (Binary r.operator) (unary Typeof r.operand ▸ text (codes "undefined") ▸ none) refl r.shape tt (Binary (strict_operator r.operator)) (r.operand ▸ void_zero ▸ none) refl r.written (λ strict x k Q l y.
      subst (Q AsValue) (sym r.written) (a_binary Q l (strict_operator r.operator) r.operand void_zero (unary_part Q l Typeof r.operand (binary_parts Q l r.operator (unary Typeof r.operand) (text (codes "undefined")) (subst (Q AsValue) r.shape y)).0) (a_void Q l)))

  text_less : Row19 n w → LessAt (Expr q) n w
  text_less r = made_under q n w Template (listed (node (shape.TemplateElement r.is_tail r.raw (Some r.content)) [] 0 none ▸ none) ▸ listed none ▸ none) refl r.shape tt (String r.content) none refl r.written (λ strict x k Q l y. subst (Q AsValue) (sym r.written) (a_text Q l r.content))

  stepped_less : Row36 n w → LessAt (Expr q) n w
  stepped_less r =
      made_under q n w (Assignment Subtraction) (r.target ▸ amount r.operator ▸ none) refl r.shape tt (Update r.operator true) (r.target ▸ none) refl r.written (λ strict x k Q l y.
      let target = (l.down (Assignment Subtraction) refl AsValue (r.target ▸ amount r.operator ▸ none) tt (subst (Q AsValue) r.shape y)).0 in
      subst (Q AsValue) (sym r.written) (l.up (Update r.operator true) refl AsValue (r.target ▸ none) tt (target, tt)))

row_less : (p : Position) (n w : Tree) → SpellingRow p n w → LessAt p n w
row_less (Expr q) n w (ShortBoolean r) = boolean_less q n w r.value r.shape r.written
row_less (Expr q) n w (DottedMember (inl r)) = name_less q n w r
row_less (Expr q) n w (DottedMember (inr r)) = number_less q n w r
row_less (Expr q) n w (DottedTarget r) = assigned_less q n w r
row_less (Expr q) n w (DottedUpdate r) = updated_less q n w r
row_less (Expr q) n w (LooseLeft r) = left_less q n w r
row_less (Expr q) n w (LooseRight r) = right_less q n w r
row_less (Expr q) n w (SwappedEquality r) = swapped_less q n w r
row_less (Expr q) n w (BareYield r) = yield_less q n w r
row_less (Expr q) n w (OrderedTypeof r) = typeof_less q n w r
row_less (Expr q) n w (PlainTemplate r) = text_less q n w r
row_less (Expr q) n w (ComparedWithVoid r) = value_less q n w r
row_less (Expr q) n w (Stepped r) = stepped_less q n w r
row_less p n w r = absurd r

pub spellings_read_less : SpellingsReadLess
spellings_read_less = reads_less_by SpellingContracts (λ p n w c. row_less p n w c.row)
