-- What a row on a spelling writes keeps all that a program has to keep: it is built anew of the same parts.
use Rattle.std.proofs.Common.{◌≡◌, ℕ, Bool, true, false, List, [], ◌∷◌, refl, sym, ap, subst, ◌∙◌, inl, inr}
use Rattle.std.specs.Prelude.{codes, pos, ℤ, negsuc}
use Rattle.std.specs.Fmt.{signed_decimal}
use Rattle.mini_model.specs.declared.operator.AssignmentOperator.{AssignmentOperator}
use Rattle.mini_model.specs.declared.operator.AssignmentOperator.TheVariants.{Assign, Subtraction}
use Rattle.mini_model.specs.declared.operator.UnaryOperator.TheVariants as unary_operator
use Rattle.mini_model.specs.declared.place.Position.{Position}
use Rattle.mini_model.specs.declared.place.Position.TheVariants.{Expr}
use Rattle.mini_model.specs.declared.seat.Seat.{Seat}
use Rattle.mini_model.specs.Tree.{Tree, none, ◌▸◌}
use Rattle.mini_kept.specs.KeepsNames.{is_rewritten_place}
use Rattle.mini_kept.specs.Lawful.{Lawful}
use Rattle.mini_laws.specs.DeclaredNames.{has_inner}
use Rattle.mini_rows.specs.Arranged.{KeptAt, Vanishes}
use Rattle.mini_rows.specs.Sketches.{AbsentPart, Null, BooleanValue, Number, String, PropertyName, Unary, Binary, StaticMember, ComputedMember, Yield, Assignment, Update, Sketch, part, under, end, ◌▹◌, Free, still, rearranges_expression}
use Rattle.mini_rows.specs.Spellings.{boolean, assignment, update, template, plain, negated_digit, IsUndefined, Row33, Row33Name, Row33Number, Row33Assigned, Row33Updated, Row58Left, Row58Right, Row54, Row60Yield, ordered, strict_operator, typeof_name, Row55, Row55Value, SpellingRow, SpellingContracts, ShortBoolean, DottedMember, DottedTarget, DottedUpdate, LooseLeft, LooseRight, SwappedEquality, BareYield, OrderedTypeof, PlainTemplate, ComparedWithVoid, Stepped, subtracts, steps}
use Rattle.mini_rows.proofs.ArrangedExpressions.{expressions_arranged, expressions_arranged_freely}
use Rattle.mini_rows.proofs.ArrangedLawful.{kept_is_lawful}
use Rattle.mini_rows.proofs.SpellMeaning.{spellings_same}
use Rattle.mini_rows.proofs.SpellShapes.{row_fits, row_asked, row_slot}
use Rattle.mini_rows.proofs.TemplateTexts.{text_kept}
use Rattle.mini_model.specs.declared.operator.UpdateOperator.{UpdateOperator}
use Rattle.mini_model.specs.declared.operator.UpdateOperator.TheVariants.{Increment, Decrement}

-- 65
boolean_kept : (q : Seat) (n w : Tree) (b : Bool) → n ≡ boolean b → w ≡ negated_digit b → KeptAt (Expr q) n w
boolean_kept q n w true e f = expressions_arranged (record { trees = none; lists = [] }) (under (BooleanValue true) end) (under (Unary unary_operator.LogicalNot) (under (Number (pos 0)) end ▹ end)) refl q n w e f
boolean_kept q n w false e f = expressions_arranged (record { trees = none; lists = [] }) (under (BooleanValue false) end) (under (Unary unary_operator.LogicalNot) (under (Number (pos 1)) end ▹ end)) refl q n w e f

-- 33

-- `o["x"]`, `o.x` and `o[1]` of the part 0
abbrev by_text : Bool → List ℕ → Sketch
by_text b s = under (ComputedMember b) (part 0 ▹ under (String s) end ▹ end)

abbrev by_name : Bool → List ℕ → Sketch
by_name b s = under (StaticMember b) (part 0 ▹ under (PropertyName s) end ▹ end)

abbrev by_number : ℤ → Sketch
by_number k = under (ComputedMember false) (part 0 ▹ under (Number k) end ▹ end)

name_kept : (q : Seat) (n w : Tree) → Row33Name n w → KeptAt (Expr q) n w
name_kept q n w r = expressions_arranged (record { trees = r.object ▸ none; lists = [] }) (by_text r.is_optional r.name) (by_name r.is_optional r.name) refl q n w r.shape r.written

number_kept : (q : Seat) (n w : Tree) → Row33Number n w → KeptAt (Expr q) n w
number_kept q n w r = expressions_arranged (record { trees = r.object ▸ none; lists = [] }) (by_text false (signed_decimal r.number)) (by_number r.number) refl q n w r.shape r.written

-- what is assigned to it is the part 1
abbrev assigning : AssignmentOperator → Sketch → Sketch
assigning o s = under (Assignment o) (s ▹ part 1 ▹ end)

name_rearranged : (o : AssignmentOperator) (b : Bool) (s : List ℕ) → rearranges_expression still (assigning o (by_text b s)) (assigning o (by_name b s)) ≡ true
name_rearranged Assign b s = refl
name_rearranged o b s = refl

number_rearranged : (o : AssignmentOperator) (s : List ℕ) (k : ℤ) → rearranges_expression still (assigning o (by_text false s)) (assigning o (by_number k)) ≡ true
number_rearranged Assign s k = refl
number_rearranged o s k = refl

assigned_kept : (q : Seat) (n w : Tree) → Row33Assigned n w → KeptAt (Expr q) n w
assigned_kept q n w r = go r.member
  where
    go : Row33 r.target r.turned → KeptAt (Expr q) n w
    go (inl m) = expressions_arranged (record { trees = m.object ▸ r.value ▸ none; lists = [] }) (assigning r.operator (by_text m.is_optional m.name)) (assigning r.operator (by_name m.is_optional m.name)) (name_rearranged r.operator m.is_optional m.name) q n w (r.shape ∙ ap (λ t. assignment r.operator t r.value) m.shape) (r.written ∙ ap (λ t. assignment r.operator t r.value) m.written)
    go (inr m) = expressions_arranged (record { trees = m.object ▸ r.value ▸ none; lists = [] }) (assigning r.operator (by_text false (signed_decimal m.number))) (assigning r.operator (by_number m.number)) (number_rearranged r.operator (signed_decimal m.number) m.number) q n w (r.shape ∙ ap (λ t. assignment r.operator t r.value) m.shape) (r.written ∙ ap (λ t. assignment r.operator t r.value) m.written)

updated_kept : (q : Seat) (n w : Tree) → Row33Updated n w → KeptAt (Expr q) n w
updated_kept q n w r = go r.member
  where
    go : Row33 r.target r.turned → KeptAt (Expr q) n w
    go (inl m) = expressions_arranged (record { trees = m.object ▸ none; lists = [] }) (under (Update r.operator r.is_prefix) (by_text m.is_optional m.name ▹ end)) (under (Update r.operator r.is_prefix) (by_name m.is_optional m.name ▹ end)) refl q n w (r.shape ∙ ap (update r.operator r.is_prefix) m.shape) (r.written ∙ ap (update r.operator r.is_prefix) m.written)
    go (inr m) = expressions_arranged (record { trees = m.object ▸ none; lists = [] }) (under (Update r.operator r.is_prefix) (by_text false (signed_decimal m.number) ▹ end)) (under (Update r.operator r.is_prefix) (by_number m.number ▹ end)) refl q n w (r.shape ∙ ap (update r.operator r.is_prefix) m.shape) (r.written ∙ ap (update r.operator r.is_prefix) m.written)

-- 58: the value that is undefined goes
undefined_vanishes : (u : Tree) → IsUndefined u → Vanishes u
unfolding has_inner
undefined_vanishes u (inl h) = subst Vanishes (sym h) (record { inner = refl; fixed = λ x. refl })
undefined_vanishes u (inr h) = subst Vanishes (sym h) (record { inner = refl; fixed = λ x. refl })

abbrev first_dropped : Free
first_dropped = record { moved = []; lists_moved = []; dropped = 0 ∷ [] }

left_kept : (q : Seat) (n w : Tree) → Row58Left n w → KeptAt (Expr q) n w
left_kept q n w r = expressions_arranged_freely first_dropped (record { trees = r.left ▸ r.right ▸ none; lists = [] }) (tt, tt, (undefined_vanishes r.left r.undefined, tt)) (under (Binary r.operator) (part 0 ▹ part 1 ▹ end)) (under (Binary r.operator) (under Null end ▹ part 1 ▹ end)) refl q n w r.shape r.written

right_kept : (q : Seat) (n w : Tree) → Row58Right n w → KeptAt (Expr q) n w
right_kept q n w r = expressions_arranged_freely first_dropped (record { trees = r.right ▸ r.left ▸ none; lists = [] }) (tt, tt, (undefined_vanishes r.right r.undefined, tt)) (under (Binary r.operator) (part 1 ▹ part 0 ▹ end)) (under (Binary r.operator) (part 1 ▹ under Null end ▹ end)) refl q n w r.shape r.written

-- 54
swap_kept : (q : Seat) (n w : Tree) → Row54 n w → KeptAt (Expr q) n w
swap_kept q n w r = expressions_arranged (record { trees = plain r.left ▸ r.right ▸ none; lists = [] }) (under (Binary r.operator) (part 0 ▹ part 1 ▹ end)) (under (Binary r.operator) (part 1 ▹ part 0 ▹ end)) refl q n w r.shape r.written

-- 60
yield_kept : (q : Seat) (n w : Tree) → Row60Yield n w → KeptAt (Expr q) n w
yield_kept q n w r = expressions_arranged (record { trees = none; lists = [] }) (under (Yield false) (under (Unary unary_operator.Void) (under (Number (pos 0)) end ▹ end) ▹ end)) (under (Yield false) (under AbsentPart end ▹ end)) refl q n w r.shape r.written

-- 55
typeof_kept : (q : Seat) (n w : Tree) → Row55 n w → KeptAt (Expr q) n w
typeof_kept q n w r = expressions_arranged (record { trees = typeof_name r.name ▸ none; lists = [] }) (under (Binary r.operator) (part 0 ▹ under (String (codes "undefined")) end ▹ end)) (under (Binary (ordered r.operator)) (part 0 ▹ under (String (codes "u")) end ▹ end)) refl q n w r.shape r.written

value_kept : (q : Seat) (n w : Tree) → Row55Value n w → KeptAt (Expr q) n w
value_kept q n w r = expressions_arranged (record { trees = r.operand ▸ none; lists = [] }) (under (Binary r.operator) (under (Unary unary_operator.Typeof) (part 0 ▹ end) ▹ under (String (codes "undefined")) end ▹ end)) (under (Binary (strict_operator r.operator)) (part 0 ▹ under (Unary unary_operator.Void) (under (Number (pos 0)) end ▹ end) ▹ end)) refl q n w r.shape r.written

-- 36
step_kept : (q : Seat) (n w : Tree) (o : UpdateOperator) (t : Tree) → n ≡ subtracts o t → w ≡ steps o t → KeptAt (Expr q) n w
step_kept q n w Decrement t = expressions_arranged (record { trees = t ▸ none; lists = [] }) (under (Assignment Subtraction) (part 0 ▹ under (Number (pos 1)) end ▹ end)) (under (Update Decrement true) (part 0 ▹ end)) refl q n w
step_kept q n w Increment t = expressions_arranged (record { trees = t ▸ none; lists = [] }) (under (Assignment Subtraction) (part 0 ▹ under (Number (negsuc 0)) end ▹ end)) (under (Update Increment true) (part 0 ▹ end)) refl q n w

-- all

expression_kept : (q : Seat) (n w : Tree) → SpellingRow (Expr q) n w → KeptAt (Expr q) n w
expression_kept q n w (ShortBoolean r) = boolean_kept q n w r.value r.shape r.written
expression_kept q n w (DottedMember (inl r)) = name_kept q n w r
expression_kept q n w (DottedMember (inr r)) = number_kept q n w r
expression_kept q n w (DottedTarget r) = assigned_kept q n w r
expression_kept q n w (DottedUpdate r) = updated_kept q n w r
expression_kept q n w (LooseLeft r) = left_kept q n w r
expression_kept q n w (LooseRight r) = right_kept q n w r
expression_kept q n w (SwappedEquality r) = swap_kept q n w r
expression_kept q n w (BareYield r) = yield_kept q n w r
expression_kept q n w (OrderedTypeof r) = typeof_kept q n w r
expression_kept q n w (PlainTemplate r) = subst (λ t. KeptAt (Expr q) t w) (sym r.shape) (subst (KeptAt (Expr q) (template r.is_tail r.raw r.content)) (sym r.written) (text_kept r.is_tail r.raw r.content q))
expression_kept q n w (ComparedWithVoid r) = value_kept q n w r
expression_kept q n w (Stepped r) = step_kept q n w r.operator r.target r.shape r.written

kept : (p : Position) (n w : Tree) → SpellingRow p n w → KeptAt p n w
kept (Expr q) n w r = expression_kept q n w r
kept p n w r = absurd r

places : (p : Position) (n w : Tree) → SpellingRow p n w → is_rewritten_place p ≡ true
places (Expr q) n w r = refl
places p n w r = absurd r

pub lawful : Lawful SpellingContracts
lawful =
    kept_is_lawful SpellingContracts spellings_same
    (record { fitting = λ p n w c strict s k e. row_fits p n w c.row strict s k e; asked = λ p n w c. row_asked p n w c.row })
    (λ p n w c. places p n w c.row)
    (λ p n w c strict s k e. row_slot p n w c.row strict s k e)
    (λ p n w c. kept p n w c.row)
