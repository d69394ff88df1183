-- The tokens of each production's form, by the node that it is of.
use Rattle.std.proofs.Common.{ap, ◌≡◌, ℕ, suc, ◌^◌, Bool, true, false, ◌&&◌, ◌||◌, not, List, [], ◌∷◌, refl, sym, ◌∙◌}
use Rattle.std.specs.Prelude.{Option, Some, None, nat_lt, pos, negsuc}
use Rattle.std.proofs.lemmas.Bool.{false≢true}
use Rattle.mini_model.specs.declared.name.Name.{Name}
use Rattle.mini_model.specs.declared.kind.VariableDeclarationKind.{VariableDeclarationKind}
use Rattle.mini_model.specs.declared.kind.VariableDeclarationKind.TheVariants.{Var}
use Rattle.mini_model.specs.declared.kind.PropertyKind.TheVariants as kind
use Rattle.mini_model.specs.declared.kind.MetaPropertyKind.TheVariants as meta
use Rattle.mini_model.specs.declared.kind.MethodDefinitionKind.TheVariants as method
use Rattle.mini_model.specs.declared.operator.AssignmentOperator.{AssignmentOperator}
use Rattle.mini_model.specs.declared.operator.AssignmentOperator.TheVariants.{Assign}
use Rattle.mini_model.specs.declared.operator.BinaryOperator.{BinaryOperator}
use Rattle.mini_model.specs.declared.operator.BinaryOperator.TheVariants as binary
use Rattle.mini_model.specs.declared.operator.LogicalOperator.{LogicalOperator}
use Rattle.mini_model.specs.declared.operator.LogicalOperator.TheVariants as logical
use Rattle.mini_model.specs.declared.operator.UnaryOperator.{UnaryOperator}
use Rattle.mini_model.specs.declared.operator.UnaryOperator.TheVariants as unary
use Rattle.mini_model.specs.declared.operator.UpdateOperator.{UpdateOperator}
use Rattle.mini_model.specs.declared.operator.UpdateOperator.TheVariants as update
use Rattle.mini_model.specs.declared.shape.Shape.{Shape}
use Rattle.mini_model.specs.declared.shape.Shape.TheVariants as shape
use Rattle.mini_model.specs.Tree.{Trees}
use Rattle.mini_accept.specs.WellShaped.{has_names}
use Rattle.mini_print.specs.Text.{escaped}
use Rattle.mini_print.specs.Token.{Pattern, Quoted, binary_token, logical_token, unary_token, update_token}
use Rattle.mini_print.specs.Grammar.{Goal, Leading, Element, BlockOnly, KeyName, MethodValue, GeneratorValue, HeadDeclaration, BoundProperty, TagTemplate, FirstLink, Link, DefaultOf, ClassKey, TargetProperty, SourceText, ModuleName, Exportable, DefaultDeclared, Rule, Spread, Block, PropertyName, TextLiteral, FunctionExpression, GeneratorExpression, Variables, Rest, WholeTemplate, OptionalMember, Member, Defaulted, ValueRest, FunctionDeclaration, kind_token, form, first_shape}
use Rattle.mini_print.specs.Printed.{turned, turned_of, rule_at, arrow_of, case_of, catch_of, for_of, for_in_of, for_of_of, method_of, computed_method_of, bound_of, template_of, class_of, class_method_of, class_computed_of, Taker, ABinding, APattern, element_of, rest_of, assignment_of, target_of, yield_of, import_of, import_item_of, export_item_of, export_of, default_of, declared_class_of, first_spelling, first_raw, first_is_absent, is_repeated, is_reference, is_text, part_at, spelling_of, is_one, has_body, declares_first, assigns_first, second_generates, has_default, taker, has_items, declares_default}
use Rattle.mini_model.specs.Tree.{is_absent}
use Rattle.mini_printable.proofs.Clean.{and_l, and_r}
use Rattle.mini_printable.proofs.Rows.{and_one}
use Rattle.mini_printable.proofs.Pairs.{has_pairs, is_spelling, is_said_raw, name_is_spelled, text_is_said}
use Rattle.mini_printable.proofs.Tokens.{leads, is_sayable, form_says, rule_says, HeadSays}

-- ---- goals: a production that is another one elsewhere has its tokens

turned_form : (g : Goal) (k : Rule) → leads g ≡ false → form_says (form (turned g k)) ≡ form_says (form k)
turned_form Leading k e = absurd (false≢true (sym e))
turned_form Element Spread e = refl
turned_form BlockOnly Block e = refl
turned_form KeyName (PropertyName s) e = refl
turned_form MethodValue FunctionExpression e = refl
turned_form GeneratorValue GeneratorExpression e = refl
turned_form HeadDeclaration (Variables k) e = refl
turned_form BoundProperty Rest e = refl
turned_form TagTemplate (WholeTemplate s) e = refl
turned_form FirstLink OptionalMember e = refl
turned_form Link Member e = refl
turned_form (DefaultOf b s) Defaulted e = refl
turned_form ClassKey (PropertyName s) e = refl
turned_form TargetProperty ValueRest e = refl
turned_form SourceText (TextLiteral s) e = refl
turned_form ModuleName (TextLiteral s) e = refl
turned_form Exportable FunctionDeclaration e = refl
turned_form DefaultDeclared FunctionDeclaration e = refl
turned_form g k e = refl

turned_rule : (g : Goal) (o : Option Rule) → leads g ≡ false → rule_says o ≡ true → rule_says (turned_of g o) ≡ true
turned_rule g None z e = refl
turned_rule g (Some k) z e = turned_form g k z ∙ e

-- ---- operators and kinds

kind_says : (k : VariableDeclarationKind) → is_sayable (kind_token k) ≡ true
kind_says Var = refl
kind_says k = refl

unary_says : (o : UnaryOperator) → is_sayable (unary_token o) ≡ true
unary_says unary.Typeof = refl
unary_says o = refl

update_says : (o : UpdateOperator) → is_sayable (update_token o) ≡ true
update_says update.Increment = refl
update_says o = refl

binary_says : (o : BinaryOperator) → is_sayable (binary_token o) ≡ true
binary_says binary.In = refl
binary_says o = refl

logical_says : (o : LogicalOperator) → is_sayable (logical_token o) ≡ true
logical_says logical.Or = refl
logical_says o = refl

-- ---- productions over their parts

pub by_bool : (P : Bool → Type 0) → P true → P false → (b : Bool) → P b
by_bool P p q true = p
by_bool P p q false = q

for_in_says : (d p : Bool) → form_says (form (for_in_of d p)) ≡ true
for_in_says true p = refl
for_in_says false true = refl
for_in_says false false = refl

for_of_says : (d p : Bool) → form_says (form (for_of_of d p)) ≡ true
for_of_says true p = refl
for_of_says false true = refl
for_of_says false false = refl

element_says : (k : Taker) → form_says (form (element_of k)) ≡ true
element_says ABinding = refl
element_says k = refl

rest_says : (k : Taker) → form_says (form (rest_of k)) ≡ true
rest_says ABinding = refl
rest_says k = refl

assignment_says : (o : AssignmentOperator) (k : Taker) → form_says (form (assignment_of o k)) ≡ true
assignment_says Assign APattern = refl
assignment_says o k = refl

class_says : (a : Bool) (s : List ℕ) → (a || is_spelling s) ≡ true → form_says (form (class_of a s)) ≡ true
class_says true s e = refl
class_says false s e = and_one (is_spelling s) e

declared_class_says : (a : Bool) (s : List ℕ) → (a || is_spelling s) ≡ true → form_says (form (declared_class_of a s)) ≡ true
declared_class_says true s e = refl
declared_class_says false s e = and_one (is_spelling s) e

import_says : (a n l : Bool) (s m : List ℕ) → (a || is_spelling s) ≡ true → has_pairs false m ≡ true → form_says (form (import_of a n l s m)) ≡ true
import_says true true true s m e f = and_one (is_sayable (Quoted (escaped m))) (text_is_said m f)
import_says true true false s m e f = refl
import_says true false l s m e f = refl
import_says false true true s m e f = and_one (is_spelling s) e
import_says false true false s m e f = and_one (is_spelling s) e
import_says false false l s m e f = and_one (is_spelling s) e

import_item_says : (b : Bool) (s : List ℕ) → (not b || is_spelling s) ≡ true → form_says (form (import_item_of b s)) ≡ true
import_item_says true s e = and_one (is_spelling s) e
import_item_says false s e = refl

export_item_says : (r b t : Bool) (s : List ℕ) → ((not r && t) || is_spelling s) ≡ true → has_pairs false s ≡ true → form_says (form (export_item_of r b t s)) ≡ true
export_item_says true true t s e f = and_one (is_spelling s) e
export_item_says true false t s e f = and_one (is_spelling s) e
export_item_says false true true s e f = and_one (is_sayable (Quoted (escaped s))) (text_is_said s f)
export_item_says false true false s e f = and_one (is_spelling s) e
export_item_says false false t s e f = refl

export_says : (a b : Bool) → form_says (form (export_of a b)) ≡ true
export_says true true = refl
export_says true false = refl
export_says false b = refl

-- ---- nodes: what their own texts and numbers have to be

abbrev pub needs : Shape → Trees → Bool
needs (shape.IdentifierName s) us = is_spelling s
needs (shape.PrivateIdentifier s) us = is_spelling s
needs (shape.NumericLiteral (pos n)) us = nat_lt n (2 ^ 64)
needs (shape.NumericLiteral (negsuc n)) us = nat_lt (suc n) (2 ^ 64)
needs (shape.BigIntLiteral n) us = nat_lt n (2 ^ 128)
needs (shape.StringLiteral s) us = has_pairs false s
needs (shape.RegExpLiteral p f) us = is_sayable (Pattern p f)
needs (shape.TemplateElement b s c) us = is_said_raw s
needs shape.TemplateLiteral us = is_said_raw (first_raw us)
needs shape.LabeledStatement us = is_spelling (first_spelling us)
needs shape.PrivateInExpression us = is_spelling (first_spelling us)
needs (shape.BindingProperty true false) us = is_spelling (first_spelling us)
needs (shape.ObjectProperty kind.Init false true false) us = is_spelling (first_spelling us)
needs shape.AssignmentTargetPropertyIdentifier us = is_spelling (first_spelling us)
needs (shape.Class b) us = first_is_absent us || is_spelling (first_spelling us)
needs shape.ImportDeclaration us = (first_is_absent us || is_spelling (first_spelling us)) && has_pairs false (spelling_of (part_at 3 us))
needs shape.ImportSpecifier us = not (is_repeated us) || is_spelling (first_spelling us)
needs shape.ExportSpecifier us = ((not (is_reference (part_at 0 us)) && is_text (part_at 0 us)) || is_spelling (spelling_of (part_at 0 us))) && has_pairs false (spelling_of (part_at 0 us))
needs _ us = true

-- all but the body of a function
abbrev pub is_body : Shape → Bool
is_body shape.FunctionBody = true
is_body _ = false

plain_head : (h : Shape) (us : Trees) → needs h us ≡ true → is_body h ≡ false → rule_says (rule_at h [] us) ≡ true
plain_head (shape.IdentifierName s) us e d = and_one (is_spelling s) e
plain_head (shape.PrivateIdentifier s) us e d = and_one (is_spelling s) e
plain_head (shape.NumericLiteral (pos n)) us e d = ap (λ b. (b && true) && true) e
plain_head (shape.NumericLiteral (negsuc n)) us e d = refl
plain_head (shape.BigIntLiteral n) us e d = ap (λ b. (b && true) && true) e
plain_head (shape.StringLiteral s) us e d = and_one (is_sayable (Quoted (escaped s))) (text_is_said s e)
plain_head (shape.RegExpLiteral p f) us e d = and_one (is_sayable (Pattern p f)) e
plain_head (shape.BooleanLiteral true) us e d = refl
plain_head (shape.UpdateExpression o true) us e d = and_one (is_sayable (update_token o)) (update_says o)
plain_head (shape.UpdateExpression o false) us e d = and_one (is_sayable (update_token o)) (update_says o)
plain_head (shape.UnaryExpression o) us e d = and_one (is_sayable (unary_token o)) (unary_says o)
plain_head (shape.BinaryExpression o) us e d = and_one (is_sayable (binary_token o)) (binary_says o)
plain_head (shape.LogicalExpression o) us e d = and_one (is_sayable (logical_token o)) (logical_says o)
plain_head (shape.AssignmentExpression o) us e d = assignment_says o (taker (first_shape us))
plain_head (shape.ArrowFunctionExpression []) us e d = by_bool (λ b. form_says (form (arrow_of b)) ≡ true) refl refl (has_body us)
plain_head (shape.VariableDeclaration k) us e d = and_one (is_sayable (kind_token k)) (kind_says k)
plain_head shape.ForStatement us e d = by_bool (λ b. form_says (form (for_of b)) ≡ true) refl refl (declares_first us)
plain_head shape.ForInStatement us e d = for_in_says (declares_first us) (assigns_first us)
plain_head shape.ForOfStatement us e d = for_of_says (declares_first us) (assigns_first us)
plain_head (shape.Function false false []) us e d = refl
plain_head (shape.Function false true []) us e d = refl
plain_head (shape.Function true false []) us e d = refl
plain_head (shape.Function true true []) us e d = refl
plain_head (shape.YieldExpression false) us e d = by_bool (λ b. form_says (form (yield_of b)) ≡ true) refl refl (first_is_absent us)
plain_head (shape.MetaProperty meta.NewTarget) us e d = refl
plain_head (shape.StaticMemberExpression false) us e d = refl
plain_head (shape.ComputedMemberExpression false) us e d = refl
plain_head (shape.PrivateFieldExpression false) us e d = refl
plain_head (shape.CallExpression false) us e d = refl
plain_head shape.LabeledStatement us e d = and_one (is_spelling (first_spelling us)) e
plain_head shape.PrivateInExpression us e d = and_one (is_spelling (first_spelling us)) e
plain_head shape.SwitchCase us e d = by_bool (λ b. form_says (form (case_of b)) ≡ true) refl refl (first_is_absent us)
plain_head shape.CatchClause us e d = by_bool (λ b. form_says (form (catch_of b)) ≡ true) refl refl (first_is_absent us)
plain_head (shape.ObjectProperty kind.Init true false false) us e d = by_bool (λ b. form_says (form (method_of b)) ≡ true) refl refl (second_generates us)
plain_head (shape.ObjectProperty kind.Init true false true) us e d = by_bool (λ b. form_says (form (computed_method_of b)) ≡ true) refl refl (second_generates us)
plain_head (shape.ObjectProperty kind.Init false true false) us e d = and_one (is_spelling (first_spelling us)) e
plain_head (shape.ObjectProperty kind.Init false false false) us e d = refl
plain_head (shape.ObjectProperty kind.Get false false false) us e d = refl
plain_head (shape.ObjectProperty kind.Set false false false) us e d = refl
plain_head shape.RestElement us e d = rest_says (taker (first_shape us))
plain_head (shape.BindingProperty true false) us e d = by_bool (λ b. form_says (form (bound_of b (first_spelling us))) ≡ true) (and_one (is_spelling (first_spelling us)) e) (and_one (is_spelling (first_spelling us)) e) (has_default us)
plain_head (shape.BindingProperty false false) us e d = refl
plain_head shape.TemplateLiteral us e d = by_bool (λ b. form_says (form (template_of b (first_raw us))) ≡ true) (and_one (is_said_raw (first_raw us)) e) (and_one (is_said_raw (first_raw us)) e) (is_one us)
plain_head (shape.TemplateElement true s c) us e d = and_one (is_said_raw s) e
plain_head (shape.TemplateElement false s c) us e d = and_one (is_said_raw s) e
plain_head (shape.Class false) us e d = class_says (first_is_absent us) (first_spelling us) e
plain_head (shape.Class true) us e d = declared_class_says (first_is_absent us) (first_spelling us) e
plain_head (shape.MethodDefinition k c true) us e d = refl
plain_head (shape.MethodDefinition method.Constructor false false) us e d = by_bool (λ b. form_says (form (class_method_of b)) ≡ true) refl refl (second_generates us)
plain_head (shape.MethodDefinition method.Method false false) us e d = by_bool (λ b. form_says (form (class_method_of b)) ≡ true) refl refl (second_generates us)
plain_head (shape.MethodDefinition method.Method true false) us e d = by_bool (λ b. form_says (form (class_computed_of b)) ≡ true) refl refl (second_generates us)
plain_head (shape.MethodDefinition method.Get true false) us e d = refl
plain_head (shape.MethodDefinition method.Get false false) us e d = refl
plain_head (shape.MethodDefinition method.Set true false) us e d = refl
plain_head (shape.MethodDefinition method.Set false false) us e d = refl
plain_head (shape.PropertyDefinition c true) us e d = refl
plain_head (shape.PropertyDefinition true false) us e d = refl
plain_head shape.AssignmentPattern us e d = element_says (taker (first_shape us))
plain_head shape.AssignmentTargetPropertyIdentifier us e d = by_bool (λ b. form_says (form (target_of b (first_spelling us))) ≡ true) (and_one (is_spelling (first_spelling us)) e) (and_one (is_spelling (first_spelling us)) e) (has_default us)
plain_head (shape.AssignmentTargetPropertyProperty false) us e d = refl
plain_head shape.ImportDeclaration us e d = import_says (first_is_absent us) (is_absent (part_at 1 us)) (not (has_items (part_at 2 us))) (first_spelling us) (spelling_of (part_at 3 us)) (and_l (first_is_absent us || is_spelling (first_spelling us)) (has_pairs false (spelling_of (part_at 3 us))) e) (and_r (first_is_absent us || is_spelling (first_spelling us)) (has_pairs false (spelling_of (part_at 3 us))) e)
plain_head shape.ImportSpecifier us e d = import_item_says (is_repeated us) (first_spelling us) e
plain_head shape.ExportNamedDeclaration us e d = export_says (first_is_absent us) (is_absent (part_at 2 us))
plain_head shape.ExportSpecifier us e d = let w = (not (is_reference (part_at 0 us)) && is_text (part_at 0 us)) || is_spelling (spelling_of (part_at 0 us)) in export_item_says (is_reference (part_at 0 us)) (is_repeated us) (is_text (part_at 0 us)) (spelling_of (part_at 0 us)) (and_l w (has_pairs false (spelling_of (part_at 0 us))) e) (and_r w (has_pairs false (spelling_of (part_at 0 us))) e)
plain_head shape.ExportDefaultDeclaration us e d = by_bool (λ b. form_says (form (default_of b)) ≡ true) refl refl (declares_default (first_shape us))
plain_head shape.FunctionBody us e d = absurd (false≢true (sym d))
plain_head h us e d = refl

named_head : (h : Shape) (x : Name) (xs : List Name) (us : Trees) → has_names h (x ∷ xs) ≡ true → rule_says (rule_at h (x ∷ xs) us) ≡ true
named_head shape.Identifier x [] us e = and_one (is_spelling x.spelling) (name_is_spelled x.spelling e)
named_head shape.BindingIdentifier x [] us e = and_one (is_spelling x.spelling) (name_is_spelled x.spelling e)
named_head shape.VariableDeclarator x xs us e = refl
named_head h x xs us e = absurd (false≢true e)

own_head : (h : Shape) (xs : List Name) (us : Trees) → has_names h xs ≡ true → needs h us ≡ true → is_body h ≡ false → rule_says (rule_at h xs us) ≡ true
own_head h [] us p e d = plain_head h us e d
own_head h (x ∷ xs) us p e d = named_head h x xs us p

pub head_says : (h : Shape) (xs : List Name) (us : Trees) → has_names h xs ≡ true → needs h us ≡ true → is_body h ≡ false → HeadSays h xs us
head_says (shape.NumericLiteral (negsuc m)) xs us p e d = (λ g z. turned_rule g (rule_at (shape.NumericLiteral (negsuc m)) xs us) z (own_head (shape.NumericLiteral (negsuc m)) xs us p e d), e)
head_says shape.FunctionBody xs us p e d = absurd (false≢true (sym d))
head_says h xs us p e d = λ g z. turned_rule g (rule_at h xs us) z (own_head h xs us p e d)
