-- The production of a node, over the node's parts, is the node.
use Rattle.std.specs.Prelude.{ℕ, zero, suc, ◌≡◌, refl, Bool, true, false, ◌&&◌, not, List, [], ◌∷◌, pos, negsuc, Option, Some, None}
use Rattle.std.proofs.Common.{◌∙◌, ap, sym, subst}
use Rattle.std.proofs.lemmas.Bool.{false≢true}
use Rattle.mini_model.specs.declared.name.Name.{Name}
use Rattle.mini_model.specs.declared.operator.AssignmentOperator.TheVariants.{Assign}
use Rattle.mini_model.specs.declared.kind.PropertyKind.TheVariants as kind
use Rattle.mini_model.specs.declared.kind.MethodDefinitionKind.{MethodDefinitionKind}
use Rattle.mini_model.specs.declared.kind.MethodDefinitionKind.TheVariants as method
use Rattle.mini_model.specs.declared.shape.Shape.{Shape}
use Rattle.mini_model.specs.declared.shape.Shape.TheVariants as shape
use Rattle.mini_model.specs.declared.operator.UnaryOperator.TheVariants.{UnaryNegation}
use Rattle.mini_print.proofs.Told.{same_is, both, untrue, flag_is}
use Rattle.mini_model.specs.Templates.{cooked}
use Rattle.mini_model.specs.declared.kind.MetaPropertyKind.TheVariants as meta
use Rattle.mini_model.specs.Tree.{Tree, Trees, node, none, ◌▸◌, leaf, absent, is_absent}
use Rattle.mini_print.specs.Grammar.{Rule, Unary, Part, form, built, has_private, member_shape, Defaulted, same_flag, StaticElement, static_shape, first_shape, constructor_shape, method_kind}
use Rattle.mini_print.specs.Printed.{settled, settled_parts, is_positive_literal, rule_at, has_body, arrow_of, bare_names, wants, open_form, is_sound, case_of, catch_of, first_is_absent, for_of, for_in_of, for_of_of, declares_first, method_of, second_generates, same_cooked, template_of, is_one, first_raw, second_is_absent, bound_of, computed_method_of, has_default, first_spelling, class_of, class_method_of, class_computed_of, same_member, same_kind, Taker, ABinding, APattern, AValue, taker, element_of, rest_of, assignment_of, target_of, yield_of, import_of, part_at, has_items, spelling_of, is_text, is_reference, is_repeated, import_item_of, export_item_of, export_of, declares_default, default_of, declared_class_of, assigns_first}

-- ---- the production of a node, over its parts, is the node

abbrev pub built_by : Option Rule → Trees → Tree
built_by None ks = absent
built_by (Some h) ks = built h ks

abbrev pub is_found : Option Rule → Bool
is_found None = false
is_found (Some h) = true

abbrev pub is_negative : Shape → Bool
is_negative (shape.NumericLiteral (negsuc n)) = true
is_negative _ = false

-- what is built of no parts
pub over_none : (c : Bool) (ps : List Part) (ts : Trees) (f : Trees → Tree) → ts ≡ none → f none ≡ f (settled_parts c ps ts)
over_none c ps ts f e = subst (λ us. f none ≡ f (settled_parts c ps us)) (sym e) refl

-- of a production without parts
abbrev pub Childless : Option Rule → Trees → Type 0
Childless None ts = Unit {0}
Childless (Some k) ts = wants (form k) ≡ [] → ts ≡ none

pub not_positive : (t : Tree) → not (is_positive_literal t) ≡ true → built (Unary UnaryNegation) (settled false t ▸ none) ≡ node (shape.UnaryExpression UnaryNegation) [] 0 (settled false t ▸ none)
not_positive (node (shape.NumericLiteral (pos zero)) xs m ts) e = refl
not_positive (node (shape.NumericLiteral (pos (suc n))) xs m ts) e = absurd (false≢true e)
not_positive (node (shape.NumericLiteral (negsuc n)) xs m ts) e = refl
not_positive (node _ xs m ts) e = refl

pub arrow_built : (b : Bool) (ks : Trees) → built (arrow_of b) ks ≡ node (shape.ArrowFunctionExpression []) [] 0 ks
arrow_built true ks = refl
arrow_built false ks = refl

pub for_built : (b : Bool) (ks : Trees) → built (for_of b) ks ≡ node shape.ForStatement [] 0 ks
for_built true ks = refl
for_built false ks = refl

pub for_in_built : (b p : Bool) (ks : Trees) → built (for_in_of b p) ks ≡ node shape.ForInStatement [] 0 ks
for_in_built true p ks = refl
for_in_built false true ks = refl
for_in_built false false ks = refl

pub for_of_built : (b p : Bool) (ks : Trees) → built (for_of_of b p) ks ≡ node shape.ForOfStatement [] 0 ks
for_of_built true p ks = refl
for_of_built false true ks = refl
for_of_built false false ks = refl

pub method_built : (b : Bool) (ks : Trees) → built (method_of b) ks ≡ node (shape.ObjectProperty kind.Init true false false) [] 0 ks
method_built true ks = refl
method_built false ks = refl

pub case_built : (b : Bool) (ks : Trees) → built (case_of b) ks ≡ node shape.SwitchCase [] 0 ks
case_built true ks = refl
case_built false ks = refl

pub catch_built : (b : Bool) (ks : Trees) → built (catch_of b) ks ≡ node shape.CatchClause [] 0 ks
catch_built true ks = refl
catch_built false ks = refl

pub template_built : (b : Bool) (s : List ℕ) (ks : Trees) → built (template_of b s) ks ≡ node shape.TemplateLiteral [] 0 ks
template_built true s ks = refl
template_built false s ks = refl

pub same_cooked_is : (c d : Option (List ℕ)) → same_cooked c d ≡ true → c ≡ d
same_cooked_is None None e = refl
same_cooked_is (Some s) (Some r) e = ap (λ y. Some y) (same_is s r e)
same_cooked_is None (Some r) e = absurd (false≢true e)
same_cooked_is (Some s) None e = absurd (false≢true e)

pub bound_built : (b : Bool) (s : List ℕ) (ks : Trees) → built (bound_of b s) ks ≡ node (shape.BindingProperty true false) [] 0 ks
bound_built true s ks = refl
bound_built false s ks = refl

pub computed_built : (b : Bool) (ks : Trees) → built (computed_method_of b) ks ≡ node (shape.ObjectProperty kind.Init true false true) [] 0 ks
computed_built true ks = refl
computed_built false ks = refl

pub default_built : (c : Bool) (ts : Trees) → second_is_absent ts ≡ false → built Defaulted (settled_parts c [] ts) ≡ node shape.AssignmentPattern [] 0 (settled_parts c [] ts)
default_built c none e = refl
default_built c (a ▸ none) e = refl
default_built c (a ▸ node shape.Absent xs n us ▸ none) e = absurd (false≢true (sym e))
default_built c (a ▸ node _ xs n us ▸ none) e = refl
default_built c (a ▸ node shape.Absent xs n us ▸ d ▸ ts) e = refl
default_built c (a ▸ node _ xs n us ▸ d ▸ ts) e = refl

pub class_built : (b : Bool) (s : List ℕ) (ks : Trees) → built (class_of b s) ks ≡ node (shape.Class false) [] 0 ks
class_built true s ks = refl
class_built false s ks = refl

-- the first part keeps its shape
pub first_stays : (c : Bool) (ts : Trees) → first_shape (settled_parts c [] ts) ≡ first_shape ts
first_stays c none = refl
first_stays c (node h xs n us ▸ ts) = refl

pub class_method_built : (b : Bool) (ks : Trees) → built (class_method_of b) ks ≡ node (shape.MethodDefinition (method_kind (constructor_shape (first_shape ks))) false false) [] 0 ks
class_method_built true ks = refl
class_method_built false ks = refl

pub method_built_as : (a b c : Bool) (ts : Trees) → constructor_shape (first_shape ts) ≡ b → built (class_method_of a) (settled_parts c [] ts) ≡ node (shape.MethodDefinition (method_kind b) false false) [] 0 (settled_parts c [] ts)
method_built_as a b c ts e =
    class_method_built a (settled_parts c [] ts) ∙ ap (λ h. node (shape.MethodDefinition (method_kind (constructor_shape h)) false false) [] 0 (settled_parts c [] ts)) (first_stays c ts) ∙
    ap (λ z. node (shape.MethodDefinition (method_kind z) false false) [] 0 (settled_parts c [] ts)) e

pub method_rebuilt : (a b c : Bool) (ts : Trees) → constructor_shape (first_shape ts) ≡ b →
    built (class_method_of a) (settled_parts c (open_form (Some (class_method_of a))) ts) ≡ node (shape.MethodDefinition (method_kind b) false false) [] 0 (settled_parts c (open_form (Some (class_method_of a))) ts)
method_rebuilt true b c ts e = method_built_as true b c ts e
method_rebuilt false b c ts e = method_built_as false b c ts e

pub class_computed_built : (b : Bool) (ks : Trees) → built (class_computed_of b) ks ≡ node (shape.MethodDefinition method.Method true false) [] 0 ks
class_computed_built true ks = refl
class_computed_built false ks = refl

pub same_kind_is : (k j : MethodDefinitionKind) → same_kind k j ≡ true → k ≡ j
same_kind_is method.Constructor method.Constructor e = refl
same_kind_is method.Method method.Method e = refl
same_kind_is method.Get method.Get e = refl
same_kind_is method.Set method.Set e = refl
same_kind_is method.Constructor _ e = absurd (false≢true e)
same_kind_is method.Method _ e = absurd (false≢true e)
same_kind_is method.Get _ e = absurd (false≢true e)
same_kind_is method.Set _ e = absurd (false≢true e)

pub same_member_is : (h u : Shape) → same_member h u ≡ true → h ≡ u
same_member_is (shape.MethodDefinition k c b) (shape.MethodDefinition j d a) e =
    let x = both (same_kind k j) (same_flag c d && same_flag b a) e in
    let y = both (same_flag c d) (same_flag b a) x.1 in
    ap (λ z. shape.MethodDefinition z c b) (same_kind_is k j x.0) ∙ ap (λ z. shape.MethodDefinition j z b) (flag_is c d y.0) ∙ ap (λ z. shape.MethodDefinition j d z) (flag_is b a y.1)
same_member_is (shape.PropertyDefinition c b) (shape.PropertyDefinition d a) e =
    let y = both (same_flag c d) (same_flag b a) e in
    ap (λ z. shape.PropertyDefinition z b) (flag_is c d y.0) ∙ ap (λ z. shape.PropertyDefinition d z) (flag_is b a y.1)
same_member_is (shape.MethodDefinition k c b) _ e = absurd (false≢true e)
same_member_is (shape.PropertyDefinition c b) _ e = absurd (false≢true e)
same_member_is _ u e = absurd (false≢true e)

pub static_built : (c : Bool) (ts : Trees) (h : Shape) → same_member (static_shape (first_shape ts)) h ≡ true → built StaticElement (settled_parts c [] ts) ≡ node h [] 0 (settled_parts c [] ts)
static_built c ts h e = ap (λ y. node (static_shape y) [] 0 (settled_parts c [] ts)) (first_stays c ts) ∙ ap (λ y. node y [] 0 (settled_parts c [] ts)) (same_member_is (static_shape (first_shape ts)) h e)

pub element_built : (c : Bool) (k : Taker) (ts : Trees) → second_is_absent ts ≡ false →
    built (element_of k) (settled_parts c (open_form (Some (element_of k))) ts) ≡ node shape.AssignmentPattern [] 0 (settled_parts c (open_form (Some (element_of k))) ts)
element_built c ABinding ts e = default_built c ts e
element_built c APattern ts e = default_built c ts e
element_built c AValue ts e = default_built c ts e

pub rest_built : (k : Taker) (ks : Trees) → built (rest_of k) ks ≡ node shape.RestElement [] 0 ks
rest_built ABinding ks = refl
rest_built APattern ks = refl
rest_built AValue ks = refl

pub assignment_built : (c : Bool) (k : Taker) (ts : Trees) →
    built (assignment_of Assign k) (settled_parts c (open_form (Some (assignment_of Assign k))) ts) ≡ node (shape.AssignmentExpression Assign) [] 0 (settled_parts c (open_form (Some (assignment_of Assign k))) ts)
assignment_built c ABinding ts = refl
assignment_built c APattern ts = refl
assignment_built c AValue ts = refl

pub target_built : (b : Bool) (s : List ℕ) (ks : Trees) → built (target_of b s) ks ≡ node shape.AssignmentTargetPropertyIdentifier [] 0 ks
target_built true s ks = refl
target_built false s ks = refl

pub yield_built : (b : Bool) (ks : Trees) → built (yield_of b) ks ≡ node (shape.YieldExpression false) [] 0 ks
yield_built true ks = refl
yield_built false ks = refl

pub import_built : (d n l : Bool) (s m : List ℕ) (ks : Trees) → built (import_of d n l s m) ks ≡ node shape.ImportDeclaration [] 0 ks
import_built true true true s m ks = refl
import_built true true false s m ks = refl
import_built true false l s m ks = refl
import_built false true true s m ks = refl
import_built false true false s m ks = refl
import_built false false l s m ks = refl

pub import_item_built : (b : Bool) (s : List ℕ) (ks : Trees) → built (import_item_of b s) ks ≡ node shape.ImportSpecifier [] 0 ks
import_item_built true s ks = refl
import_item_built false s ks = refl

pub export_item_built : (l r t : Bool) (s : List ℕ) (ks : Trees) → built (export_item_of l r t s) ks ≡ node shape.ExportSpecifier [] 0 ks
export_item_built true true t s ks = refl
export_item_built true false t s ks = refl
export_item_built false true true s ks = refl
export_item_built false true false s ks = refl
export_item_built false false t s ks = refl

pub export_built : (a b : Bool) (ks : Trees) → built (export_of a b) ks ≡ node shape.ExportNamedDeclaration [] 0 ks
export_built true true ks = refl
export_built true false ks = refl
export_built false b ks = refl

pub default_export_built : (b : Bool) (ks : Trees) → built (default_of b) ks ≡ node shape.ExportDefaultDeclaration [] 0 ks
default_export_built true ks = refl
default_export_built false ks = refl

pub declared_class_built : (b : Bool) (s : List ℕ) (ks : Trees) → built (declared_class_of b s) ks ≡ node (shape.Class true) [] 0 ks
declared_class_built true s ks = refl
declared_class_built false s ks = refl

pub private_stays : (c : Bool) (ts : Trees) → has_private (settled_parts c [] ts) ≡ has_private ts
private_stays c none = refl
private_stays c (a ▸ none) = refl
private_stays c (a ▸ node h xs n us ▸ bs) = refl

pub rebuilt : (c : Bool) (h : Shape) (xs : List Name) (ts : Trees) → is_found (rule_at h xs ts) ≡ true → is_negative h ≡ false → is_sound h ts ≡ true → Childless (rule_at h xs ts) ts →
    built_by (rule_at h xs ts) (settled_parts c (open_form (rule_at h xs ts)) ts) ≡ node h (bare_names xs) 0 (settled_parts c (open_form (rule_at h xs ts)) ts)
rebuilt c shape.Identifier (x ∷ []) ts i n s f = over_none c _ ts (λ k. node shape.Identifier (bare_names (x ∷ [])) 0 k) (f refl)
rebuilt c (shape.IdentifierName y) [] ts i n s f = over_none c _ ts (λ k. node (shape.IdentifierName y) [] 0 k) (f refl)
rebuilt c (shape.NumericLiteral (pos n)) [] ts i e s f = over_none c _ ts (λ k. node (shape.NumericLiteral (pos n)) [] 0 k) (f refl)
rebuilt c (shape.NumericLiteral (negsuc n)) [] ts i e s f = absurd (false≢true (sym e))
rebuilt c (shape.BigIntLiteral n) [] ts i e s f = over_none c _ ts (λ k. node (shape.BigIntLiteral n) [] 0 k) (f refl)
rebuilt c (shape.StringLiteral y) [] ts i e s f = over_none c _ ts (λ k. node (shape.StringLiteral y) [] 0 k) (f refl)
rebuilt c (shape.RegExpLiteral p q) [] ts i e s f = over_none c _ ts (λ k. node (shape.RegExpLiteral p q) [] 0 k) (f refl)
rebuilt c (shape.BooleanLiteral true) [] ts i e s f = over_none c _ ts (λ k. node (shape.BooleanLiteral true) [] 0 k) (f refl)
rebuilt c (shape.BooleanLiteral false) [] ts i e s f = over_none c _ ts (λ k. node (shape.BooleanLiteral false) [] 0 k) (f refl)
rebuilt c shape.NullLiteral [] ts i e s f = over_none c _ ts (λ k. node shape.NullLiteral [] 0 k) (f refl)
rebuilt c shape.ThisExpression [] ts i e s f = over_none c _ ts (λ k. node shape.ThisExpression [] 0 k) (f refl)
rebuilt c shape.ArrayExpression [] ts i e s f = refl
rebuilt c (shape.StaticMemberExpression false) [] ts i e s f = ap (λ b. node (member_shape false b) [] 0 (settled_parts c [] ts)) (private_stays c ts ∙ untrue (has_private ts) s)
rebuilt c (shape.PrivateFieldExpression false) [] ts i e s f = ap (λ b. node (member_shape false b) [] 0 (settled_parts c [] ts)) (private_stays c ts ∙ s)
rebuilt c (shape.ComputedMemberExpression false) [] ts i e s f = refl
rebuilt c shape.ImportExpression [] ts i e s f = refl
rebuilt c shape.NewExpression [] ts i e s f = refl
rebuilt c (shape.CallExpression false) [] ts i e s f = refl
rebuilt c (shape.UpdateExpression o true) [] ts i e s f = refl
rebuilt c (shape.UpdateExpression o false) [] ts i e s f = refl
rebuilt c (shape.UnaryExpression UnaryNegation) [] (t ▸ none) i e s f = not_positive t s
rebuilt c (shape.UnaryExpression UnaryNegation) [] none i e s f = absurd (false≢true s)
rebuilt c (shape.UnaryExpression UnaryNegation) [] (t ▸ u ▸ us) i e s f = absurd (false≢true s)
rebuilt c (shape.UnaryExpression o) [] ts i e s f = refl
rebuilt c (shape.BinaryExpression o) [] ts i e s f = refl
rebuilt c (shape.LogicalExpression o) [] ts i e s f = refl
rebuilt c shape.ConditionalExpression [] ts i e s f = refl
rebuilt c (shape.AssignmentExpression Assign) [] ts i e s f = assignment_built c (taker (first_shape ts)) ts
rebuilt c (shape.AssignmentExpression o) [] ts i e s f = refl
rebuilt c shape.SequenceExpression [] ts i e s f = refl
rebuilt c (shape.ArrowFunctionExpression []) [] ts i e s f = arrow_built (has_body ts) _
rebuilt c shape.BindingIdentifier (x ∷ []) ts i n s f = over_none c _ ts (λ k. node shape.BindingIdentifier (bare_names (x ∷ [])) 0 k) (f refl)
rebuilt c shape.VariableDeclarator [] ts i n s f = refl
rebuilt c shape.BlockStatement [] ts i n s f = refl
rebuilt c (shape.VariableDeclaration k) [] ts i n s f = refl
rebuilt c shape.EmptyStatement [] ts i n s f = over_none c _ ts (λ k. node shape.EmptyStatement [] 0 k) (f refl)
rebuilt c shape.ExpressionStatement [] ts i n s f = refl
rebuilt c shape.IfStatement [] ts i n s f = refl
rebuilt c shape.DoWhileStatement [] ts i n s f = refl
rebuilt c shape.WhileStatement [] ts i n s f = refl
rebuilt c shape.ForStatement [] ts i n s f = for_built (declares_first ts) _
rebuilt c (shape.ObjectProperty kind.Init true false false) [] ts i n s f = method_built (second_generates ts) _
rebuilt c (shape.ObjectProperty kind.Get false false false) [] ts i n s f = refl
rebuilt c (shape.ObjectProperty kind.Set false false false) [] ts i n s f = refl
rebuilt c shape.ForInStatement [] ts i n s f = for_in_built (declares_first ts) (assigns_first ts) _
rebuilt c shape.ForOfStatement [] ts i n s f = for_of_built (declares_first ts) (assigns_first ts) _
rebuilt c shape.ReturnStatement [] ts i n s f = refl
rebuilt c shape.ThrowStatement [] ts i n s f = refl
rebuilt c shape.DebuggerStatement [] ts i n s f = over_none c _ ts (λ k. node shape.DebuggerStatement [] 0 k) (f refl)
rebuilt c shape.BreakStatement [] ts i n s f = refl
rebuilt c shape.ContinueStatement [] ts i n s f = refl
rebuilt c (shape.Function false false []) [] ts i n s f = refl
rebuilt c (shape.Function true false []) [] ts i n s f = refl
rebuilt c shape.FunctionBody [] ts i n s f = refl
rebuilt c shape.ObjectPattern [] ts i n s f = refl
rebuilt c shape.ArrayPattern [] ts i n s f = refl
rebuilt c shape.RestElement [] ts i n s f = rest_built (taker (first_shape ts)) _
rebuilt c (shape.BindingProperty false false) [] ts i n s f = refl
rebuilt c (shape.BindingProperty false true) [] ts i n s f = refl
rebuilt c (shape.BindingProperty true false) [] ts i n s f = bound_built (has_default ts) (first_spelling ts) _
rebuilt c (shape.ObjectProperty kind.Init false true false) [] ts i n s f = refl
rebuilt c (shape.Function false true []) [] ts i n s f = refl
rebuilt c (shape.Function true true []) [] ts i n s f = refl
rebuilt c (shape.YieldExpression false) [] ts i n s f = yield_built (first_is_absent ts) _
rebuilt c (shape.YieldExpression true) [] ts i n s f = refl
rebuilt c shape.SuperStaticMemberExpression [] ts i n s f = refl
rebuilt c shape.SuperComputedMemberExpression [] ts i n s f = refl
rebuilt c shape.SuperCallExpression [] ts i n s f = refl
rebuilt c (shape.MetaProperty meta.NewTarget) [] ts i n s f = refl
rebuilt c (shape.MetaProperty meta.ImportMeta) [] ts i n s f = refl
rebuilt c shape.PrivateInExpression [] ts i n s f = refl
rebuilt c shape.LabeledStatement [] ts i n s f = refl
rebuilt c shape.SwitchStatement [] ts i n s f = refl
rebuilt c shape.TryStatement [] ts i n s f = refl
rebuilt c shape.SwitchCase [] ts i n s f = case_built (first_is_absent ts) _
rebuilt c shape.CatchClause [] ts i n s f = catch_built (first_is_absent ts) _
rebuilt c (shape.PrivateIdentifier y) [] ts i n s f = over_none c _ ts (λ k. node (shape.PrivateIdentifier y) [] 0 k) (f refl)
rebuilt c shape.ObjectExpression [] ts i n s f = refl
rebuilt c (shape.ObjectProperty kind.Init false false false) [] ts i n s f = refl
rebuilt c (shape.ObjectProperty kind.Init false false true) [] ts i n s f = refl
rebuilt c shape.SpreadElement [] ts i n s f = refl
rebuilt c (shape.StaticMemberExpression true) [] ts i e s f = ap (λ b. node (member_shape true b) [] 0 (settled_parts c [] ts)) (private_stays c ts ∙ untrue (has_private ts) s)
rebuilt c (shape.PrivateFieldExpression true) [] ts i e s f = ap (λ b. node (member_shape true b) [] 0 (settled_parts c [] ts)) (private_stays c ts ∙ s)
rebuilt c (shape.ComputedMemberExpression true) [] ts i e s f = refl
rebuilt c (shape.CallExpression true) [] ts i e s f = refl
rebuilt c shape.ChainExpression [] ts i e s f = refl
rebuilt c shape.TemplateLiteral [] ts i e s f = template_built (is_one ts) (first_raw ts) _
rebuilt c shape.TaggedTemplateExpression [] ts i e s f = refl
rebuilt c (shape.Class false) [] ts i e s f = class_built (first_is_absent ts) (first_spelling ts) _
rebuilt c (shape.Class true) [] ts i e s f = declared_class_built (first_is_absent ts) (first_spelling ts) _
rebuilt c shape.ImportDeclaration [] ts i e s f = import_built (first_is_absent ts) (is_absent (part_at 1 ts)) (not (has_items (part_at 2 ts))) (first_spelling ts) (spelling_of (part_at 3 ts)) _
rebuilt c shape.ImportSpecifier [] ts i e s f = import_item_built (is_repeated ts) (first_spelling ts) _
rebuilt c shape.ExportNamedDeclaration [] ts i e s f = export_built (first_is_absent ts) (is_absent (part_at 2 ts)) _
rebuilt c shape.ExportSpecifier [] ts i e s f = export_item_built (is_reference (part_at 0 ts)) (is_repeated ts) (is_text (part_at 0 ts)) (spelling_of (part_at 0 ts)) _
rebuilt c shape.ExportDefaultDeclaration [] ts i e s f = default_export_built (declares_default (first_shape ts)) _
rebuilt c shape.ExportAllDeclaration [] ts i e s f = refl
rebuilt c shape.ClassBody [] ts i e s f = refl
rebuilt c (shape.MethodDefinition k d true) [] ts i e s f = static_built c ts (shape.MethodDefinition k d true) s
rebuilt c (shape.MethodDefinition method.Get false false) [] ts i e s f = refl
rebuilt c (shape.MethodDefinition method.Get true false) [] ts i e s f = refl
rebuilt c (shape.MethodDefinition method.Set false false) [] ts i e s f = refl
rebuilt c (shape.MethodDefinition method.Set true false) [] ts i e s f = refl
rebuilt c (shape.MethodDefinition method.Constructor false false) [] ts i e s f = method_rebuilt (second_generates ts) true c ts s
rebuilt c (shape.MethodDefinition method.Method false false) [] ts i e s f = method_rebuilt (second_generates ts) false c ts (untrue (constructor_shape (first_shape ts)) s)
rebuilt c (shape.MethodDefinition method.Method true false) [] ts i e s f = class_computed_built (second_generates ts) _
rebuilt c (shape.PropertyDefinition d true) [] ts i e s f = static_built c ts (shape.PropertyDefinition d true) s
rebuilt c (shape.PropertyDefinition false false) [] ts i e s f = refl
rebuilt c (shape.PropertyDefinition true false) [] ts i e s f = refl
rebuilt c shape.StaticBlock [] ts i e s f = refl
rebuilt c shape.AssignmentPattern [] ts i e s f = element_built c (taker (first_shape ts)) ts (untrue (second_is_absent ts) s)
rebuilt c shape.ArrayAssignmentTarget [] ts i e s f = refl
rebuilt c shape.ObjectAssignmentTarget [] ts i e s f = refl
rebuilt c shape.AssignmentTargetPropertyIdentifier [] ts i e s f = target_built (has_default ts) (first_spelling ts) _
rebuilt c (shape.AssignmentTargetPropertyProperty false) [] ts i e s f = refl
rebuilt c (shape.AssignmentTargetPropertyProperty true) [] ts i e s f = refl
rebuilt c (shape.ObjectProperty kind.Init true false true) [] ts i e s f = computed_built (second_generates ts) _
rebuilt c (shape.ObjectProperty kind.Get false false true) [] ts i e s f = refl
rebuilt c (shape.ObjectProperty kind.Set false false true) [] ts i e s f = refl
rebuilt c (shape.TemplateElement false y d) [] ts i e s f = ap (λ z. node (shape.TemplateElement false y z) [] 0 (settled_parts c [] ts)) (sym (same_cooked_is d (cooked y) s))
rebuilt c (shape.TemplateElement true y d) [] ts i e s f = ap (λ z. leaf (shape.TemplateElement true y z)) (sym (same_cooked_is d (cooked y) s)) ∙ over_none c _ ts (λ k. node (shape.TemplateElement true y d) [] 0 k) (f refl)
rebuilt c _ xs ts i e s f = absurd (false≢true i)
