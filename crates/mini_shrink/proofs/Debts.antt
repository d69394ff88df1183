-- Which names a child may declare for what stands around it, by its slot, and where its node has to
-- spell them: a declarator those that it binds, a statement those that it declares or hoists, a
-- function's body those of its list, and an expression none.
use Rattle.std.specs.Prelude.{ℕ, zero, suc, nat_le, ◌≡◌, refl, Bool, true, false, ◌&&◌, ◌||◌, not, List, [], ◌∷◌, length, Option, Some, None, if◌then◌else◌, pos, negsuc}
use Rattle.std.proofs.Common.{ap}
use Rattle.mini_kept.proofs.Bools.{left, right}
use Rattle.mini_model.specs.declared.kind.MetaPropertyKind.TheVariants.{NewTarget, ImportMeta}
use Rattle.mini_model.specs.declared.kind.VariableDeclarationKind.TheVariants.{Var, Let, Const}
use Rattle.mini_model.specs.declared.name.Name.{Name}
use Rattle.mini_model.specs.declared.operator.AssignmentOperator.TheVariants.{Assign}
use Rattle.mini_model.specs.declared.shape.Shape.{Shape}
use Rattle.mini_model.specs.declared.shape.Shape.TheVariants as shape
use Rattle.mini_model.specs.Tree.{Tree, node}
use Rattle.mini_accept.specs.WellShaped.{Depth, in_module, in_body, nested, Class, a_program, a_statement, a_block, a_case, a_catch, an_init, a_loop_left, a_declarator, a_pattern, a_pattern_element, a_pattern_property, a_pattern_rest, a_parameter, a_binding, a_label, a_private_name, a_function_body, an_arrow_body, a_class_body, a_class_member, a_method, an_expression, a_link, a_chain, an_argument, an_inner_argument, an_inner, a_super, an_object_property, a_key, a_private_or_key, an_inner_key, a_tagged_template, a_target, a_simple_target, an_element_target, a_member_target, a_named_target, a_target_name, a_target_element, a_target_property, a_target_rest, an_import, a_module_name, a_string, an_export, an_exported_name, an_exported_declaration, a_default_export, a_word, Slot, one, one_or_absent, many, many_or_holes, many_and_rest, many_or_holes_and_rest, quasis, slots_of, expression_slots, unchained_slots, is_optional, is_chained, variable_slots, function_slots, module_slots, pattern_slots, pattern_target_slots, member_slots, key_slots, private_or_key_slots, inner_slots, word_slots, statement_slots, or_else, none_if, in_depth, is_sloppy_function, is_init, is_text, is_function_body_shape}
use Rattle.mini_laws.specs.declared.names.Declared.{Declared}
use Rattle.mini_laws.specs.declared.names.Declared.TheVariants as declared
use Rattle.mini_laws.specs.declared.names.Place.{Place}
use Rattle.mini_laws.specs.declared.names.Place.TheVariants as place
use Rattle.mini_laws.specs.declared.names.Use.TheVariants.{Read}
use Rattle.mini_laws.specs.DeclaredNames.{place_of, names_of, all_names}
use Rattle.mini_laws.specs.Scopes.{use_of, is_alone}

-- ---- what a child owes

-- names of one of the three kinds, or those that the list of a function's body declares
pub data Debt : Type 0 where
  of : Declared → Debt
  of_body : Debt

abbrev pub owed : Debt → Tree → List Name
owed (of d) t = names_of d t
owed of_body (node shape.FunctionBody xs n ts) = all_names declared.Lexical ts
owed of_body t = []

abbrev is_binder : Class → Bool
is_binder a_pattern = true
is_binder a_pattern_element = true
is_binder a_pattern_property = true
is_binder a_pattern_rest = true
is_binder a_parameter = true
is_binder a_binding = true
is_binder a_declarator = true
is_binder an_import = true
is_binder c = false

abbrev is_lexical : Class → Bool
is_lexical (a_statement d) = true
is_lexical an_init = true
is_lexical (a_loop_left b) = true
is_lexical a_case = true
is_lexical an_exported_declaration = true
is_lexical a_default_export = true
is_lexical c = false

abbrev is_hoisted : Class → Bool
is_hoisted (a_statement d) = true
is_hoisted a_block = true
is_hoisted a_case = true
is_hoisted a_catch = true
is_hoisted an_init = true
is_hoisted (a_loop_left b) = true
is_hoisted a_function_body = true
is_hoisted an_arrow_body = true
is_hoisted an_exported_declaration = true
is_hoisted c = false

abbrev pub is_body : Class → Bool
is_body a_function_body = true
is_body an_arrow_body = true
is_body c = false

abbrev pub may_owe : Debt → Class → Bool
may_owe (of declared.Bound) c = is_binder c
may_owe (of declared.Lexical) c = is_lexical c
may_owe (of declared.Hoisted) c = is_hoisted c
may_owe of_body c = is_body c

abbrev pub slot_owes : Debt → Slot → Bool
slot_owes d (one c) = may_owe d c
slot_owes d (one_or_absent c) = may_owe d c
slot_owes d (many c) = may_owe d c
slot_owes d (many_or_holes c) = may_owe d c
slot_owes d (many_and_rest c rest) = may_owe d c || may_owe d rest
slot_owes d (many_or_holes_and_rest c rest) = may_owe d c || may_owe d rest
slot_owes d (quasis g) = false

-- ---- what of a node's children declares nothing

abbrev pub all_silent : Debt → List Slot → Bool
all_silent d [] = true
all_silent d (s ∷ ss) = not (slot_owes d s) && all_silent d ss

abbrev pub first_silent : List Slot → Bool
first_silent [] = true
first_silent (s ∷ ss) = not (slot_owes (of declared.Bound) s)

abbrev pub silent_place : Place → Declared → List Slot → Bool
silent_place place.Here d ss = false
silent_place place.FirstBound d ss = first_silent ss
silent_place place.Bound d ss = all_silent (of declared.Bound) ss
silent_place place.Below d ss = all_silent (of d) ss
silent_place place.Nowhere d ss = true

abbrev pub is_silent : Debt → Shape → List Slot → Bool
is_silent (of d) h ss = silent_place (place_of d h) d ss
is_silent of_body h ss = not (is_function_body_shape h)

-- ---- what a node spells, or hands on

abbrev handles_bound : Shape → ℕ → Bool
handles_bound shape.Listed i = true
handles_bound shape.ObjectPattern i = true
handles_bound shape.ArrayPattern i = true
handles_bound (shape.BindingProperty shorthand computed) i = true
handles_bound shape.RestElement i = true
handles_bound shape.AssignmentPattern i = true
handles_bound shape.ImportSpecifier i = true
handles_bound shape.ImportDefaultSpecifier i = true
handles_bound shape.ImportNamespaceSpecifier i = true
handles_bound (shape.VariableDeclaration k) zero = true
handles_bound shape.ImportDeclaration zero = true
handles_bound shape.VariableDeclarator zero = true
handles_bound (shape.Function d g ds) zero = true
handles_bound (shape.Function d g ds) (suc zero) = true
handles_bound (shape.ArrowFunctionExpression ds) zero = true
handles_bound (shape.Class d) zero = true
handles_bound (shape.Class d) (suc (suc (suc zero))) = true
handles_bound shape.CatchClause zero = true
handles_bound h i = false

-- a branch or a body that stands alone declares in scopes of its own
abbrev handles_lexical : Shape → ℕ → Bool
handles_lexical shape.Listed i = true
handles_lexical shape.SwitchCase i = true
handles_lexical shape.ExportNamedDeclaration i = true
handles_lexical shape.ExportDefaultDeclaration i = true
handles_lexical (shape.Program m ds) zero = true
handles_lexical shape.StaticBlock zero = true
handles_lexical shape.FunctionBody zero = true
handles_lexical shape.BlockStatement zero = true
handles_lexical shape.ForStatement zero = true
handles_lexical shape.ForStatement (suc (suc (suc i))) = true
handles_lexical shape.ForInStatement zero = true
handles_lexical shape.ForInStatement (suc (suc i)) = true
handles_lexical shape.ForOfStatement zero = true
handles_lexical shape.ForOfStatement (suc (suc i)) = true
handles_lexical shape.SwitchStatement (suc zero) = true
handles_lexical shape.IfStatement (suc i) = true
handles_lexical shape.LabeledStatement i = true
handles_lexical shape.WhileStatement (suc i) = true
handles_lexical shape.DoWhileStatement zero = true
handles_lexical h i = false

abbrev handles_hoisted : Shape → ℕ → Bool
handles_hoisted shape.Listed i = true
handles_hoisted shape.BlockStatement i = true
handles_hoisted shape.IfStatement i = true
handles_hoisted shape.WhileStatement i = true
handles_hoisted shape.DoWhileStatement i = true
handles_hoisted shape.ForStatement i = true
handles_hoisted shape.ForInStatement i = true
handles_hoisted shape.ForOfStatement i = true
handles_hoisted shape.LabeledStatement i = true
handles_hoisted shape.SwitchStatement i = true
handles_hoisted shape.SwitchCase i = true
handles_hoisted shape.TryStatement i = true
handles_hoisted shape.CatchClause i = true
handles_hoisted shape.FunctionBody i = true
handles_hoisted shape.ExportNamedDeclaration i = true
handles_hoisted (shape.Program m ds) zero = true
handles_hoisted shape.StaticBlock zero = true
handles_hoisted (shape.Function d g ds) (suc (suc zero)) = true
handles_hoisted (shape.ArrowFunctionExpression ds) (suc zero) = true
handles_hoisted h i = false

abbrev handles_body : Shape → ℕ → Bool
handles_body (shape.Function d g ds) (suc (suc zero)) = true
handles_body (shape.ArrowFunctionExpression ds) (suc zero) = true
handles_body h i = false

abbrev pub handles : Debt → Shape → ℕ → Bool
handles (of declared.Bound) h i = handles_bound h i
handles (of declared.Lexical) h i = handles_lexical h i
handles (of declared.Hoisted) h i = handles_hoisted h i
handles of_body h i = handles_body h i

-- a branch, a body of a loop, or what stands beside them
abbrev pub may_be_alone : Class → Bool
may_be_alone (a_statement nested) = true
may_be_alone a_label = true
may_be_alone c = false

abbrev pub may_be_alone_slot : Slot → Bool
may_be_alone_slot (one c) = may_be_alone c
may_be_alone_slot (one_or_absent c) = may_be_alone c
may_be_alone_slot s = false

-- what never stands alone: what hands on how it is used, and what hands lexical names on
abbrev pub is_no_branch : Shape → Bool
is_no_branch shape.Listed = true
is_no_branch shape.ObjectPattern = true
is_no_branch shape.ArrayPattern = true
is_no_branch (shape.BindingProperty shorthand computed) = true
is_no_branch shape.RestElement = true
is_no_branch shape.ImportSpecifier = true
is_no_branch shape.ImportDefaultSpecifier = true
is_no_branch shape.ImportNamespaceSpecifier = true
is_no_branch shape.AssignmentPattern = true
is_no_branch shape.ObjectAssignmentTarget = true
is_no_branch shape.ArrayAssignmentTarget = true
is_no_branch shape.AssignmentTargetPropertyIdentifier = true
is_no_branch (shape.AssignmentTargetPropertyProperty computed) = true
is_no_branch shape.VariableDeclarator = true
is_no_branch shape.ImportDeclaration = true
is_no_branch shape.ExportNamedDeclaration = true
is_no_branch shape.ExportDefaultDeclaration = true
is_no_branch shape.SwitchCase = true
is_no_branch h = false

-- how many children a node has whose scopes are those of later children
abbrev pub parts : Shape → ℕ
parts (shape.Function d g ds) = 3
parts (shape.ArrowFunctionExpression ds) = 2
parts (shape.Class d) = 4
parts shape.SwitchStatement = 2
parts h = 0

-- ---- the slots of a shape

abbrev owes_nothing : Class → Bool
owes_nothing c = not (is_binder c) && (not (is_lexical c) && (not (is_hoisted c) && not (is_body c)))

-- an inner expression is over what owes nothing, and no list is one of bodies
abbrev pub holds_nothing : Class → Bool
holds_nothing (an_inner c) = owes_nothing c && holds_nothing c
holds_nothing c = true

abbrev pub holds_nothing_slot : Slot → Bool
holds_nothing_slot (one c) = holds_nothing c
holds_nothing_slot (one_or_absent c) = holds_nothing c
holds_nothing_slot (many c) = holds_nothing c && not (is_body c)
holds_nothing_slot (many_or_holes c) = holds_nothing c && not (is_body c)
holds_nothing_slot (many_and_rest c rest) = (holds_nothing c && not (is_body c)) && (holds_nothing rest && not (is_body rest))
holds_nothing_slot (many_or_holes_and_rest c rest) = (holds_nothing c && not (is_body c)) && (holds_nothing rest && not (is_body rest))
holds_nothing_slot (quasis g) = true

-- a node owes no more than its class may
abbrev pub owes_little : (Debt → Bool) → Shape → List Slot → Bool
owes_little m h ss =
    (is_silent (of declared.Bound) h ss || m (of declared.Bound))
    && ((is_silent (of declared.Lexical) h ss || m (of declared.Lexical)) && ((is_silent (of declared.Hoisted) h ss || m (of declared.Hoisted)) && (is_silent of_body h ss || m of_body)))

-- what the child in a slot may owe the node handles
abbrev pub is_settled : Shape → ℕ → Slot → Bool
is_settled h i s =
    (handles (of declared.Bound) h i || not (slot_owes (of declared.Bound) s))
    && ((handles (of declared.Lexical) h i || not (slot_owes (of declared.Lexical) s)) && ((handles (of declared.Hoisted) h i || not (slot_owes (of declared.Hoisted) s)) && (handles of_body h i || not (slot_owes of_body s))))

abbrev pub is_settled_slot : Shape → ℕ → Slot → Bool
is_settled_slot h i s = is_settled h i s && ((not (is_alone (use_of h Read i)) || may_be_alone_slot s) && holds_nothing_slot s)

abbrev pub are_settled : Shape → ℕ → List Slot → Bool
are_settled h i [] = true
are_settled h i (s ∷ ss) = is_settled_slot h i s && are_settled h (suc i) ss

abbrev pub fits_debts : (Debt → Bool) → Bool → Shape → Option (List Slot) → Bool
fits_debts m k h None = true
fits_debts m k h (Some ss) = owes_little m h ss && (are_settled h 0 ss && (nat_le (parts h) (length ss) && not (is_no_branch h && k)))

abbrev pub settles : Class → Shape → Option (List Slot) → Bool
settles c h o = fits_debts (λ d. may_owe d c) (may_be_alone c) h o

-- ---- each slot of each shape

debts_if : (m : Debt → Bool) (k n : Bool) (h : Shape) (o : Option (List Slot)) → fits_debts m k h o ≡ true → fits_debts m k h (none_if n o) ≡ true
debts_if m k true h o e = refl
debts_if m k false h o e = e

debts_or : (m : Debt → Bool) (k : Bool) (h : Shape) (o u : Option (List Slot)) → fits_debts m k h o ≡ true → fits_debts m k h u ≡ true → fits_debts m k h (or_else o u) ≡ true
debts_or m k h None u e f = f
debts_or m k h (Some ss) u e f = e

expression_debts : (m : Debt → Bool) (k : Bool) (c : Class) (h : Shape) → owes_nothing c ≡ true → holds_nothing c ≡ true → fits_debts m k h (expression_slots c h) ≡ true
expression_debts m k c (shape.Function true g ds) e f = refl
expression_debts m k c (shape.Function false g ds) e f = refl
expression_debts m k c (shape.Class true) e f = refl
expression_debts m k c (shape.Class false) e f = refl
expression_debts m k c (shape.AssignmentExpression Assign) e f = refl
expression_debts m k c (shape.AssignmentExpression o) e f = refl
expression_debts m k c (shape.CallExpression b) e f = λ i. ((e i && f i) && true) && true
expression_debts m k c (shape.StaticMemberExpression b) e f = λ i. ((e i && f i) && true) && true
expression_debts m k c (shape.ComputedMemberExpression b) e f = λ i. ((e i && f i) && true) && true
expression_debts m k c (shape.PrivateFieldExpression b) e f = λ i. ((e i && f i) && true) && true
expression_debts m k c (shape.YieldExpression true) e f = refl
expression_debts m k c (shape.YieldExpression false) e f = refl
expression_debts m k c (shape.MetaProperty NewTarget) e f = refl
expression_debts m k c (shape.MetaProperty ImportMeta) e f = refl
expression_debts m k c h e f = refl

unchained_debts : (m : Debt → Bool) (k : Bool) (h : Shape) → fits_debts m k h (unchained_slots h) ≡ true
unchained_debts m k h = debts_if m k (is_optional h) h (expression_slots an_expression h) (expression_debts m k an_expression h refl refl)

member_debts : (m : Debt → Bool) (k : Bool) (h : Shape) → fits_debts m k h (member_slots h) ≡ true
member_debts m k (shape.StaticMemberExpression true) = refl
member_debts m k (shape.StaticMemberExpression false) = refl
member_debts m k (shape.ComputedMemberExpression true) = refl
member_debts m k (shape.ComputedMemberExpression false) = refl
member_debts m k (shape.PrivateFieldExpression true) = refl
member_debts m k (shape.PrivateFieldExpression false) = refl
member_debts m k h = refl

target_debts : (m : Debt → Bool) (h : Shape) → fits_debts m false h (pattern_target_slots h) ≡ true
target_debts m shape.Identifier = refl
target_debts m h = refl

pattern_debts : (m : Debt → Bool) (h : Shape) → m (of declared.Bound) ≡ true → fits_debts m false h (pattern_slots h) ≡ true
pattern_debts m shape.BindingIdentifier e = ap (λ n. (n && true) && true) e
pattern_debts m shape.ObjectPattern e = ap (λ n. (n && true) && true) e
pattern_debts m shape.ArrayPattern e = ap (λ n. (n && true) && true) e
pattern_debts m h e = refl

variable_debts : (m : Debt → Bool) (k : Bool) (h : Shape) → m (of declared.Lexical) ≡ true → m (of declared.Hoisted) ≡ true → fits_debts m k h (variable_slots h) ≡ true
variable_debts m k (shape.VariableDeclaration Var) e f = ap (λ n. (n && true) && true) f
variable_debts m k (shape.VariableDeclaration Let) e f = ap (λ n. (n && true) && true) e
variable_debts m k (shape.VariableDeclaration Const) e f = ap (λ n. (n && true) && true) e
variable_debts m k h e f = refl

function_debts : (m : Debt → Bool) (k : Bool) (h : Shape) → m (of declared.Lexical) ≡ true → fits_debts m k h (function_slots (one a_binding) h) ≡ true
function_debts m k (shape.Function true g ds) e = ap (λ n. (n && true) && true) e
function_debts m k (shape.Function false g ds) e = refl
function_debts m k (shape.Class true) e = ap (λ n. (n && true) && true) e
function_debts m k (shape.Class false) e = refl
function_debts m k h e = refl

default_debts : (m : Debt → Bool) (k : Bool) (h : Shape) → m (of declared.Lexical) ≡ true → fits_debts m k h (function_slots (one_or_absent a_binding) h) ≡ true
default_debts m k (shape.Function true g ds) e = ap (λ n. (n && true) && true) e
default_debts m k (shape.Function false g ds) e = refl
default_debts m k (shape.Class true) e = ap (λ n. (n && true) && true) e
default_debts m k (shape.Class false) e = refl
default_debts m k h e = refl

module_debts : (d : Depth) (h : Shape) → settles (a_statement d) h (in_depth d (module_slots h)) ≡ true
module_debts in_module shape.ImportDeclaration = refl
module_debts in_module h = refl
module_debts in_body h = refl
module_debts nested h = refl

statement_debts : (strict : Bool) (d : Depth) (h : Shape) → settles (a_statement d) h (statement_slots strict d h) ≡ true
statement_debts strict d shape.EmptyStatement = refl
statement_debts strict d shape.DebuggerStatement = refl
statement_debts strict d shape.ExpressionStatement = refl
statement_debts strict d shape.BlockStatement = refl
statement_debts strict d shape.LabeledStatement = refl
statement_debts strict d shape.BreakStatement = refl
statement_debts strict d shape.ContinueStatement = refl
statement_debts strict d shape.ReturnStatement = refl
statement_debts strict d shape.ThrowStatement = refl
statement_debts strict d shape.IfStatement = refl
statement_debts strict d shape.SwitchStatement = refl
statement_debts strict d shape.TryStatement = refl
statement_debts strict d shape.WhileStatement = refl
statement_debts strict d shape.DoWhileStatement = refl
statement_debts strict d shape.ForStatement = refl
statement_debts strict d shape.ForInStatement = refl
statement_debts strict d shape.ForOfStatement = refl
statement_debts strict d h =
    let m = λ (o : Debt). may_owe o (a_statement d) in
    debts_if m (may_be_alone (a_statement d)) (is_sloppy_function strict d h) h (or_else (variable_slots h) (or_else (function_slots (one a_binding) h) (in_depth d (module_slots h))))
    (debts_or m (may_be_alone (a_statement d)) h (variable_slots h) (or_else (function_slots (one a_binding) h) (in_depth d (module_slots h))) (variable_debts m (may_be_alone (a_statement d)) h refl refl) (debts_or m (may_be_alone (a_statement d)) h (function_slots (one a_binding) h) (in_depth d (module_slots h)) (function_debts m (may_be_alone (a_statement d)) h refl) (module_debts d h)))

key_debts : (m : Debt → Bool) (k : Bool) (h : Shape) → fits_debts m k h (key_slots h) ≡ true
key_debts m k (shape.NumericLiteral (pos n)) = refl
key_debts m k (shape.NumericLiteral (negsuc n)) = refl
key_debts m k h = refl

private_or_key_debts : (m : Debt → Bool) (k : Bool) (h : Shape) → fits_debts m k h (private_or_key_slots h) ≡ true
private_or_key_debts m k (shape.PrivateIdentifier s) = refl
private_or_key_debts m k h = key_debts m k h

inner_debts : (m : Debt → Bool) (k : Bool) (c : Class) (h : Shape) → owes_nothing c ≡ true → holds_nothing c ≡ true → fits_debts m k h (inner_slots c h) ≡ true
inner_debts m k c shape.InnerExpression e f = λ i. ((e i && f i) && true) && true
inner_debts m k c h e f = refl

word_debts : (m : Debt → Bool) (k : Bool) (w : List ℕ) (h : Shape) → fits_debts m k h (word_slots w h) ≡ true
word_debts m k w (shape.IdentifierName s) = debts_if m k (not (is_text s w)) (shape.IdentifierName s) (Some []) refl
word_debts m k w h = refl

pub slots_settle : (strict : Bool) (c : Class) (h : Shape) → holds_nothing c ≡ true → settles c h (slots_of strict c h) ≡ true
slots_settle strict a_program (shape.Program m ds) e = refl
slots_settle strict (a_statement d) h e = statement_debts strict d h
slots_settle strict a_block shape.BlockStatement e = refl
slots_settle strict a_case shape.SwitchCase e = refl
slots_settle strict a_catch shape.CatchClause e = refl
slots_settle strict a_declarator shape.VariableDeclarator e = refl
slots_settle strict a_function_body shape.FunctionBody e = refl
slots_settle strict a_class_body shape.ClassBody e = refl
slots_settle strict a_class_member (shape.MethodDefinition k computed is_static) e = refl
slots_settle strict a_class_member (shape.PropertyDefinition computed is_static) e = refl
slots_settle strict a_class_member shape.StaticBlock e = refl
slots_settle strict a_binding shape.BindingIdentifier e = refl
slots_settle strict a_label (shape.IdentifierName s) e = refl
slots_settle strict a_private_name (shape.PrivateIdentifier s) e = refl
slots_settle strict a_super shape.Super e = refl
slots_settle strict a_tagged_template shape.TemplateLiteral e = refl
slots_settle strict a_pattern_property (shape.BindingProperty shorthand computed) e = refl
slots_settle strict a_pattern_rest shape.RestElement e = refl
slots_settle strict a_target_property shape.AssignmentTargetPropertyIdentifier e = refl
slots_settle strict a_target_property (shape.AssignmentTargetPropertyProperty computed) e = refl
slots_settle strict a_named_target shape.AssignmentPattern e = refl
slots_settle strict a_named_target shape.Identifier e = refl
slots_settle strict a_target_name shape.Identifier e = refl
slots_settle strict a_target_rest shape.RestElement e = refl
slots_settle strict an_import shape.ImportSpecifier e = refl
slots_settle strict an_import shape.ImportDefaultSpecifier e = refl
slots_settle strict an_import shape.ImportNamespaceSpecifier e = refl
slots_settle strict a_module_name (shape.IdentifierName s) e = refl
slots_settle strict a_string (shape.StringLiteral s) e = refl
slots_settle strict an_export shape.ExportSpecifier e = refl
slots_settle strict an_exported_name shape.Identifier e = refl
slots_settle strict an_init h e =
    let m = λ (o : Debt). may_owe o an_init in
    debts_or m false h (variable_slots h) (unchained_slots h) (variable_debts m false h refl refl) (unchained_debts m false h)
slots_settle strict (a_loop_left b) h e =
    let m = λ (o : Debt). may_owe o (a_loop_left b) in
    debts_or m false h (variable_slots h) (or_else (pattern_target_slots h) (member_slots h)) (variable_debts m false h refl refl) (debts_or m false h (pattern_target_slots h) (member_slots h) (target_debts m h) (member_debts m false h))
slots_settle strict a_parameter shape.AssignmentPattern e = refl
slots_settle strict a_parameter h e = pattern_debts (λ o. may_owe o a_parameter) h refl
slots_settle strict an_arrow_body shape.FunctionBody e = refl
slots_settle strict an_arrow_body h e = unchained_debts (λ o. may_owe o an_arrow_body) false h
slots_settle strict a_method (shape.Function false g ds) e = refl
slots_settle strict a_method (shape.Function true g ds) e = refl
slots_settle strict (a_word w) h e = word_debts (λ o. may_owe o (a_word w)) false w h
slots_settle strict an_expression h e = unchained_debts (λ o. may_owe o an_expression) false h
slots_settle strict a_link h e = expression_debts (λ o. may_owe o a_link) false a_link h refl refl
slots_settle strict a_chain h e = debts_if (λ o. may_owe o a_chain) false (not (is_chained h)) h (expression_slots a_link h) (expression_debts (λ o. may_owe o a_chain) false a_link h refl refl)
slots_settle strict an_argument shape.SpreadElement e = refl
slots_settle strict an_argument h e = unchained_debts (λ o. may_owe o an_argument) false h
slots_settle strict an_inner_argument shape.SpreadElement e = refl
slots_settle strict an_inner_argument h e = inner_debts (λ o. may_owe o an_inner_argument) false an_expression h refl refl
slots_settle strict (an_inner c) h e = inner_debts (λ o. may_owe o (an_inner c)) false c h (left (owes_nothing c) (holds_nothing c) e) (right (owes_nothing c) (holds_nothing c) e)
slots_settle strict an_object_property shape.SpreadElement e = refl
slots_settle strict an_object_property (shape.ObjectProperty k true shorthand computed) e = refl
slots_settle strict an_object_property (shape.ObjectProperty k false shorthand computed) e = value_settles (not (is_init k))
  where
    value_settles : (b : Bool) → settles an_object_property (shape.ObjectProperty k false shorthand computed) (Some (one (a_key computed) ∷ one (if b then a_method else an_expression) ∷ [])) ≡ true
    value_settles true = refl
    value_settles false = refl
slots_settle strict (a_key true) h e = unchained_debts (λ o. may_owe o (a_key true)) false h
slots_settle strict (a_key false) h e = key_debts (λ o. may_owe o (a_key false)) false h
slots_settle strict (a_private_or_key true) h e = inner_debts (λ o. may_owe o (a_private_or_key true)) false an_expression h refl refl
slots_settle strict (a_private_or_key false) h e = private_or_key_debts (λ o. may_owe o (a_private_or_key false)) false h
slots_settle strict (an_inner_key true) h e = inner_debts (λ o. may_owe o (an_inner_key true)) false an_expression h refl refl
slots_settle strict (an_inner_key false) h e = key_debts (λ o. may_owe o (an_inner_key false)) false h
slots_settle strict a_pattern h e = pattern_debts (λ o. may_owe o a_pattern) h refl
slots_settle strict a_pattern_element shape.AssignmentPattern e = refl
slots_settle strict a_pattern_element h e = pattern_debts (λ o. may_owe o a_pattern_element) h refl
slots_settle strict a_target h e =
    let m = λ (o : Debt). may_owe o a_target in
    debts_or m false h (pattern_target_slots h) (member_slots h) (target_debts m h) (member_debts m false h)
slots_settle strict a_simple_target shape.Identifier e = refl
slots_settle strict a_simple_target h e = member_debts (λ o. may_owe o a_simple_target) false h
slots_settle strict an_element_target h e =
    let m = λ (o : Debt). may_owe o an_element_target in
    debts_or m false h (pattern_target_slots h) (inner_slots a_member_target h) (target_debts m h) (inner_debts m false a_member_target h refl refl)
slots_settle strict a_member_target h e = member_debts (λ o. may_owe o a_member_target) false h
slots_settle strict a_target_element shape.AssignmentPattern e = refl
slots_settle strict a_target_element h e =
    let m = λ (o : Debt). may_owe o a_target_element in
    debts_or m false h (pattern_target_slots h) (inner_slots a_member_target h) (target_debts m h) (inner_debts m false a_member_target h refl refl)
slots_settle strict an_exported_declaration h e =
    let m = λ (o : Debt). may_owe o an_exported_declaration in
    debts_or m false h (variable_slots h) (function_slots (one a_binding) h) (variable_debts m false h refl refl) (function_debts m false h refl)
slots_settle strict a_default_export h e =
    let m = λ (o : Debt). may_owe o a_default_export in
    debts_or m false h (function_slots (one_or_absent a_binding) h) (unchained_slots h) (default_debts m false h refl) (unchained_debts m false h)
slots_settle strict c h e = refl
