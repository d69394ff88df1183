-- The slots of ESTree: where a body of a function, a piece of a template and their lists stand, and
-- what stands first.
use Rattle.std.proofs.Common.{◌≡◌, ℕ, Bool, true, false, ◌&&◌, ◌||◌, not, List, [], ◌∷◌, refl, sym}
use Rattle.std.specs.Prelude.{Option, Some, None, pos, if◌then◌else◌}
use Rattle.std.proofs.lemmas.Bool.{false≢true}
use Rattle.mini_model.specs.declared.name.Name.{Name}
use Rattle.mini_model.specs.declared.kind.MetaPropertyKind.TheVariants as meta
use Rattle.mini_model.specs.declared.operator.AssignmentOperator.TheVariants.{Assign}
use Rattle.mini_model.specs.declared.shape.Shape.{Shape}
use Rattle.mini_model.specs.declared.shape.Shape.TheVariants as shape
use Rattle.mini_model.specs.Tree.{Tree, Trees, node, none, ◌▸◌}
use Rattle.mini_accept.specs.WellShaped as accept
use Rattle.mini_accept.specs.WellShaped.{Class, Slot, Depth, nested, in_body, in_module, a_program, a_statement, a_block, a_case, a_catch, an_init, a_loop_left, a_declarator, a_pattern, a_pattern_element, a_pattern_property, a_pattern_rest, a_parameter, a_binding, a_label, a_private_name, a_function_body, an_arrow_body, a_class_body, a_class_member, a_method, an_expression, a_link, a_chain, an_argument, an_inner_argument, an_inner, a_super, an_object_property, a_key, a_private_or_key, an_inner_key, a_tagged_template, a_target, a_simple_target, an_element_target, a_member_target, a_named_target, a_target_name, a_target_element, a_target_property, a_target_rest, an_import, a_module_name, a_string, an_export, an_exported_name, an_exported_declaration, a_default_export, a_word, one, one_or_absent, many, many_or_holes, many_and_rest, many_or_holes_and_rest, quasis, these, slots_of, filling, filling_by, expression_slots, unchained_slots, member_slots, pattern_target_slots, pattern_slots, variable_slots, function_slots, module_slots, statement_slots, key_slots, private_or_key_slots, inner_slots, word_slots, or_else, none_if, in_depth, is_sloppy_function, is_optional, is_chained, is_text, is_init, value_class, fits, is_whole}
use Rattle.mini_printable.proofs.Clean.{and_l, and_r}
use Rattle.mini_printable.proofs.Rows.{never, and_one}
use Rattle.mini_printable.proofs.Forms.{is_body, by_bool}

-- ---- slots without bodies of functions and without pieces of templates

abbrev pub is_fair : Class → Bool
is_fair a_function_body = false
is_fair an_arrow_body = false
is_fair (an_inner c) = is_fair c
is_fair _ = true

-- a class whose nodes have such slots
abbrev pub holds : Class → Bool
holds (an_inner c) = is_fair c
holds _ = true

abbrev pub is_fair_slot : Slot → Bool
is_fair_slot (one c) = is_fair c
is_fair_slot (one_or_absent c) = is_fair c
is_fair_slot (many c) = is_fair c
is_fair_slot (many_or_holes c) = is_fair c
is_fair_slot (many_and_rest c r) = is_fair c && is_fair r
is_fair_slot (many_or_holes_and_rest c r) = is_fair c && is_fair r
is_fair_slot (quasis g) = false

abbrev pub all_fair : List Slot → Bool
all_fair [] = true
all_fair (s ∷ ss) = is_fair_slot s && all_fair ss

abbrev pub are_fair : Option (List Slot) → Bool
are_fair None = true
are_fair (Some ss) = all_fair ss

pub fair_holds : (c : Class) → is_fair c ≡ true → holds c ≡ true
fair_holds (an_inner c) e = e
fair_holds c e = refl

-- all but functions and templates have such slots
abbrev pub is_apart : Shape → Bool
is_apart shape.TemplateLiteral = true
is_apart (shape.Function d g ds) = true
is_apart (shape.ArrowFunctionExpression ds) = true
is_apart _ = false

or_fair : (a b : Option (List Slot)) → are_fair a ≡ true → are_fair b ≡ true → are_fair (or_else a b) ≡ true
or_fair None b e f = f
or_fair (Some ss) b e f = e

if_fair : (b : Bool) (o : Option (List Slot)) → are_fair o ≡ true → are_fair (none_if b o) ≡ true
if_fair true o e = refl
if_fair false o e = e

depth_fair : (d : Depth) (o : Option (List Slot)) → are_fair o ≡ true → are_fair (in_depth d o) ≡ true
depth_fair nested o e = refl
depth_fair in_body o e = refl
depth_fair in_module o e = e

expression_fair : (k : Class) (h : Shape) → is_fair k ≡ true → is_apart h ≡ false → are_fair (expression_slots k h) ≡ true
expression_fair k (shape.Function false g ds) p e = absurd (false≢true (sym e))
expression_fair k (shape.ArrowFunctionExpression ds) p e = absurd (false≢true (sym e))
expression_fair k shape.TemplateLiteral p e = absurd (false≢true (sym e))
expression_fair k (shape.Class false) p e = refl
expression_fair k (shape.YieldExpression true) p e = refl
expression_fair k (shape.AssignmentExpression Assign) p e = refl
expression_fair k (shape.MetaProperty meta.NewTarget) p e = refl
expression_fair k (shape.CallExpression b) p e = and_one (is_fair k) p
expression_fair k (shape.StaticMemberExpression b) p e = and_one (is_fair k) p
expression_fair k (shape.ComputedMemberExpression b) p e = and_one (is_fair k) p
expression_fair k (shape.PrivateFieldExpression b) p e = and_one (is_fair k) p
expression_fair k h p e = refl

unchained_fair : (h : Shape) → is_apart h ≡ false → are_fair (unchained_slots h) ≡ true
unchained_fair h e = if_fair (is_optional h) (expression_slots an_expression h) (expression_fair an_expression h refl e)

member_fair : (h : Shape) → are_fair (member_slots h) ≡ true
member_fair (shape.StaticMemberExpression false) = refl
member_fair (shape.ComputedMemberExpression false) = refl
member_fair (shape.PrivateFieldExpression false) = refl
member_fair h = refl

pattern_target_fair : (h : Shape) → are_fair (pattern_target_slots h) ≡ true
pattern_target_fair shape.Identifier = refl
pattern_target_fair h = refl

pattern_fair : (h : Shape) → are_fair (pattern_slots h) ≡ true
pattern_fair shape.BindingIdentifier = refl
pattern_fair h = refl

variable_fair : (h : Shape) → are_fair (variable_slots h) ≡ true
variable_fair (shape.VariableDeclaration k) = refl
variable_fair h = refl

function_fair : (s : Slot) (h : Shape) → is_fair_slot s ≡ true → is_apart h ≡ false → are_fair (function_slots s h) ≡ true
function_fair s (shape.Function true g ds) p e = absurd (false≢true (sym e))
function_fair s (shape.Class true) p e = and_one (is_fair_slot s) p
function_fair s h p e = refl

module_fair : (h : Shape) → are_fair (module_slots h) ≡ true
module_fair shape.ImportDeclaration = refl
module_fair h = refl

key_fair : (h : Shape) → are_fair (key_slots h) ≡ true
key_fair (shape.NumericLiteral (pos n)) = refl
key_fair h = refl

private_key_fair : (h : Shape) → are_fair (private_or_key_slots h) ≡ true
private_key_fair (shape.NumericLiteral (pos n)) = refl
private_key_fair h = refl

inner_fair : (c : Class) (h : Shape) → is_fair c ≡ true → are_fair (inner_slots c h) ≡ true
inner_fair c shape.InnerExpression p = and_one (is_fair c) p
inner_fair c h p = refl

word_fair : (w : List ℕ) (h : Shape) → are_fair (word_slots w h) ≡ true
word_fair w (shape.IdentifierName s) = if_fair (not (is_text s w)) (Some []) refl
word_fair w h = refl

statement_fair : (strict : Bool) (d : Depth) (h : Shape) → is_apart h ≡ false → are_fair (statement_slots strict d h) ≡ true
statement_fair strict d shape.EmptyStatement e = refl
statement_fair strict d shape.DebuggerStatement e = refl
statement_fair strict d shape.ExpressionStatement e = refl
statement_fair strict d shape.BlockStatement e = refl
statement_fair strict d shape.LabeledStatement e = refl
statement_fair strict d shape.BreakStatement e = refl
statement_fair strict d shape.ContinueStatement e = refl
statement_fair strict d shape.ReturnStatement e = refl
statement_fair strict d shape.ThrowStatement e = refl
statement_fair strict d shape.IfStatement e = refl
statement_fair strict d shape.SwitchStatement e = refl
statement_fair strict d shape.TryStatement e = refl
statement_fair strict d shape.WhileStatement e = refl
statement_fair strict d shape.DoWhileStatement e = refl
statement_fair strict d shape.ForStatement e = refl
statement_fair strict d shape.ForInStatement e = refl
statement_fair strict d shape.ForOfStatement e = refl
statement_fair strict d h e =
    if_fair (is_sloppy_function strict d h) (or_else (variable_slots h) (or_else (function_slots (one a_binding) h) (in_depth d (module_slots h))))
    (or_fair (variable_slots h) (or_else (function_slots (one a_binding) h) (in_depth d (module_slots h))) (variable_fair h)
    (or_fair (function_slots (one a_binding) h) (in_depth d (module_slots h)) (function_fair (one a_binding) h refl e) (depth_fair d (module_slots h) (module_fair h))))

pub slots_fair : (strict : Bool) (c : Class) (h : Shape) → holds c ≡ true → is_apart h ≡ false → are_fair (slots_of strict c h) ≡ true
slots_fair strict (a_statement d) h p e = statement_fair strict d h e
slots_fair strict an_init h p e = or_fair (variable_slots h) (unchained_slots h) (variable_fair h) (unchained_fair h e)
slots_fair strict (a_loop_left b) h p e = or_fair (variable_slots h) (or_else (pattern_target_slots h) (member_slots h)) (variable_fair h) (or_fair (pattern_target_slots h) (member_slots h) (pattern_target_fair h) (member_fair h))
slots_fair strict an_arrow_body shape.FunctionBody p e = refl
slots_fair strict an_arrow_body h p e = unchained_fair h e
slots_fair strict an_expression h p e = unchained_fair h e
slots_fair strict a_link h p e = expression_fair a_link h refl e
slots_fair strict a_chain h p e = if_fair (not (is_chained h)) (expression_slots a_link h) (expression_fair a_link h refl e)
slots_fair strict an_argument shape.SpreadElement p e = refl
slots_fair strict an_argument h p e = unchained_fair h e
slots_fair strict an_inner_argument shape.SpreadElement p e = refl
slots_fair strict an_inner_argument h p e = inner_fair an_expression h refl
slots_fair strict (an_inner c) h p e = inner_fair c h p
slots_fair strict an_object_property shape.SpreadElement p e = refl
slots_fair strict an_object_property (shape.ObjectProperty k m s b) p e = by_bool (λ z. (is_fair (if z then a_method else an_expression) && true) ≡ true) refl refl (m || not (is_init k))
slots_fair strict an_object_property h p e = refl
slots_fair strict (a_key true) h p e = unchained_fair h e
slots_fair strict (a_key false) h p e = key_fair h
slots_fair strict (a_private_or_key true) h p e = inner_fair an_expression h refl
slots_fair strict (a_private_or_key false) h p e = private_key_fair h
slots_fair strict (an_inner_key true) h p e = inner_fair an_expression h refl
slots_fair strict (an_inner_key false) h p e = key_fair h
slots_fair strict a_pattern h p e = pattern_fair h
slots_fair strict a_pattern_element shape.AssignmentPattern p e = refl
slots_fair strict a_pattern_element h p e = pattern_fair h
slots_fair strict a_parameter shape.AssignmentPattern p e = refl
slots_fair strict a_parameter h p e = pattern_fair h
slots_fair strict a_target h p e = or_fair (pattern_target_slots h) (member_slots h) (pattern_target_fair h) (member_fair h)
slots_fair strict a_simple_target shape.Identifier p e = refl
slots_fair strict a_simple_target h p e = member_fair h
slots_fair strict an_element_target h p e = or_fair (pattern_target_slots h) (inner_slots a_member_target h) (pattern_target_fair h) (inner_fair a_member_target h refl)
slots_fair strict a_member_target h p e = member_fair h
slots_fair strict a_target_element shape.AssignmentPattern p e = refl
slots_fair strict a_target_element h p e = or_fair (pattern_target_slots h) (inner_slots a_member_target h) (pattern_target_fair h) (inner_fair a_member_target h refl)
slots_fair strict an_exported_declaration h p e = or_fair (variable_slots h) (function_slots (one a_binding) h) (variable_fair h) (function_fair (one a_binding) h refl e)
slots_fair strict a_default_export h p e = or_fair (function_slots (one_or_absent a_binding) h) (unchained_slots h) (function_fair (one_or_absent a_binding) h refl e) (unchained_fair h e)
slots_fair strict (a_word w) h p e = word_fair w h
slots_fair strict a_method (shape.Function false g ds) p e = absurd (false≢true (sym e))
slots_fair strict a_tagged_template shape.TemplateLiteral p e = absurd (false≢true (sym e))
slots_fair strict a_program (shape.Program m ds) p e = refl
slots_fair strict a_block shape.BlockStatement p e = refl
slots_fair strict a_case shape.SwitchCase p e = refl
slots_fair strict a_catch shape.CatchClause p e = refl
slots_fair strict a_declarator shape.VariableDeclarator p e = refl
slots_fair strict a_function_body shape.FunctionBody p e = refl
slots_fair strict a_class_body shape.ClassBody p e = refl
slots_fair strict a_class_member shape.StaticBlock p e = refl
slots_fair strict a_binding shape.BindingIdentifier p e = refl
slots_fair strict a_label (shape.IdentifierName s) p e = refl
slots_fair strict a_private_name (shape.PrivateIdentifier s) p e = refl
slots_fair strict a_super shape.Super p e = refl
slots_fair strict a_pattern_property (shape.BindingProperty s b) p e = refl
slots_fair strict a_pattern_rest shape.RestElement p e = refl
slots_fair strict a_target_property shape.AssignmentTargetPropertyIdentifier p e = refl
slots_fair strict a_named_target shape.Identifier p e = refl
slots_fair strict a_target_name shape.Identifier p e = refl
slots_fair strict a_target_rest shape.RestElement p e = refl
slots_fair strict an_import shape.ImportSpecifier p e = refl
slots_fair strict a_module_name (shape.IdentifierName s) p e = refl
slots_fair strict a_string (shape.StringLiteral s) p e = refl
slots_fair strict an_export shape.ExportSpecifier p e = refl
slots_fair strict an_exported_name shape.Identifier p e = refl
slots_fair strict c h p e = refl

-- ---- where a body of a function and a piece of a template don't stand

no_statement : (w b : Bool) (d : Depth) (inside : Bool) (ts : Trees) → (w && accept.fill inside (filling_by (none_if b (in_depth d None))) ts) ≡ true → ⊥
no_statement w true d inside ts e = never w e
no_statement w false in_module inside ts e = never w e
no_statement w false in_body inside ts e = never w e
no_statement w false nested inside ts e = never w e

no_body : (strict inside : Bool) (c : Class) (w : Bool) (ts : Trees) → is_fair c ≡ true → (w && accept.fill inside (filling_by (slots_of strict c shape.FunctionBody)) ts) ≡ true → ⊥
no_body strict inside a_function_body w ts p e = false≢true p
no_body strict inside an_arrow_body w ts p e = false≢true p
no_body strict inside (a_statement d) w ts p e = no_statement w (is_sloppy_function strict d shape.FunctionBody) d inside ts e
no_body strict inside (a_key true) w ts p e = never w e
no_body strict inside (a_private_or_key true) w ts p e = never w e
no_body strict inside (an_inner_key true) w ts p e = never w e
no_body strict inside c w ts p e = never w e

no_body_slot : (strict inside : Bool) (s : Slot) (w : Bool) (ts : Trees) → is_fair_slot s ≡ true → (w && accept.fill inside (filling strict s shape.FunctionBody) ts) ≡ true → ⊥
no_body_slot strict inside (one c) w ts p e = no_body strict inside c w ts p e
no_body_slot strict inside (one_or_absent c) w ts p e = no_body strict inside c w ts p e
no_body_slot strict inside s w ts p e = never w e

pub fair_is_no_body : (strict : Bool) (s : Slot) (h : Shape) (xs : List Name) (n : ℕ) (ts : Trees) → is_fair_slot s ≡ true → fits strict s (node h xs n ts) ≡ true → is_body h ≡ false
fair_is_no_body strict s shape.FunctionBody xs n ts p e = absurd (no_body_slot strict strict s (is_whole (accept.class_of s) shape.FunctionBody xs n ts) ts p e)
fair_is_no_body strict s h xs n ts p e = refl

pub no_piece : (strict inside : Bool) (c : Class) (b : Bool) (raw : List ℕ) (k : Option (List ℕ)) (ts : Trees) → accept.fill inside (filling_by (slots_of strict c (shape.TemplateElement b raw k))) ts ≡ true → ⊥
no_piece strict inside (a_statement d) b raw k ts e = no_statement true (is_sloppy_function strict d (shape.TemplateElement b raw k)) d inside ts e
no_piece strict inside (a_key true) b raw k ts e = false≢true e
no_piece strict inside (a_private_or_key true) b raw k ts e = false≢true e
no_piece strict inside (an_inner_key true) b raw k ts e = false≢true e
no_piece strict inside c b raw k ts e = false≢true e

-- ---- the slots of the shapes whose parts are shown in another order

nothing : (q : Option (List Slot) → Bool) (b : Bool) (d : Depth) → q None ≡ true → q (none_if b (in_depth d None)) ≡ true
nothing q true d e = e
nothing q false in_module e = e
nothing q false in_body e = e
nothing q false nested e = e

maybe : (q : Option (List Slot) → Bool) (b : Bool) (o : Option (List Slot)) → q None ≡ true → q o ≡ true → q (none_if b o) ≡ true
maybe q true o e f = e
maybe q false o e f = f

abbrev pub is_chain_slots : Option (List Slot) → Bool
is_chain_slots None = true
is_chain_slots (Some (one a_chain ∷ [])) = true
is_chain_slots _ = false

pub chain_slots : (strict : Bool) (c : Class) → is_chain_slots (slots_of strict c shape.ChainExpression) ≡ true
chain_slots strict (a_statement d) = nothing is_chain_slots (is_sloppy_function strict d shape.ChainExpression) d refl
chain_slots strict (a_key true) = refl
chain_slots strict (a_private_or_key true) = refl
chain_slots strict (an_inner_key true) = refl
chain_slots strict c = refl

abbrev pub is_template_slots : Option (List Slot) → Bool
is_template_slots None = true
is_template_slots (Some (quasis g ∷ many c ∷ [])) = is_fair c
is_template_slots _ = false

pub template_slots : (strict : Bool) (c : Class) → is_template_slots (slots_of strict c shape.TemplateLiteral) ≡ true
template_slots strict (a_statement d) = nothing is_template_slots (is_sloppy_function strict d shape.TemplateLiteral) d refl
template_slots strict (a_key true) = refl
template_slots strict (a_private_or_key true) = refl
template_slots strict (an_inner_key true) = refl
template_slots strict c = refl

abbrev pub is_function_slots : Option (List Slot) → Bool
is_function_slots None = true
is_function_slots (Some (s ∷ many_and_rest a_parameter a_pattern_rest ∷ one a_function_body ∷ [])) = is_fair_slot s
is_function_slots _ = false

pub function_slots_of : (strict : Bool) (c : Class) (d g : Bool) (ds : List (List ℕ)) → is_function_slots (slots_of strict c (shape.Function d g ds)) ≡ true
function_slots_of strict (a_statement p) true g ds = maybe is_function_slots (is_sloppy_function strict p (shape.Function true g ds)) (Some (one a_binding ∷ many_and_rest a_parameter a_pattern_rest ∷ one a_function_body ∷ [])) refl refl
function_slots_of strict (a_statement p) false g ds = nothing is_function_slots (is_sloppy_function strict p (shape.Function false g ds)) p refl
function_slots_of strict (a_key true) true g ds = refl
function_slots_of strict (a_key true) false g ds = refl
function_slots_of strict (a_key false) d g ds = refl
function_slots_of strict (a_private_or_key true) d g ds = refl
function_slots_of strict (a_private_or_key false) d g ds = refl
function_slots_of strict (an_inner_key true) d g ds = refl
function_slots_of strict (an_inner_key false) d g ds = refl
function_slots_of strict c true g ds = refl
function_slots_of strict c false g ds = refl

abbrev pub is_arrow_slots : Option (List Slot) → Bool
is_arrow_slots None = true
is_arrow_slots (Some (many_and_rest a_parameter a_pattern_rest ∷ one an_arrow_body ∷ [])) = true
is_arrow_slots _ = false

pub arrow_slots : (strict : Bool) (c : Class) (ds : List (List ℕ)) → is_arrow_slots (slots_of strict c (shape.ArrowFunctionExpression ds)) ≡ true
arrow_slots strict (a_statement d) ds = nothing is_arrow_slots (is_sloppy_function strict d (shape.ArrowFunctionExpression ds)) d refl
arrow_slots strict (a_key true) ds = refl
arrow_slots strict (a_private_or_key true) ds = refl
arrow_slots strict (an_inner_key true) ds = refl
arrow_slots strict c ds = refl

abbrev pub is_import_slots : Option (List Slot) → Bool
is_import_slots None = true
is_import_slots (Some (many an_import ∷ one a_string ∷ [])) = true
is_import_slots _ = false

import_depth : (b : Bool) (d : Depth) → is_import_slots (none_if b (in_depth d (module_slots shape.ImportDeclaration))) ≡ true
import_depth true d = refl
import_depth false in_module = refl
import_depth false in_body = refl
import_depth false nested = refl

pub import_slots : (strict : Bool) (c : Class) → is_import_slots (slots_of strict c shape.ImportDeclaration) ≡ true
import_slots strict (a_statement d) = import_depth (is_sloppy_function strict d shape.ImportDeclaration) d
import_slots strict (a_key true) = refl
import_slots strict (a_private_or_key true) = refl
import_slots strict (an_inner_key true) = refl
import_slots strict c = refl

abbrev pub is_export_slots : Option (List Slot) → Bool
is_export_slots None = true
is_export_slots (Some (one a_module_name ∷ one an_exported_name ∷ [])) = true
is_export_slots _ = false

pub export_slots : (strict : Bool) (c : Class) → is_export_slots (slots_of strict c shape.ExportSpecifier) ≡ true
export_slots strict (a_statement d) = nothing is_export_slots (is_sloppy_function strict d shape.ExportSpecifier) d refl
export_slots strict (a_key true) = refl
export_slots strict (a_private_or_key true) = refl
export_slots strict (an_inner_key true) = refl
export_slots strict c = refl

abbrev pub is_specifier_slots : Option (List Slot) → Bool
is_specifier_slots None = true
is_specifier_slots (Some (one a_module_name ∷ one a_binding ∷ [])) = true
is_specifier_slots _ = false

pub specifier_slots : (strict : Bool) (c : Class) → is_specifier_slots (slots_of strict c shape.ImportSpecifier) ≡ true
specifier_slots strict (a_statement d) = nothing is_specifier_slots (is_sloppy_function strict d shape.ImportSpecifier) d refl
specifier_slots strict (a_key true) = refl
specifier_slots strict (a_private_or_key true) = refl
specifier_slots strict (an_inner_key true) = refl
specifier_slots strict c = refl

pub no_absent : (strict inside : Bool) (c : Class) (ts : Trees) → accept.fill inside (filling_by (slots_of strict c shape.Absent)) ts ≡ true → ⊥
no_absent strict inside (a_statement d) ts e = no_statement true (is_sloppy_function strict d shape.Absent) d inside ts e
no_absent strict inside (a_key true) ts e = false≢true e
no_absent strict inside (a_private_or_key true) ts e = false≢true e
no_absent strict inside (an_inner_key true) ts e = false≢true e
no_absent strict inside c ts e = false≢true e

-- ---- two parts and three parts, each in its slot

pub two_parts : (inside : Bool) (s r : Slot) (P : Trees → Type 0) (ts : Trees) → ((t u : Tree) → fits inside s t ≡ true → fits inside r u ≡ true → P (t ▸ (u ▸ none))) → accept.fill inside (these (s ∷ r ∷ [])) ts ≡ true → P ts
two_parts inside s r P none f e = absurd (false≢true e)
two_parts inside s r P (t ▸ none) f e = absurd (never (fits inside s t) e)
two_parts inside s r P (t ▸ (u ▸ none)) f e = f t u (and_l (fits inside s t) (fits inside r u && true) e) (and_l (fits inside r u) true (and_r (fits inside s t) (fits inside r u && true) e))
two_parts inside s r P (t ▸ (u ▸ (v ▸ ts))) f e = absurd (never (fits inside r u) (and_r (fits inside s t) (fits inside r u && false) e))

pub three_parts : (inside : Bool) (s r q : Slot) (P : Trees → Type 0) (ts : Trees) → ((t u v : Tree) → fits inside s t ≡ true → fits inside r u ≡ true → fits inside q v ≡ true → P (t ▸ (u ▸ (v ▸ none)))) → accept.fill inside (these (s ∷ r ∷ q ∷ [])) ts ≡ true → P ts
three_parts inside s r q P none f e = absurd (false≢true e)
three_parts inside s r q P (t ▸ ts) f e = two_parts inside r q (λ us. P (t ▸ us)) ts (λ u v a b. f t u v (and_l (fits inside s t) (accept.fill inside (these (r ∷ q ∷ [])) ts) e) a b) (and_r (fits inside s t) (accept.fill inside (these (r ∷ q ∷ [])) ts) e)
