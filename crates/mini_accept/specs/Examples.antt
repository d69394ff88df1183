-- Small values that are accepted as trees, and others that are refused. A text stands over each.
use Rattle.std.specs.Prelude.{◌≡◌, refl, ℕ, true, false, Bool, [], ◌∷◌, List, codes, pos, negsuc, Float, Ok, Err, Some, None}
use Rattle.std.specs.Fmt.{digits}
use Rattle.std.specs.Str.{chars}
use Rattle.std.specs.Char.Utf16.{utf16_chars}
use Rattle.serde_json.specs.Data.{Data, null, boolean, number, object, unsigned, negative, float, no_members}
use Rattle.mini_model.specs.Texts.{units_of}
use Rattle.mini_model.specs.declared.kind.MetaPropertyKind.TheVariants.{ImportMeta}
use Rattle.mini_model.specs.declared.kind.MethodDefinitionKind.TheVariants.{Constructor}
use Rattle.mini_model.specs.declared.operator.UnaryOperator.TheVariants.{UnaryNegation}
use Rattle.mini_model.specs.declared.operator.UpdateOperator.TheVariants.{Increment}
use Rattle.mini_model.specs.declared.shape.Shape.TheVariants as shape
use Rattle.mini_model.specs.Tree.{Tree, node, none, ◌▸◌, leaf, listed, absent, unresolved, program}
use Rattle.mini_accept.specs.WellShaped.{is_name}
use Rattle.mini_accept.specs.Faults.{bad_shape, unsupported, too_deep}
use Rattle.mini_accept.specs.Accept.{program_at}
use Rattle.mini_accept.specs.Samples.{members, list, typed, text, script, says, this, literal, name, unary, member_of, chain, sequence, block, directive, this_tree, said, zero, IsTree, IsRefused}

-- ---- the root

empty_program : IsTree (script []) (program false [] none) 1
unfolding program_at
empty_program = refl

no_node : IsRefused (object no_members) bad_shape []
unfolding program_at
no_node = refl

no_body : IsRefused (typed (codes "Program") ((codes "sourceType", text (codes "script")) ∷ [])) bad_shape []
unfolding program_at
no_body = refl

-- this;
this_alone : IsTree (script (says this ∷ [])) (said this_tree) 1
unfolding program_at
this_alone = refl

-- ---- whose defect it is

unknown_type : IsRefused (script (typed (codes "Nonsense") [] ∷ [])) bad_shape (codes "/body/0")
unfolding program_at digits
unknown_type = refl

-- enum E {}
type_of_typescript : IsRefused (script (typed (codes "TSEnumDeclaration") [] ∷ [])) unsupported (codes "/body/0")
unfolding program_at digits
type_of_typescript = refl

-- a statement where an expression stands is its parent's defect
statement_as_expression : IsRefused (script (says (says this) ∷ [])) bad_shape (codes "/body/0")
unfolding program_at digits
statement_as_expression = refl

-- a form that isn't read is its own: await this; as a statement
await_as_statement : IsRefused (script (typed (codes "AwaitExpression") [] ∷ [])) unsupported (codes "/body/0")
unfolding program_at digits
await_as_statement = refl

-- what is no object is its parent's
null_as_expression : IsRefused (script (says null ∷ [])) bad_shape (codes "/body/0")
unfolding program_at digits
null_as_expression = refl

-- import.. stands in a module alone
import_in_a_script : IsRefused (script (typed (codes "ImportDeclaration") [] ∷ [])) bad_shape []
unfolding program_at
import_in_a_script = refl

-- a node's own defect goes before those of the nodes below it: 1.5, ?
own_defect_first : (x : Float) → IsRefused (script (says (sequence (literal (number (float x)) ∷ [])) ∷ [])) bad_shape (codes "/body/0/expression")
unfolding program_at digits
own_defect_first x = refl

-- ---- depth

-- this; at depth 3
deep_enough : program_at 3 (script (says this ∷ [])) ≡ Ok (said this_tree, 1)
unfolding program_at
deep_enough = refl

one_level_short : program_at 2 (script (says this ∷ [])) ≡ Err (record { defect = too_deep; at = codes "/body/0/expression" })
unfolding program_at digits
one_level_short = refl

-- a directive's literal counts
directive_too_deep : program_at 2 (script (directive (codes "a") ∷ [])) ≡ Err (record { defect = too_deep; at = codes "/body/0/expression" })
unfolding program_at digits chars utf16_chars
directive_too_deep = refl

-- ---- literals

-- 1.5;
fraction : (x : Float) → IsRefused (script (says (literal (number (float x))) ∷ [])) unsupported (codes "/body/0/expression")
unfolding program_at digits
fraction x = refl

-- a literal that is -1
literal_below_zero : IsRefused (script (says (literal (number (negative (negsuc 0)))) ∷ [])) bad_shape (codes "/body/0/expression")
unfolding program_at digits
literal_below_zero = refl

-- 9007199254740991;
greatest_number : IsTree (script (says (literal (number (unsigned 9_007_199_254_740_991))) ∷ [])) (said (leaf (shape.NumericLiteral (pos 9_007_199_254_740_991)))) 1
unfolding program_at
greatest_number = refl

-- 9007199254740992;
number_past_the_greatest : IsRefused (script (says (literal (number (unsigned 9_007_199_254_740_992))) ∷ [])) unsupported (codes "/body/0/expression")
unfolding program_at digits
number_past_the_greatest = refl

-- -5;
minus_five : IsTree (script (says (unary (codes "-") (literal (number (unsigned 5)))) ∷ [])) (said (leaf (shape.NumericLiteral (negsuc 4)))) 1
unfolding program_at
minus_five = refl

-- -0;
minus_zero : IsTree (script (says (unary (codes "-") (literal (number (unsigned 0)))) ∷ [])) (said (node (shape.UnaryExpression UnaryNegation) [] 0 (zero ▸ none))) 1
unfolding program_at
minus_zero = refl

-- null;
null_literal : IsTree (script (says (literal null) ∷ [])) (said (leaf shape.NullLiteral)) 1
unfolding program_at
null_literal = refl

-- 1e999;
too_large_for_json : IsRefused (script (says (typed (codes "Literal") ((codes "value", null) ∷ (codes "raw", text (codes "1e999")) ∷ [])) ∷ [])) unsupported (codes "/body/0/expression")
unfolding program_at digits
too_large_for_json = refl

-- 12n;
big_int : IsTree (script (says (typed (codes "Literal") ((codes "bigint", text (codes "12")) ∷ [])) ∷ [])) (said (leaf (shape.BigIntLiteral 12))) 1
unfolding program_at
big_int = refl

-- 340282366920938463463374607431768211456n;
big_int_past_the_greatest : IsRefused (script (says (typed (codes "Literal") ((codes "bigint", text (codes "340282366920938463463374607431768211456")) ∷ [])) ∷ [])) unsupported (codes "/body/0/expression")
unfolding program_at digits
big_int_past_the_greatest = refl

-- ({ 1n: this });
big_int_as_key : IsRefused (script (says (typed (codes "ObjectExpression") ((codes "properties", list (typed (codes "Property") ((codes "kind", text (codes "init")) ∷ (codes "key", typed (codes "Literal") ((codes "bigint", text (codes "1")) ∷ [])) ∷ (codes "value", this) ∷ []) ∷ [])) ∷ [])) ∷ [])) unsupported (codes "/body/0/expression/properties/0/key")
unfolding program_at digits
big_int_as_key = refl

-- ---- directives

-- "use strict";
use_strict : IsTree (script (directive (codes "use strict") ∷ [])) (program false (codes "use strict" ∷ []) none) 1
unfolding program_at chars utf16_chars
use_strict = refl

-- this; "use strict";
directive_after_a_statement : IsRefused (script (says this ∷ directive (codes "use strict") ∷ [])) bad_shape (codes "/body/1")
unfolding program_at digits
directive_after_a_statement = refl

-- a directive over null
directive_over_null : IsRefused (script (typed (codes "ExpressionStatement") ((codes "directive", text (codes "a")) ∷ (codes "expression", literal null) ∷ []) ∷ [])) bad_shape (codes "/body/0")
unfolding program_at digits chars utf16_chars
directive_over_null = refl

-- ---- structure

-- var;
no_declarator : IsRefused (script (typed (codes "VariableDeclaration") ((codes "kind", text (codes "var")) ∷ (codes "declarations", list []) ∷ []) ∷ [])) bad_shape (codes "/body/0")
unfolding program_at digits
no_declarator = refl

-- using a = this;
using_declaration : IsRefused (script (typed (codes "VariableDeclaration") ((codes "kind", text (codes "using")) ∷ []) ∷ [])) unsupported (codes "/body/0")
unfolding program_at digits
using_declaration = refl

-- this, null;
two_parts : IsTree (script (says (sequence (this ∷ literal null ∷ [])) ∷ [])) (said (node shape.SequenceExpression [] 0 (listed (this_tree ▸ leaf shape.NullLiteral ▸ none) ▸ none))) 1
unfolding program_at
two_parts = refl

one_part : IsRefused (script (says (sequence (this ∷ [])) ∷ [])) bad_shape (codes "/body/0/expression")
unfolding program_at digits
one_part = refl

-- this?.[0][0];
marked_chain : IsTree (script (says (chain (member_of false (member_of true this))) ∷ []))
    (said (node shape.ChainExpression [] 0 (node (shape.ComputedMemberExpression false) [] 0 (node (shape.ComputedMemberExpression true) [] 0 (this_tree ▸ zero ▸ none) ▸ zero ▸ none) ▸ none))) 1
unfolding program_at
marked_chain = refl

-- this[0]; as a chain
chain_without_mark : IsRefused (script (says (chain (member_of false this)) ∷ [])) bad_shape (codes "/body/0/expression")
unfolding program_at digits
chain_without_mark = refl

-- a chain below has its own mark: (this?.[0])[0]; as a chain
chain_below : IsRefused (script (says (chain (member_of false (chain (member_of true this)))) ∷ [])) bad_shape (codes "/body/0/expression")
unfolding program_at digits
chain_below = refl

-- a mark below what is no link doesn't count, at an empty key either
mark_at_an_empty_key : IsRefused (script (says (chain (member_of false (typed (codes "ThisExpression") (([], member_of true this) ∷ [])))) ∷ [])) bad_shape (codes "/body/0/expression")
unfolding program_at digits
mark_at_an_empty_key = refl

-- this?.[0]; without a chain
mark_outside_a_chain : IsRefused (script (says (member_of true this) ∷ [])) bad_shape (codes "/body/0/expression")
unfolding program_at digits
mark_outside_a_chain = refl

-- this?.[0]++;
optional_target : IsRefused (script (says (typed (codes "UpdateExpression") ((codes "operator", text (codes "++")) ∷ (codes "argument", member_of true this) ∷ [])) ∷ [])) bad_shape (codes "/body/0/expression")
unfolding program_at digits
optional_target = refl

abbrev update : List (List ℕ × Data) → Data
update prefix = script (says (typed (codes "UpdateExpression") ((codes "operator", text (codes "++")) ∷ (codes "argument", member_of false this) ∷ prefix)) ∷ [])

abbrev updated : Bool → Tree
updated prefix = said (node (shape.UpdateExpression Increment prefix) [] 0 (node (shape.ComputedMemberExpression false) [] 0 (this_tree ▸ zero ▸ none) ▸ none))

-- this[0]++; a flag is false when absent
absent_flag : IsTree (update []) (updated false) 1
unfolding program_at
absent_flag = refl

-- ++this[0];
true_flag : IsTree (update ((codes "prefix", boolean true) ∷ [])) (updated true) 1
unfolding program_at
true_flag = refl

null_flag : IsRefused (update ((codes "prefix", null) ∷ [])) bad_shape (codes "/body/0/expression")
unfolding program_at digits
null_flag = refl

abbrev quasi : Bool → Data
quasi tail = typed (codes "TemplateElement") ((codes "tail", boolean tail) ∷ (codes "value", object (members ((codes "raw", text (codes "\\n")) ∷ (codes "cooked", text (codes "\n")) ∷ []))) ∷ [])

abbrev template : List Data → Data
template quasis = typed (codes "TemplateLiteral") ((codes "quasis", list quasis) ∷ (codes "expressions", list []) ∷ [])

-- `\n`;
one_quasi : IsTree (script (says (template (quasi true ∷ [])) ∷ [])) (said (node shape.TemplateLiteral [] 0 (listed (leaf (shape.TemplateElement true (codes "\\n") (Some (codes "\n"))) ▸ none) ▸ listed none ▸ none))) 1
unfolding program_at chars utf16_chars
one_quasi = refl

two_quasis : IsRefused (script (says (template (quasi false ∷ quasi true ∷ [])) ∷ [])) bad_shape (codes "/body/0/expression")
unfolding program_at digits
two_quasis = refl

no_tail : IsRefused (script (says (template (quasi false ∷ [])) ∷ [])) bad_shape (codes "/body/0/expression")
unfolding program_at digits
no_tail = refl

-- ({ a: this }), as a shorthand
shorthand_of_this : IsRefused (script (says (typed (codes "ObjectExpression") ((codes "properties", list (typed (codes "Property") ((codes "kind", text (codes "init")) ∷ (codes "shorthand", boolean true) ∷ (codes "key", name (codes "a")) ∷ (codes "value", this) ∷ []) ∷ [])) ∷ [])) ∷ [])) bad_shape (codes "/body/0/expression/properties/0")
unfolding program_at digits
shorthand_of_this = refl

-- try {}
try_alone : IsRefused (script (typed (codes "TryStatement") ((codes "block", block []) ∷ []) ∷ [])) bad_shape (codes "/body/0")
unfolding program_at digits
try_alone = refl

-- { function f() {} }
sloppy_function_in_a_block : IsRefused (script (block (typed (codes "FunctionDeclaration") [] ∷ []) ∷ [])) unsupported (codes "/body/0/body/0")
unfolding program_at digits
sloppy_function_in_a_block = refl

-- function () {}
abbrev empty_function : Data
empty_function = typed (codes "FunctionExpression") ((codes "params", list []) ∷ (codes "body", block []) ∷ [])

abbrev class_with : List ℕ → Data
class_with kind = script (says (typed (codes "ClassExpression") ((codes "body", typed (codes "ClassBody") ((codes "body", list (typed (codes "MethodDefinition") ((codes "kind", text kind) ∷ (codes "key", literal (text (codes "constructor"))) ∷ (codes "value", empty_function) ∷ []) ∷ [])) ∷ [])) ∷ [])) ∷ [])

-- (class { "constructor"() {} });
constructor : IsTree (class_with (codes "constructor"))
    (said (node (shape.Class false) [] 1 (absent ▸ absent ▸ node shape.ClassBody [] 0 (listed (node (shape.MethodDefinition Constructor false false) [] 0 (leaf (shape.StringLiteral (codes "constructor")) ▸ node (shape.Function false false []) [] 2 (absent ▸ listed none ▸ node shape.FunctionBody [] 0 (listed none ▸ none) ▸ none) ▸ none) ▸ none) ▸ none) ▸ absent ▸ none))) 3
unfolding program_at chars utf16_chars
constructor = refl

constructor_as_a_method : IsRefused (class_with (codes "method")) bad_shape (codes "/body/0/expression/body/body/0")
unfolding program_at digits chars utf16_chars
constructor_as_a_method = refl

-- () => this; the body is an expression
abbrev arrow : Bool → Data
arrow expression = script (says (typed (codes "ArrowFunctionExpression") ((codes "params", list []) ∷ (codes "body", this) ∷ (codes "expression", boolean expression) ∷ [])) ∷ [])

arrow_over_this : IsTree (arrow true) (said (node (shape.ArrowFunctionExpression []) [] 1 (listed none ▸ this_tree ▸ none))) 2
unfolding program_at
arrow_over_this = refl

arrow_that_says_block : IsRefused (arrow false) bad_shape (codes "/body/0/expression")
unfolding program_at digits
arrow_that_says_block = refl

-- ---- numbers

-- import(this), /a/;
inner_expression : IsTree (script (says (sequence (typed (codes "ImportExpression") ((codes "source", this) ∷ []) ∷ typed (codes "Literal") ((codes "regex", object (members ((codes "pattern", text (codes "a")) ∷ (codes "flags", text []) ∷ []))) ∷ []) ∷ [])) ∷ []))
    (said (node shape.SequenceExpression [] 0 (listed (node shape.ImportExpression [] 1 (node shape.InnerExpression [] 2 (this_tree ▸ none) ▸ none) ▸ node (shape.RegExpLiteral (codes "a") []) [] 3 none ▸ none) ▸ none))) 4
unfolding program_at chars utf16_chars
inner_expression = refl

-- ---- more that is refused

-- 1a;
no_name : (s : List ℕ) → is_name (units_of s) ≡ false → IsRefused (script (says (name s) ∷ [])) bad_shape (codes "/body/0/expression")
unfolding program_at digits
no_name s h = rw h refl

abbrev loop_over : List ℕ → List ℕ → Data
loop_over type kind = script (typed type ((codes "left", typed (codes "VariableDeclaration") ((codes "kind", text kind) ∷ (codes "declarations", list (typed (codes "VariableDeclarator") ((codes "init", this) ∷ []) ∷ [])) ∷ [])) ∷ (codes "right", this) ∷ (codes "body", block []) ∷ []) ∷ [])

-- for (var a = this of this) {}
initialized_head_of_for_of : IsRefused (loop_over (codes "ForOfStatement") (codes "var")) bad_shape (codes "/body/0")
unfolding program_at digits
initialized_head_of_for_of = refl

-- for (let a = this in this) {}
initialized_lexical_head : IsRefused (loop_over (codes "ForInStatement") (codes "let")) bad_shape (codes "/body/0")
unfolding program_at digits
initialized_lexical_head = refl

abbrev function_with : List (List ℕ × Data) → Data
function_with more = typed (codes "FunctionDeclaration") ((codes "params", list []) ∷ (codes "body", block []) ∷ more)

-- function () {}
function_without_a_name : IsRefused (script (function_with [] ∷ [])) bad_shape (codes "/body/0")
unfolding program_at digits
function_without_a_name = refl

-- async function () {}
async_function : IsRefused (script (function_with ((codes "async", boolean true) ∷ []) ∷ [])) unsupported (codes "/body/0")
unfolding program_at digits
async_function = refl

-- function (...[], []) {}, whose rest isn't the last
rest_before_another : IsRefused (script (says (typed (codes "FunctionExpression") ((codes "body", block []) ∷ (codes "params", list (typed (codes "RestElement") [] ∷ typed (codes "ArrayPattern") [] ∷ [])) ∷ [])) ∷ [])) bad_shape (codes "/body/0/expression")
unfolding program_at digits
rest_before_another = refl

abbrev module_with : Data → Data
module_with d = typed (codes "Program") ((codes "sourceType", text (codes "module")) ∷ (codes "body", list (d ∷ [])) ∷ [])

-- import "" with {..};
attributes : IsRefused (module_with (typed (codes "ImportDeclaration") ((codes "attributes", list (this ∷ [])) ∷ []))) unsupported (codes "/body/0")
unfolding program_at digits
attributes = refl

-- export var.. from "";
declaration_with_a_source : IsRefused (module_with (typed (codes "ExportNamedDeclaration") ((codes "specifiers", list []) ∷ (codes "declaration", typed (codes "VariableDeclaration") []) ∷ (codes "source", literal (text [])) ∷ []))) bad_shape (codes "/body/0")
unfolding program_at digits
declaration_with_a_source = refl

-- import(this, this);
import_options : IsRefused (script (says (typed (codes "ImportExpression") ((codes "source", this) ∷ (codes "options", this) ∷ [])) ∷ [])) unsupported (codes "/body/0/expression")
unfolding program_at digits
import_options = refl

-- @this class {}
decorators : IsRefused (script (says (typed (codes "ClassExpression") ((codes "decorators", list (this ∷ [])) ∷ [])) ∷ [])) unsupported (codes "/body/0/expression")
unfolding program_at digits
decorators = refl

-- [] += this;
pattern_under_another_operator : IsRefused (script (says (typed (codes "AssignmentExpression") ((codes "operator", text (codes "+=")) ∷ (codes "left", typed (codes "ArrayPattern") ((codes "elements", list []) ∷ [])) ∷ (codes "right", this) ∷ [])) ∷ [])) bad_shape (codes "/body/0/expression")
unfolding program_at digits
pattern_under_another_operator = refl

-- `\u`, whose text is malformed: with a tag alone
abbrev malformed : Data
malformed = typed (codes "TemplateLiteral") ((codes "quasis", list (typed (codes "TemplateElement") ((codes "tail", boolean true) ∷ (codes "value", object (members ((codes "raw", text (codes "\\u")) ∷ (codes "cooked", null) ∷ []))) ∷ []) ∷ [])) ∷ (codes "expressions", list []) ∷ [])

malformed_with_a_tag : IsTree (script (says (typed (codes "TaggedTemplateExpression") ((codes "tag", this) ∷ (codes "quasi", malformed) ∷ [])) ∷ []))
    (said (node shape.TaggedTemplateExpression [] 1 (node shape.InnerExpression [] 2 (this_tree ▸ none) ▸ node shape.TemplateLiteral [] 0 (listed (leaf (shape.TemplateElement true (codes "\\u") None) ▸ none) ▸ listed none ▸ none) ▸ none))) 3
unfolding program_at chars utf16_chars
malformed_with_a_tag = refl

malformed_without_a_tag : IsRefused (script (says malformed ∷ [])) bad_shape (codes "/body/0/expression/quasis/0")
unfolding program_at digits chars utf16_chars
malformed_without_a_tag = refl

-- "use strict"; { function a() {} }
strict_function_in_a_block : (s : List ℕ) → is_name (units_of s) ≡ true → IsTree (script (directive (codes "use strict") ∷ block (function_with ((codes "id", name s) ∷ []) ∷ []) ∷ []))
    (program false (codes "use strict" ∷ []) (node shape.BlockStatement [] 0 (listed (node (shape.Function true false []) [] 1 (node shape.BindingIdentifier (unresolved (units_of s) ∷ []) 0 none ▸ listed none ▸ node shape.FunctionBody [] 0 (listed none ▸ none) ▸ none) ▸ none) ▸ none) ▸ none)) 2
unfolding program_at chars utf16_chars
strict_function_in_a_block s h = rw h refl

-- import.meta;
import_meta : is_name (codes "import") ≡ true → is_name (codes "meta") ≡ true → IsTree (script (says (typed (codes "MetaProperty") ((codes "meta", name (codes "import")) ∷ (codes "property", name (codes "meta")) ∷ [])) ∷ []))
    (said (node (shape.MetaProperty ImportMeta) [] 1 (leaf (shape.IdentifierName (codes "import")) ▸ leaf (shape.IdentifierName (codes "meta")) ▸ none))) 2
unfolding program_at chars
import_meta h k = rw (h, k) refl

-- new.meta;
new_meta : IsRefused (script (says (typed (codes "MetaProperty") ((codes "meta", name (codes "new")) ∷ (codes "property", name (codes "meta")) ∷ [])) ∷ [])) bad_shape (codes "/body/0/expression")
unfolding program_at digits
new_meta = refl

-- an object without a type is no node, by itself: if ({}) ;
child_without_a_type : IsRefused (script (typed (codes "IfStatement") ((codes "test", object no_members) ∷ (codes "consequent", block []) ∷ []) ∷ [])) bad_shape (codes "/body/0/test")
unfolding program_at digits
child_without_a_type = refl
