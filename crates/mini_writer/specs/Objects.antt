-- The object of each type of node, of its parts: `type`, and every field that the type has in
-- ESTree (ES5 to ES2022). The members are in the byte order of their keys. A function is not
-- asynchronous, a loop does not await, and an import or export has no attributes, since others are
-- not read.
use Rattle.std.specs.Prelude.{ℕ, List, codes, Bool, true, false}
use Rattle.serde_json.specs.Data.{Data, null, boolean, number, unsigned, string, array, object, no_items, no_members, member}
use Rattle.mini_model.specs.declared.kind.MethodDefinitionKind.{MethodDefinitionKind}
use Rattle.mini_model.specs.declared.kind.PropertyKind.{PropertyKind}
use Rattle.mini_model.specs.declared.kind.VariableDeclarationKind.{VariableDeclarationKind}
use Rattle.mini_model.specs.declared.operator.AssignmentOperator.{AssignmentOperator}
use Rattle.mini_model.specs.declared.operator.BinaryOperator.{BinaryOperator}
use Rattle.mini_model.specs.declared.operator.LogicalOperator.{LogicalOperator}
use Rattle.mini_model.specs.declared.operator.UnaryOperator.{UnaryOperator}
use Rattle.mini_model.specs.declared.operator.UpdateOperator.{UpdateOperator}
use Rattle.mini_writer.specs.Words.{unary_word, update_word, binary_word, logical_word, assignment_word, variable_word, property_word, method_word, source_type, function_type, class_type}

-- ---- statements

abbrev pub program_object : Bool → Data → Data
program_object is_module body = object (member (codes "body") body (member (codes "sourceType") (string (source_type is_module)) (member (codes "type") (string (codes "Program")) no_members)))

abbrev pub expression_statement : Data → Data
expression_statement expression = object (member (codes "expression") expression (member (codes "type") (string (codes "ExpressionStatement")) no_members))

abbrev pub empty_statement : Data
empty_statement = object (member (codes "type") (string (codes "EmptyStatement")) no_members)

abbrev pub debugger_statement : Data
debugger_statement = object (member (codes "type") (string (codes "DebuggerStatement")) no_members)

abbrev pub block_statement : Data → Data
block_statement body = object (member (codes "body") body (member (codes "type") (string (codes "BlockStatement")) no_members))

abbrev pub labeled_statement : Data → Data → Data
labeled_statement label body = object (member (codes "body") body (member (codes "label") label (member (codes "type") (string (codes "LabeledStatement")) no_members)))

abbrev pub break_statement : Data → Data
break_statement label = object (member (codes "label") label (member (codes "type") (string (codes "BreakStatement")) no_members))

abbrev pub continue_statement : Data → Data
continue_statement label = object (member (codes "label") label (member (codes "type") (string (codes "ContinueStatement")) no_members))

abbrev pub return_statement : Data → Data
return_statement argument = object (member (codes "argument") argument (member (codes "type") (string (codes "ReturnStatement")) no_members))

abbrev pub throw_statement : Data → Data
throw_statement argument = object (member (codes "argument") argument (member (codes "type") (string (codes "ThrowStatement")) no_members))

abbrev pub if_statement : Data → Data → Data → Data
if_statement test consequent alternate = object (member (codes "alternate") alternate (member (codes "consequent") consequent (member (codes "test") test (member (codes "type") (string (codes "IfStatement")) no_members))))

abbrev pub switch_statement : Data → Data → Data
switch_statement discriminant cases = object (member (codes "cases") cases (member (codes "discriminant") discriminant (member (codes "type") (string (codes "SwitchStatement")) no_members)))

abbrev pub switch_case : Data → Data → Data
switch_case test consequent = object (member (codes "consequent") consequent (member (codes "test") test (member (codes "type") (string (codes "SwitchCase")) no_members)))

abbrev pub try_statement : Data → Data → Data → Data
try_statement block handler finalizer = object (member (codes "block") block (member (codes "finalizer") finalizer (member (codes "handler") handler (member (codes "type") (string (codes "TryStatement")) no_members))))

abbrev pub catch_clause : Data → Data → Data
catch_clause param body = object (member (codes "body") body (member (codes "param") param (member (codes "type") (string (codes "CatchClause")) no_members)))

abbrev pub while_statement : Data → Data → Data
while_statement test body = object (member (codes "body") body (member (codes "test") test (member (codes "type") (string (codes "WhileStatement")) no_members)))

abbrev pub do_while_statement : Data → Data → Data
do_while_statement body test = object (member (codes "body") body (member (codes "test") test (member (codes "type") (string (codes "DoWhileStatement")) no_members)))

abbrev pub for_statement : Data → Data → Data → Data → Data
for_statement init test update body = object (member (codes "body") body (member (codes "init") init (member (codes "test") test (member (codes "type") (string (codes "ForStatement")) (member (codes "update") update no_members)))))

abbrev pub for_in_statement : Data → Data → Data → Data
for_in_statement left right body = object (member (codes "body") body (member (codes "left") left (member (codes "right") right (member (codes "type") (string (codes "ForInStatement")) no_members))))

abbrev pub for_of_statement : Data → Data → Data → Data
for_of_statement left right body = object (member (codes "await") (boolean false) (member (codes "body") body (member (codes "left") left (member (codes "right") right (member (codes "type") (string (codes "ForOfStatement")) no_members)))))

abbrev pub variable_declaration : VariableDeclarationKind → Data → Data
variable_declaration kind declarations = object (member (codes "declarations") declarations (member (codes "kind") (string (variable_word kind)) (member (codes "type") (string (codes "VariableDeclaration")) no_members)))

abbrev pub variable_declarator : Data → Data → Data
variable_declarator id init = object (member (codes "id") id (member (codes "init") init (member (codes "type") (string (codes "VariableDeclarator")) no_members)))

-- ---- functions and classes

abbrev pub function : Bool → Bool → Data → Data → Data → Data
function declaration generator id params body = object (member (codes "async") (boolean false) (member (codes "body") body (member (codes "generator") (boolean generator) (member (codes "id") id (member (codes "params") params (member (codes "type") (string (function_type declaration)) no_members))))))

abbrev pub arrow_function_expression : Data → Data → Bool → Data
arrow_function_expression params body expression = object (member (codes "async") (boolean false) (member (codes "body") body (member (codes "expression") (boolean expression) (member (codes "params") params (member (codes "type") (string (codes "ArrowFunctionExpression")) no_members)))))

abbrev pub class : Bool → Data → Data → Data → Data
class declaration id super_class body = object (member (codes "body") body (member (codes "id") id (member (codes "superClass") super_class (member (codes "type") (string (class_type declaration)) no_members))))

abbrev pub class_body : Data → Data
class_body body = object (member (codes "body") body (member (codes "type") (string (codes "ClassBody")) no_members))

abbrev pub method_definition : MethodDefinitionKind → Bool → Bool → Data → Data → Data
method_definition kind computed is_static key value = object (member (codes "computed") (boolean computed) (member (codes "key") key (member (codes "kind") (string (method_word kind)) (member (codes "static") (boolean is_static) (member (codes "type") (string (codes "MethodDefinition")) (member (codes "value") value no_members))))))

abbrev pub property_definition : Bool → Bool → Data → Data → Data
property_definition computed is_static key value = object (member (codes "computed") (boolean computed) (member (codes "key") key (member (codes "static") (boolean is_static) (member (codes "type") (string (codes "PropertyDefinition")) (member (codes "value") value no_members)))))

abbrev pub static_block : Data → Data
static_block body = object (member (codes "body") body (member (codes "type") (string (codes "StaticBlock")) no_members))

-- ---- imports and exports

abbrev pub import_declaration : Data → Data → Data
import_declaration specifiers source = object (member (codes "attributes") (array no_items) (member (codes "source") source (member (codes "specifiers") specifiers (member (codes "type") (string (codes "ImportDeclaration")) no_members))))

abbrev pub import_specifier : Data → Data → Data
import_specifier imported local = object (member (codes "imported") imported (member (codes "local") local (member (codes "type") (string (codes "ImportSpecifier")) no_members)))

abbrev pub import_default_specifier : Data → Data
import_default_specifier local = object (member (codes "local") local (member (codes "type") (string (codes "ImportDefaultSpecifier")) no_members))

abbrev pub import_namespace_specifier : Data → Data
import_namespace_specifier local = object (member (codes "local") local (member (codes "type") (string (codes "ImportNamespaceSpecifier")) no_members))

abbrev pub export_named_declaration : Data → Data → Data → Data
export_named_declaration declaration specifiers source = object (member (codes "attributes") (array no_items) (member (codes "declaration") declaration (member (codes "source") source (member (codes "specifiers") specifiers (member (codes "type") (string (codes "ExportNamedDeclaration")) no_members)))))

abbrev pub export_specifier : Data → Data → Data
export_specifier exported local = object (member (codes "exported") exported (member (codes "local") local (member (codes "type") (string (codes "ExportSpecifier")) no_members)))

abbrev pub export_default_declaration : Data → Data
export_default_declaration declaration = object (member (codes "declaration") declaration (member (codes "type") (string (codes "ExportDefaultDeclaration")) no_members))

abbrev pub export_all_declaration : Data → Data → Data
export_all_declaration exported source = object (member (codes "attributes") (array no_items) (member (codes "exported") exported (member (codes "source") source (member (codes "type") (string (codes "ExportAllDeclaration")) no_members))))

-- ---- names and literals

abbrev pub identifier : List ℕ → Data
identifier name = object (member (codes "name") (string name) (member (codes "type") (string (codes "Identifier")) no_members))

abbrev pub private_identifier : List ℕ → Data
private_identifier name = object (member (codes "name") (string name) (member (codes "type") (string (codes "PrivateIdentifier")) no_members))

abbrev pub number_literal : ℕ → Data
number_literal value = object (member (codes "type") (string (codes "Literal")) (member (codes "value") (number (unsigned value)) no_members))

abbrev pub string_literal : List ℕ → Data
string_literal value = object (member (codes "type") (string (codes "Literal")) (member (codes "value") (string value) no_members))

abbrev pub boolean_literal : Bool → Data
boolean_literal value = object (member (codes "type") (string (codes "Literal")) (member (codes "value") (boolean value) no_members))

abbrev pub null_literal : Data
null_literal = object (member (codes "type") (string (codes "Literal")) (member (codes "value") null no_members))

abbrev pub reg_exp_literal : List ℕ → List ℕ → Data
reg_exp_literal pattern flags = object (member (codes "regex") (object (member (codes "flags") (string flags) (member (codes "pattern") (string pattern) no_members))) (member (codes "type") (string (codes "Literal")) (member (codes "value") null no_members)))

abbrev pub big_int_literal : List ℕ → Data
big_int_literal digits = object (member (codes "bigint") (string digits) (member (codes "type") (string (codes "Literal")) (member (codes "value") null no_members)))

-- ---- expressions

abbrev pub this_expression : Data
this_expression = object (member (codes "type") (string (codes "ThisExpression")) no_members)

abbrev pub super_keyword : Data
super_keyword = object (member (codes "type") (string (codes "Super")) no_members)

abbrev pub array_expression : Data → Data
array_expression elements = object (member (codes "elements") elements (member (codes "type") (string (codes "ArrayExpression")) no_members))

abbrev pub object_expression : Data → Data
object_expression properties = object (member (codes "properties") properties (member (codes "type") (string (codes "ObjectExpression")) no_members))

abbrev pub property : PropertyKind → Bool → Bool → Bool → Data → Data → Data
property kind method shorthand computed key value = object (member (codes "computed") (boolean computed) (member (codes "key") key (member (codes "kind") (string (property_word kind)) (member (codes "method") (boolean method) (member (codes "shorthand") (boolean shorthand) (member (codes "type") (string (codes "Property")) (member (codes "value") value no_members)))))))

abbrev pub spread_element : Data → Data
spread_element argument = object (member (codes "argument") argument (member (codes "type") (string (codes "SpreadElement")) no_members))

abbrev pub unary_expression : UnaryOperator → Data → Data
unary_expression operator argument = object (member (codes "argument") argument (member (codes "operator") (string (unary_word operator)) (member (codes "prefix") (boolean true) (member (codes "type") (string (codes "UnaryExpression")) no_members))))

abbrev pub update_expression : UpdateOperator → Bool → Data → Data
update_expression operator prefix argument = object (member (codes "argument") argument (member (codes "operator") (string (update_word operator)) (member (codes "prefix") (boolean prefix) (member (codes "type") (string (codes "UpdateExpression")) no_members))))

abbrev pub binary_expression : BinaryOperator → Data → Data → Data
binary_expression operator left right = object (member (codes "left") left (member (codes "operator") (string (binary_word operator)) (member (codes "right") right (member (codes "type") (string (codes "BinaryExpression")) no_members))))

abbrev pub logical_expression : LogicalOperator → Data → Data → Data
logical_expression operator left right = object (member (codes "left") left (member (codes "operator") (string (logical_word operator)) (member (codes "right") right (member (codes "type") (string (codes "LogicalExpression")) no_members))))

abbrev pub assignment_expression : AssignmentOperator → Data → Data → Data
assignment_expression operator left right = object (member (codes "left") left (member (codes "operator") (string (assignment_word operator)) (member (codes "right") right (member (codes "type") (string (codes "AssignmentExpression")) no_members))))

abbrev pub conditional_expression : Data → Data → Data → Data
conditional_expression test consequent alternate = object (member (codes "alternate") alternate (member (codes "consequent") consequent (member (codes "test") test (member (codes "type") (string (codes "ConditionalExpression")) no_members))))

abbrev pub sequence_expression : Data → Data
sequence_expression expressions = object (member (codes "expressions") expressions (member (codes "type") (string (codes "SequenceExpression")) no_members))

abbrev pub call_expression : Bool → Data → Data → Data
call_expression optional callee arguments = object (member (codes "arguments") arguments (member (codes "callee") callee (member (codes "optional") (boolean optional) (member (codes "type") (string (codes "CallExpression")) no_members))))

abbrev pub new_expression : Data → Data → Data
new_expression callee arguments = object (member (codes "arguments") arguments (member (codes "callee") callee (member (codes "type") (string (codes "NewExpression")) no_members)))

abbrev pub member_expression : Bool → Bool → Data → Data → Data
member_expression computed optional base key = object (member (codes "computed") (boolean computed) (member (codes "object") base (member (codes "optional") (boolean optional) (member (codes "property") key (member (codes "type") (string (codes "MemberExpression")) no_members)))))

abbrev pub chain_expression : Data → Data
chain_expression expression = object (member (codes "expression") expression (member (codes "type") (string (codes "ChainExpression")) no_members))

abbrev pub yield_expression : Bool → Data → Data
yield_expression delegate argument = object (member (codes "argument") argument (member (codes "delegate") (boolean delegate) (member (codes "type") (string (codes "YieldExpression")) no_members)))

abbrev pub template_literal : Data → Data → Data
template_literal quasis expressions = object (member (codes "expressions") expressions (member (codes "quasis") quasis (member (codes "type") (string (codes "TemplateLiteral")) no_members)))

abbrev pub template_element : Bool → List ℕ → Data → Data
template_element tail raw cooked = object (member (codes "tail") (boolean tail) (member (codes "type") (string (codes "TemplateElement")) (member (codes "value") (object (member (codes "cooked") cooked (member (codes "raw") (string raw) no_members))) no_members)))

abbrev pub tagged_template_expression : Data → Data → Data
tagged_template_expression tag quasi = object (member (codes "quasi") quasi (member (codes "tag") tag (member (codes "type") (string (codes "TaggedTemplateExpression")) no_members)))

abbrev pub meta_property : Data → Data → Data
meta_property meta name = object (member (codes "meta") meta (member (codes "property") name (member (codes "type") (string (codes "MetaProperty")) no_members)))

abbrev pub import_expression : Data → Data
import_expression source = object (member (codes "source") source (member (codes "type") (string (codes "ImportExpression")) no_members))

-- ---- patterns

abbrev pub object_pattern : Data → Data
object_pattern properties = object (member (codes "properties") properties (member (codes "type") (string (codes "ObjectPattern")) no_members))

abbrev pub array_pattern : Data → Data
array_pattern elements = object (member (codes "elements") elements (member (codes "type") (string (codes "ArrayPattern")) no_members))

abbrev pub rest_element : Data → Data
rest_element argument = object (member (codes "argument") argument (member (codes "type") (string (codes "RestElement")) no_members))

abbrev pub assignment_pattern : Data → Data → Data
assignment_pattern left right = object (member (codes "left") left (member (codes "right") right (member (codes "type") (string (codes "AssignmentPattern")) no_members)))

-- ---- directives

-- a directive is a statement that is a text (ECMA-262, "Directive Prologues and the Use Strict
-- Directive")
abbrev pub directive : List ℕ → Data
directive text = object (member (codes "directive") (string text) (member (codes "expression") (string_literal text) (member (codes "type") (string (codes "ExpressionStatement")) no_members)))
