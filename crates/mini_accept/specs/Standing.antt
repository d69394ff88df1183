-- Which nodes may stand in a place, and which forms aren't read.
use Rattle.std.specs.Prelude.{ℕ, nat_eq, List, [], ◌∷◌, Bool, true, false, ◌&&◌, ◌||◌, not, Option, Some, None, option_and_then, option_map, unwrap_or, is_some, if◌then◌else◌, codes}
use Rattle.serde_json.specs.Data.{Data, Items, no_items, item}
use Rattle.serde_json.specs.Find.{get, as_bool}
use Rattle.mini_accept.specs.WellShaped as shaped
use Rattle.mini_accept.specs.WellShaped.{Class, Depth, in_module, in_body, nested, is_same_flag}
use Rattle.mini_accept.specs.Places.{Place, at, a_directive, a_directive_text, a_quasi, an_exported, a_local_name}
use Rattle.mini_accept.specs.Fields.{is_object, is_given, text_at, has_text, flag_at, list_at, is_bare, kind_of, has_type, has_one_of}
use Rattle.mini_accept.specs.Literals.{is_unread_literal, is_string_literal, is_big_int_literal, is_key_literal}

-- ---- types that stand in like places

abbrev pub expression_types : List (List ℕ)
expression_types =
    codes "Identifier" ∷ codes "Literal" ∷ codes "ThisExpression" ∷ codes "ArrayExpression" ∷ codes "ObjectExpression" ∷
    codes "FunctionExpression" ∷ codes "ArrowFunctionExpression" ∷ codes "ClassExpression" ∷ codes "UnaryExpression" ∷
    codes "UpdateExpression" ∷ codes "BinaryExpression" ∷ codes "LogicalExpression" ∷ codes "AssignmentExpression" ∷
    codes "ConditionalExpression" ∷ codes "SequenceExpression" ∷ codes "CallExpression" ∷ codes "NewExpression" ∷
    codes "MemberExpression" ∷ codes "ChainExpression" ∷ codes "YieldExpression" ∷ codes "TemplateLiteral" ∷
    codes "TaggedTemplateExpression" ∷ codes "MetaProperty" ∷ codes "ImportExpression" ∷ []

abbrev pub declaration_types : List (List ℕ)
declaration_types = codes "VariableDeclaration" ∷ codes "FunctionDeclaration" ∷ codes "ClassDeclaration" ∷ []

abbrev pub statement_types : List (List ℕ)
statement_types =
    codes "ExpressionStatement" ∷ codes "EmptyStatement" ∷ codes "DebuggerStatement" ∷ codes "BlockStatement" ∷
    codes "LabeledStatement" ∷ codes "BreakStatement" ∷ codes "ContinueStatement" ∷ codes "ReturnStatement" ∷
    codes "ThrowStatement" ∷ codes "IfStatement" ∷ codes "SwitchStatement" ∷ codes "TryStatement" ∷
    codes "WhileStatement" ∷ codes "DoWhileStatement" ∷ codes "ForStatement" ∷ codes "ForInStatement" ∷
    codes "ForOfStatement" ∷ declaration_types

abbrev pub module_types : List (List ℕ)
module_types =
    codes "ImportDeclaration" ∷ codes "ExportNamedDeclaration" ∷ codes "ExportDefaultDeclaration" ∷
    codes "ExportAllDeclaration" ∷ []

abbrev pub is_expression : Data → Bool
is_expression d = has_one_of expression_types d

abbrev pub is_identifier : Data → Bool
is_identifier d = has_type (codes "Identifier") d

abbrev pub is_block : Data → Bool
is_block d = has_type (codes "BlockStatement") d

abbrev pub is_variable : Data → Bool
is_variable d = has_type (codes "VariableDeclaration") d

abbrev pub is_pattern : Data → Bool
is_pattern d = has_one_of (codes "Identifier" ∷ codes "ObjectPattern" ∷ codes "ArrayPattern" ∷ []) d

abbrev pub is_default : Data → Bool
is_default d = has_type (codes "AssignmentPattern") d

-- ---- forms of a type that a place asks for

abbrev pub is_true : Option Bool → Bool
is_true None = false
is_true (Some b) = b

abbrev pub has_true : List ℕ → Data → Bool
has_true key d = is_true (option_and_then as_bool (get key d))

-- a member that may be assigned to (ECMA-262, AssignmentTargetType)
abbrev pub is_member_target : Data → Bool
is_member_target d = has_type (codes "MemberExpression") d && not (has_true (codes "optional") d)

-- what a method has as its value
abbrev pub is_method : Data → Bool
is_method d = has_type (codes "FunctionExpression") d && not (is_given (codes "id") d)

-- the head of a `for..in` (true) or `for..of`: one declarator, without an initializer but for `var`
-- in a `for..in`
abbrev pub is_head_by : Bool → Items → Bool
is_head_by may_have_init (item d no_items) = may_have_init || not (is_given (codes "init") d)
is_head_by may_have_init ds = false

abbrev pub is_head : Bool → Data → Bool
is_head enumerates d = unwrap_or (option_map (is_head_by (enumerates && has_text (codes "kind") (codes "var") d)) (list_at (codes "declarations") d)) false

-- a piece of a template says whether it is the last
abbrev pub is_piece : Bool → Option Bool → Bool
is_piece last None = true
is_piece last (Some tail) = is_same_flag last tail

-- ---- places

abbrev pub is_statement_in : Depth → Data → Bool
is_statement_in in_module d = has_one_of statement_types d || has_one_of module_types d
is_statement_in in_body d = has_one_of statement_types d
is_statement_in nested d = has_one_of statement_types d

abbrev pub stands_as : Class → Data → Bool
stands_as shaped.a_program d = has_type (codes "Program") d
stands_as (shaped.a_statement depth) d = is_statement_in depth d
stands_as shaped.a_block d = is_block d
stands_as shaped.a_case d = has_type (codes "SwitchCase") d
stands_as shaped.a_catch d = has_type (codes "CatchClause") d
stands_as shaped.an_init d = is_variable d || is_expression d
stands_as (shaped.a_loop_left enumerates) d = if is_variable d then is_head enumerates d else is_pattern d || is_member_target d
stands_as shaped.a_declarator d = has_type (codes "VariableDeclarator") d
stands_as shaped.a_pattern d = is_pattern d
stands_as shaped.a_pattern_element d = is_pattern d || is_default d
stands_as shaped.a_pattern_property d = has_type (codes "Property") d
stands_as shaped.a_pattern_rest d = has_type (codes "RestElement") d
stands_as shaped.a_parameter d = is_pattern d || is_default d
stands_as shaped.a_binding d = is_identifier d
stands_as shaped.a_label d = is_identifier d
stands_as shaped.a_private_name d = has_type (codes "PrivateIdentifier") d
stands_as shaped.a_function_body d = is_block d
stands_as shaped.an_arrow_body d = is_block d || is_expression d
stands_as shaped.a_class_body d = has_type (codes "ClassBody") d
stands_as shaped.a_class_member d = has_one_of (codes "MethodDefinition" ∷ codes "PropertyDefinition" ∷ codes "StaticBlock" ∷ []) d
stands_as shaped.a_method d = is_method d
stands_as shaped.an_expression d = is_expression d
stands_as shaped.a_link d = is_expression d
stands_as shaped.a_chain d = has_one_of (codes "CallExpression" ∷ codes "MemberExpression" ∷ []) d
stands_as shaped.an_argument d = has_type (codes "SpreadElement") d || is_expression d
stands_as shaped.an_inner_argument d = has_type (codes "SpreadElement") d
stands_as (shaped.an_inner c) d = false
stands_as shaped.a_super d = has_type (codes "Super") d
stands_as shaped.an_object_property d = has_one_of (codes "Property" ∷ codes "SpreadElement" ∷ []) d
stands_as (shaped.a_key true) d = is_expression d
stands_as (shaped.a_key false) d = is_identifier d || is_key_literal d
stands_as (shaped.a_private_or_key computed) d = is_identifier d || (is_key_literal d || has_type (codes "PrivateIdentifier") d)
stands_as (shaped.an_inner_key computed) d = is_identifier d || is_key_literal d
stands_as shaped.a_tagged_template d = has_type (codes "TemplateLiteral") d
stands_as shaped.a_target d = is_pattern d || is_member_target d
stands_as shaped.a_simple_target d = is_identifier d || is_member_target d
stands_as shaped.an_element_target d = is_pattern d
stands_as shaped.a_member_target d = is_member_target d
stands_as shaped.a_named_target d = is_identifier d || is_default d
stands_as shaped.a_target_name d = is_identifier d
stands_as shaped.a_target_element d = is_pattern d || is_default d
stands_as shaped.a_target_property d = has_type (codes "Property") d
stands_as shaped.a_target_rest d = has_type (codes "RestElement") d
stands_as shaped.an_import d = has_one_of (codes "ImportSpecifier" ∷ codes "ImportDefaultSpecifier" ∷ codes "ImportNamespaceSpecifier" ∷ []) d
stands_as shaped.a_module_name d = is_identifier d || is_string_literal d
stands_as shaped.a_string d = is_string_literal d
stands_as shaped.an_export d = false
stands_as shaped.an_exported_name d = false
stands_as shaped.an_exported_declaration d = has_one_of declaration_types d
stands_as shaped.a_default_export d = is_expression d || has_one_of (codes "FunctionDeclaration" ∷ codes "ClassDeclaration" ∷ []) d
stands_as (shaped.a_word w) d = is_identifier d && has_text (codes "name") w d

-- the type of the node, and where a place asks for one its form, is one that stands there
abbrev pub may_stand : Place → Data → Bool
may_stand (at c) d = stands_as c d
may_stand a_directive d = has_type (codes "ExpressionStatement") d
may_stand a_directive_text d = has_type (codes "Literal") d && is_some (text_at (codes "value") d)
may_stand (a_quasi g last) d = has_type (codes "TemplateElement") d && is_piece last (flag_at (codes "tail") d)
may_stand (an_exported own) d = has_type (codes "ExportSpecifier") d
may_stand a_local_name d = is_identifier d

-- ---- forms that aren't read

abbrev pub begins_with : List ℕ → List ℕ → Bool
begins_with [] s = true
begins_with (c ∷ cs) [] = false
begins_with (c ∷ cs) (u ∷ us) = nat_eq c u && begins_with cs us

abbrev pub unread_types : List (List ℕ)
unread_types =
    codes "AwaitExpression" ∷ codes "WithStatement" ∷ codes "ParenthesizedExpression" ∷ codes "Decorator" ∷
    codes "AccessorProperty" ∷ []

-- TypeScript's types and JSX's, and some of JavaScript's
abbrev pub has_unread_type : Data → Bool
has_unread_type d = has_one_of unread_types d || unwrap_or (option_map (λ s. begins_with (codes "TS") s || begins_with (codes "JSX") s) (text_at (codes "type") d)) false

-- an asynchronous function or loop, a declaration of `using`, import attributes, and the options of
-- an import
abbrev pub has_unread_field : Data → Bool
has_unread_field d =
    (has_one_of (codes "FunctionDeclaration" ∷ codes "FunctionExpression" ∷ codes "ArrowFunctionExpression" ∷ []) d && has_true (codes "async") d)
    || ((has_type (codes "ForOfStatement") d && has_true (codes "await") d)
    || ((is_variable d && (has_text (codes "kind") (codes "using") d || has_text (codes "kind") (codes "await using") d))
    || ((has_one_of (codes "ImportDeclaration" ∷ codes "ExportNamedDeclaration" ∷ codes "ExportAllDeclaration" ∷ []) d && not (is_bare (codes "attributes") d))
    || (has_type (codes "ImportExpression") d && is_given (codes "options") d))))

-- by itself, wherever it stands; a directive's literal is looked at for its text alone
abbrev pub is_unread_form : Place → Data → Bool
is_unread_form a_directive_text d = has_unread_type d
is_unread_form p d = has_unread_type d || (has_unread_field d || (not (is_bare (codes "decorators") d) || (has_type (codes "Literal") d && is_unread_literal d)))

abbrev pub is_nested : Class → Bool
is_nested (shaped.a_statement nested) = true
is_nested c = false

abbrev pub is_key : Class → Bool
is_key (shaped.a_key false) = true
is_key (shaped.a_private_or_key computed) = true
is_key (shaped.an_inner_key computed) = true
is_key c = false

-- by where it stands: a BigInt as a key without brackets, and a function of sloppy code that isn't
-- directly in a body
abbrev pub is_unread_there : Bool → Place → Data → Bool
is_unread_there strict (at c) d = (is_key c && is_big_int_literal d) || (not strict && (is_nested c && has_type (codes "FunctionDeclaration") d))
is_unread_there strict p d = false

abbrev pub is_unread : Bool → Place → Data → Bool
is_unread strict p d = is_unread_form p d || is_unread_there strict p d

-- ---- whose defect it is

-- The child is a defect of the node above: it is no object, or, where it is a form of the table
-- that is read, has another type than the place asks for.
abbrev pub is_misplaced : Bool → Place → Data → Bool
is_misplaced strict p d = not (is_object d) || (not (is_unread strict p d) && (is_some (kind_of d) && not (may_stand p d)))
