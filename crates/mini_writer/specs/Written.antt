-- The value that is written for a tree. Each node is the object of its type over what its children
-- are written as; the tree's numbers and symbols aren't written.
use Rattle.std.specs.Prelude.{ℕ, suc, List, [], ◌∷◌, Bool, true, false, Option, Some, None, ℤ, pos, negsuc, decimal}
use Rattle.serde_json.specs.Data.{Data, null, string, array, Items, no_items, item}
use Rattle.mini_model.specs.Texts.{bytes_of}
use Rattle.mini_model.specs.declared.kind.PropertyKind.TheVariants.{Init}
use Rattle.mini_model.specs.declared.name.Name.{Name}
use Rattle.mini_model.specs.declared.operator.BinaryOperator.TheVariants.{In}
use Rattle.mini_model.specs.declared.operator.UnaryOperator.TheVariants.{UnaryNegation}
use Rattle.mini_model.specs.declared.shape.Shape.{Shape}
use Rattle.mini_model.specs.declared.shape.Shape.TheVariants as shape
use Rattle.mini_model.specs.Tree.{Tree, node, Trees, none, ◌▸◌}
use Rattle.mini_writer.specs.Objects as objects
use Rattle.mini_writer.specs.Objects.{directive}

-- ---- over the children of a node; null where it has others than its shape

abbrev pub of_one : (Data → Data) → Items → Data
of_one f (item a no_items) = f a
of_one f ds = null

abbrev pub of_two : (Data → Data → Data) → Items → Data
of_two f (item a (item b no_items)) = f a b
of_two f ds = null

abbrev pub of_three : (Data → Data → Data → Data) → Items → Data
of_three f (item a (item b (item c no_items))) = f a b c
of_three f ds = null

abbrev pub of_four : (Data → Data → Data → Data → Data) → Items → Data
of_four f (item a (item b (item c (item d no_items)))) = f a b c d
of_four f ds = null

-- ---- names and literals

abbrev pub name : List ℕ → Data
name s = objects.identifier (bytes_of s)

abbrev pub name_of : List Name → Data
name_of [] = null
name_of (x ∷ xs) = name x.spelling

-- a number below 0 is a minus over the number above 0
abbrev pub number_literal : ℤ → Data
number_literal (pos n) = objects.number_literal n
number_literal (negsuc n) = objects.unary_expression UnaryNegation (objects.number_literal (suc n))

abbrev pub cooked_text : Option (List ℕ) → Data
cooked_text None = null
cooked_text (Some s) = string (bytes_of s)

-- ---- bodies

-- the directives, and the statements after them
abbrev pub with_directives : List (List ℕ) → Items → Items
with_directives [] ds = ds
with_directives (s ∷ ss) ds = item (directive (bytes_of s)) (with_directives ss ds)

-- the statements of a function are its block, behind its directives; an arrow's body may be an
-- expression
abbrev pub body : List (List ℕ) → Data → Data
body directives (array ds) = objects.block_statement (array (with_directives directives ds))
body directives d = d

abbrev pub is_expression : Data → Bool
is_expression (array ds) = false
is_expression d = true

abbrev pub program_body : List (List ℕ) → Data → Data
program_body directives (array ds) = array (with_directives directives ds)
program_body directives d = null

abbrev pub function : Bool → Bool → List (List ℕ) → Data → Data → Data → Data
function declaration generator directives id params d = objects.function declaration generator id params (body directives d)

abbrev pub arrow : List (List ℕ) → Data → Data → Data
arrow directives params d = objects.arrow_function_expression params (body directives d) (is_expression d)

-- the name that a class holds once more isn't written again
abbrev pub class : Bool → Data → Data → Data → Data → Data
class declaration id super_class d again = objects.class declaration id super_class d

-- ---- a node, of what its children are written as

abbrev pub node_data : Shape → List Name → Items → Data
node_data shape.Absent xs ds = null
node_data shape.Listed xs ds = array ds
node_data shape.InnerExpression xs ds = of_one (λ d. d) ds
node_data (shape.Program is_module directives) xs ds = of_one (λ d. objects.program_object is_module (program_body directives d)) ds
-- statements
node_data shape.ExpressionStatement xs ds = of_one objects.expression_statement ds
node_data shape.EmptyStatement xs ds = objects.empty_statement
node_data shape.DebuggerStatement xs ds = objects.debugger_statement
node_data shape.BlockStatement xs ds = of_one objects.block_statement ds
node_data shape.LabeledStatement xs ds = of_two objects.labeled_statement ds
node_data shape.BreakStatement xs ds = of_one objects.break_statement ds
node_data shape.ContinueStatement xs ds = of_one objects.continue_statement ds
node_data shape.ReturnStatement xs ds = of_one objects.return_statement ds
node_data shape.ThrowStatement xs ds = of_one objects.throw_statement ds
node_data shape.IfStatement xs ds = of_three objects.if_statement ds
node_data shape.SwitchStatement xs ds = of_two objects.switch_statement ds
node_data shape.SwitchCase xs ds = of_two objects.switch_case ds
node_data shape.TryStatement xs ds = of_three objects.try_statement ds
node_data shape.CatchClause xs ds = of_two objects.catch_clause ds
node_data shape.WhileStatement xs ds = of_two objects.while_statement ds
node_data shape.DoWhileStatement xs ds = of_two objects.do_while_statement ds
node_data shape.ForStatement xs ds = of_four objects.for_statement ds
node_data shape.ForInStatement xs ds = of_three objects.for_in_statement ds
node_data shape.ForOfStatement xs ds = of_three objects.for_of_statement ds
node_data (shape.VariableDeclaration kind) xs ds = of_one (objects.variable_declaration kind) ds
node_data shape.VariableDeclarator xs ds = of_two objects.variable_declarator ds
-- functions and classes
node_data (shape.Function declaration generator directives) xs ds = of_three (function declaration generator directives) ds
node_data (shape.ArrowFunctionExpression directives) xs ds = of_two (arrow directives) ds
node_data shape.FunctionBody xs ds = of_one (λ d. d) ds
node_data (shape.Class declaration) xs ds = of_four (class declaration) ds
node_data shape.ClassBody xs ds = of_one objects.class_body ds
node_data (shape.MethodDefinition kind computed is_static) xs ds = of_two (objects.method_definition kind computed is_static) ds
node_data (shape.PropertyDefinition computed is_static) xs ds = of_two (objects.property_definition computed is_static) ds
node_data shape.StaticBlock xs ds = of_one objects.static_block ds
-- imports and exports
node_data shape.ImportDeclaration xs ds = of_two objects.import_declaration ds
node_data shape.ImportSpecifier xs ds = of_two objects.import_specifier ds
node_data shape.ImportDefaultSpecifier xs ds = of_one objects.import_default_specifier ds
node_data shape.ImportNamespaceSpecifier xs ds = of_one objects.import_namespace_specifier ds
node_data shape.ExportNamedDeclaration xs ds = of_three objects.export_named_declaration ds
node_data shape.ExportSpecifier xs ds = of_two objects.export_specifier ds
node_data shape.ExportDefaultDeclaration xs ds = of_one objects.export_default_declaration ds
node_data shape.ExportAllDeclaration xs ds = of_two objects.export_all_declaration ds
-- names and literals
node_data shape.Identifier xs ds = name_of xs
node_data shape.BindingIdentifier xs ds = name_of xs
node_data (shape.IdentifierName s) xs ds = name s
node_data (shape.PrivateIdentifier s) xs ds = objects.private_identifier (bytes_of s)
node_data (shape.NumericLiteral n) xs ds = number_literal n
node_data (shape.StringLiteral s) xs ds = objects.string_literal (bytes_of s)
node_data (shape.BooleanLiteral b) xs ds = objects.boolean_literal b
node_data shape.NullLiteral xs ds = objects.null_literal
node_data (shape.RegExpLiteral pattern flags) xs ds = objects.reg_exp_literal (bytes_of pattern) (bytes_of flags)
node_data (shape.BigIntLiteral n) xs ds = objects.big_int_literal (decimal n)
-- expressions
node_data shape.ThisExpression xs ds = objects.this_expression
node_data shape.Super xs ds = objects.super_keyword
node_data shape.ArrayExpression xs ds = of_one objects.array_expression ds
node_data shape.ObjectExpression xs ds = of_one objects.object_expression ds
node_data (shape.ObjectProperty kind is_method shorthand computed) xs ds = of_two (objects.property kind is_method shorthand computed) ds
node_data shape.SpreadElement xs ds = of_one objects.spread_element ds
node_data (shape.UnaryExpression operator) xs ds = of_one (objects.unary_expression operator) ds
node_data (shape.UpdateExpression operator prefix) xs ds = of_one (objects.update_expression operator prefix) ds
node_data (shape.BinaryExpression operator) xs ds = of_two (objects.binary_expression operator) ds
node_data shape.PrivateInExpression xs ds = of_two (objects.binary_expression In) ds
node_data (shape.LogicalExpression operator) xs ds = of_two (objects.logical_expression operator) ds
node_data (shape.AssignmentExpression operator) xs ds = of_two (objects.assignment_expression operator) ds
node_data shape.ConditionalExpression xs ds = of_three objects.conditional_expression ds
node_data shape.SequenceExpression xs ds = of_one objects.sequence_expression ds
node_data (shape.CallExpression optional) xs ds = of_two (objects.call_expression optional) ds
node_data shape.SuperCallExpression xs ds = of_two (objects.call_expression false) ds
node_data shape.NewExpression xs ds = of_two objects.new_expression ds
node_data (shape.StaticMemberExpression optional) xs ds = of_two (objects.member_expression false optional) ds
node_data (shape.ComputedMemberExpression optional) xs ds = of_two (objects.member_expression true optional) ds
node_data (shape.PrivateFieldExpression optional) xs ds = of_two (objects.member_expression false optional) ds
node_data shape.SuperStaticMemberExpression xs ds = of_two (objects.member_expression false false) ds
node_data shape.SuperComputedMemberExpression xs ds = of_two (objects.member_expression true false) ds
node_data shape.ChainExpression xs ds = of_one objects.chain_expression ds
node_data (shape.YieldExpression delegate) xs ds = of_one (objects.yield_expression delegate) ds
node_data shape.TemplateLiteral xs ds = of_two objects.template_literal ds
node_data (shape.TemplateElement tail raw c) xs ds = objects.template_element tail (bytes_of raw) (cooked_text c)
node_data shape.TaggedTemplateExpression xs ds = of_two objects.tagged_template_expression ds
node_data (shape.MetaProperty kind) xs ds = of_two objects.meta_property ds
node_data shape.ImportExpression xs ds = of_one objects.import_expression ds
-- patterns
node_data shape.ObjectPattern xs ds = of_one objects.object_pattern ds
node_data shape.ArrayPattern xs ds = of_one objects.array_pattern ds
node_data (shape.BindingProperty shorthand computed) xs ds = of_two (objects.property Init false shorthand computed) ds
node_data shape.RestElement xs ds = of_one objects.rest_element ds
node_data shape.AssignmentPattern xs ds = of_two objects.assignment_pattern ds
node_data shape.ObjectAssignmentTarget xs ds = of_one objects.object_pattern ds
node_data shape.ArrayAssignmentTarget xs ds = of_one objects.array_pattern ds
node_data shape.AssignmentTargetPropertyIdentifier xs ds = of_two (objects.property Init false true false) ds
node_data (shape.AssignmentTargetPropertyProperty computed) xs ds = of_two (objects.property Init false false computed) ds

-- ---- whole trees

abbrev mutual
  pub tree_data : Tree → Data
  tree_data (node h xs n ts) = node_data h xs (trees_data ts)

  pub trees_data : Trees → Items
  trees_data none = no_items
  trees_data (t ▸ ts) = item (tree_data t) (trees_data ts)

-- what is written for a program
unfoldable pub program_data : Tree → Data
program_data t = tree_data t
