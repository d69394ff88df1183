-- The table: how a node of each type is read (ESTree, ES5 to ES2022).
use Rattle.std.specs.Prelude.{[], true, false, Option}
use Rattle.serde_json.specs.Data.{Data}
use Rattle.mini_model.specs.declared.shape.Shape.TheVariants as shape
use Rattle.mini_accept.specs.Kind as kind
use Rattle.mini_accept.specs.Kind.{Kind}
use Rattle.mini_accept.specs.Places.{Place}
use Rattle.mini_accept.specs.Plans.{Plan, node_of}
use Rattle.mini_accept.specs.Statements as statement
use Rattle.mini_accept.specs.Functions as function
use Rattle.mini_accept.specs.Modules as imports
use Rattle.mini_accept.specs.Expressions as expression
use Rattle.mini_accept.specs.Patterns as pattern

-- nothing where the node isn't as ESTree has it
abbrev pub entry : Kind → Place → Data → Option Plan
-- statements
entry kind.Program p d = statement.program d
entry kind.ExpressionStatement p d = statement.expression_statement p d
entry kind.EmptyStatement p d = node_of shape.EmptyStatement []
entry kind.DebuggerStatement p d = node_of shape.DebuggerStatement []
entry kind.BlockStatement p d = statement.block_in p d
entry kind.LabeledStatement p d = statement.labeled d
entry kind.BreakStatement p d = statement.break d
entry kind.ContinueStatement p d = statement.continue d
entry kind.ReturnStatement p d = statement.return d
entry kind.ThrowStatement p d = statement.throw d
entry kind.IfStatement p d = statement.if_statement d
entry kind.SwitchStatement p d = statement.switch d
entry kind.SwitchCase p d = statement.switch_case d
entry kind.TryStatement p d = statement.try d
entry kind.CatchClause p d = statement.catch d
entry kind.WhileStatement p d = statement.while d
entry kind.DoWhileStatement p d = statement.do_while d
entry kind.ForStatement p d = statement.for d
entry kind.ForInStatement p d = statement.for_in d
entry kind.ForOfStatement p d = statement.for_of d
entry kind.VariableDeclaration p d = statement.variable d
entry kind.VariableDeclarator p d = statement.declarator d
-- functions and classes
entry kind.FunctionDeclaration p d = function.function true p d
entry kind.FunctionExpression p d = function.function false p d
entry kind.ArrowFunctionExpression p d = function.arrow d
entry kind.ClassDeclaration p d = function.class true p d
entry kind.ClassExpression p d = function.class false p d
entry kind.ClassBody p d = function.class_body d
entry kind.MethodDefinition p d = function.method_definition d
entry kind.PropertyDefinition p d = function.property_definition d
entry kind.StaticBlock p d = function.static_block d
-- modules
entry kind.ImportDeclaration p d = imports.import d
entry kind.ImportSpecifier p d = imports.import_specifier d
entry kind.ImportDefaultSpecifier p d = imports.import_default d
entry kind.ImportNamespaceSpecifier p d = imports.import_namespace d
entry kind.ExportNamedDeclaration p d = imports.export_named d
entry kind.ExportSpecifier p d = imports.export_specifier p d
entry kind.ExportDefaultDeclaration p d = imports.export_default d
entry kind.ExportAllDeclaration p d = imports.export_all d
-- names and literals
entry kind.Identifier p d = expression.identifier p d
entry kind.PrivateIdentifier p d = expression.private_identifier d
entry kind.Literal p d = expression.literal_plan p d
-- expressions
entry kind.ThisExpression p d = node_of shape.ThisExpression []
entry kind.Super p d = node_of shape.Super []
entry kind.ArrayExpression p d = expression.array_expression d
entry kind.ObjectExpression p d = expression.object_expression d
entry kind.Property p d = pattern.property p d
entry kind.SpreadElement p d = expression.spread p d
entry kind.UnaryExpression p d = expression.unary d
entry kind.UpdateExpression p d = expression.update d
entry kind.BinaryExpression p d = expression.binary d
entry kind.LogicalExpression p d = expression.logical d
entry kind.AssignmentExpression p d = expression.assignment d
entry kind.ConditionalExpression p d = expression.conditional d
entry kind.SequenceExpression p d = expression.sequence d
entry kind.CallExpression p d = expression.call p d
entry kind.NewExpression p d = expression.new d
entry kind.MemberExpression p d = expression.member_expression p d
entry kind.ChainExpression p d = expression.chain d
entry kind.YieldExpression p d = expression.yield d
entry kind.TemplateLiteral p d = expression.template (expression.tagging_of p) d
entry kind.TemplateElement p d = expression.quasi (expression.tagging_at p) d
entry kind.TaggedTemplateExpression p d = expression.tagged_template d
entry kind.MetaProperty p d = expression.meta_property d
entry kind.ImportExpression p d = expression.import_expression d
-- patterns
entry kind.ObjectPattern p d = pattern.object_pattern p d
entry kind.ArrayPattern p d = pattern.array_pattern p d
entry kind.RestElement p d = pattern.rest p d
entry kind.AssignmentPattern p d = pattern.default p d
