-- The table in three parts: the types whose nodes have one shape without a text, their children,
-- and the other types.
use Rattle.std.specs.Prelude.{List, [], ◌∷◌, Bool, true, false, Option, Some, None, is_some, codes}
use Rattle.serde_json.specs.Data.{Data}
use Rattle.mini_model.specs.declared.shape.Shape.{Shape}
use Rattle.mini_model.specs.declared.shape.Shape.TheVariants as shape
use Rattle.mini_accept.specs.declared.kind.Kind.{Kind}
use Rattle.mini_accept.specs.declared.kind.Kind.TheVariants as kind
use Rattle.mini_accept.specs.WellShaped as shaped
use Rattle.mini_accept.specs.WellShaped.{in_body, nested}
use Rattle.mini_accept.specs.Places.{Place}
use Rattle.mini_accept.specs.Fields.{list_at}
use Rattle.mini_accept.specs.Plans.{Plan, Child, child, inner, optional, each, or_hole, list}
use Rattle.mini_accept.specs.Statements as statement
use Rattle.mini_accept.specs.Statements.{loop_children}
use Rattle.mini_accept.specs.Functions as function
use Rattle.mini_accept.specs.Modules as imports
use Rattle.mini_accept.specs.Expressions as expression
use Rattle.mini_accept.specs.Expressions.{argument}
use Rattle.mini_accept.specs.Patterns as pattern
use Rattle.mini_plan.specs.Views.{items_at}

abbrev pub plain_shape : Kind → Option Shape
plain_shape kind.EmptyStatement = Some shape.EmptyStatement
plain_shape kind.DebuggerStatement = Some shape.DebuggerStatement
plain_shape kind.LabeledStatement = Some shape.LabeledStatement
plain_shape kind.BreakStatement = Some shape.BreakStatement
plain_shape kind.ContinueStatement = Some shape.ContinueStatement
plain_shape kind.ReturnStatement = Some shape.ReturnStatement
plain_shape kind.ThrowStatement = Some shape.ThrowStatement
plain_shape kind.IfStatement = Some shape.IfStatement
plain_shape kind.SwitchStatement = Some shape.SwitchStatement
plain_shape kind.SwitchCase = Some shape.SwitchCase
plain_shape kind.CatchClause = Some shape.CatchClause
plain_shape kind.WhileStatement = Some shape.WhileStatement
plain_shape kind.DoWhileStatement = Some shape.DoWhileStatement
plain_shape kind.ForStatement = Some shape.ForStatement
plain_shape kind.ForInStatement = Some shape.ForInStatement
plain_shape kind.VariableDeclarator = Some shape.VariableDeclarator
plain_shape kind.ClassBody = Some shape.ClassBody
plain_shape kind.StaticBlock = Some shape.StaticBlock
plain_shape kind.ImportSpecifier = Some shape.ImportSpecifier
plain_shape kind.ImportDefaultSpecifier = Some shape.ImportDefaultSpecifier
plain_shape kind.ImportNamespaceSpecifier = Some shape.ImportNamespaceSpecifier
plain_shape kind.ExportDefaultDeclaration = Some shape.ExportDefaultDeclaration
plain_shape kind.ThisExpression = Some shape.ThisExpression
plain_shape kind.Super = Some shape.Super
plain_shape kind.ArrayExpression = Some shape.ArrayExpression
plain_shape kind.ObjectExpression = Some shape.ObjectExpression
plain_shape kind.ConditionalExpression = Some shape.ConditionalExpression
plain_shape kind.NewExpression = Some shape.NewExpression
plain_shape kind.TaggedTemplateExpression = Some shape.TaggedTemplateExpression
plain_shape kind.ImportExpression = Some shape.ImportExpression
plain_shape k = None

abbrev pub plain_children : Kind → Data → List Child
plain_children kind.LabeledStatement d = child (codes "label") shaped.a_label ∷ child (codes "body") (shaped.a_statement nested) ∷ []
plain_children kind.BreakStatement d = optional (codes "label") shaped.a_label d ∷ []
plain_children kind.ContinueStatement d = optional (codes "label") shaped.a_label d ∷ []
plain_children kind.ReturnStatement d = optional (codes "argument") shaped.an_expression d ∷ []
plain_children kind.ThrowStatement d = child (codes "argument") shaped.an_expression ∷ []
plain_children kind.IfStatement d = child (codes "test") shaped.an_expression ∷ child (codes "consequent") (shaped.a_statement nested) ∷ optional (codes "alternate") (shaped.a_statement nested) d ∷ []
plain_children kind.SwitchStatement d = child (codes "discriminant") shaped.an_expression ∷ list (each shaped.a_case) (codes "cases") (items_at (codes "cases") d) ∷ []
plain_children kind.SwitchCase d = optional (codes "test") shaped.an_expression d ∷ list (each (shaped.a_statement nested)) (codes "consequent") (items_at (codes "consequent") d) ∷ []
plain_children kind.CatchClause d = optional (codes "param") shaped.a_pattern d ∷ child (codes "body") shaped.a_block ∷ []
plain_children kind.WhileStatement d = child (codes "test") shaped.an_expression ∷ child (codes "body") (shaped.a_statement nested) ∷ []
plain_children kind.DoWhileStatement d = child (codes "body") (shaped.a_statement nested) ∷ child (codes "test") shaped.an_expression ∷ []
plain_children kind.ForStatement d = optional (codes "init") shaped.an_init d ∷ optional (codes "test") shaped.an_expression d ∷ optional (codes "update") shaped.an_expression d ∷ child (codes "body") (shaped.a_statement nested) ∷ []
plain_children kind.ForInStatement d = loop_children true
plain_children kind.VariableDeclarator d = child (codes "id") shaped.a_pattern ∷ optional (codes "init") shaped.an_expression d ∷ []
plain_children kind.ClassBody d = list (each shaped.a_class_member) (codes "body") (items_at (codes "body") d) ∷ []
plain_children kind.StaticBlock d = list (each (shaped.a_statement in_body)) (codes "body") (items_at (codes "body") d) ∷ []
plain_children kind.ImportSpecifier d = child (codes "imported") shaped.a_module_name ∷ child (codes "local") shaped.a_binding ∷ []
plain_children kind.ImportDefaultSpecifier d = child (codes "local") shaped.a_binding ∷ []
plain_children kind.ImportNamespaceSpecifier d = child (codes "local") shaped.a_binding ∷ []
plain_children kind.ExportDefaultDeclaration d = child (codes "declaration") shaped.a_default_export ∷ []
plain_children kind.ArrayExpression d = list (or_hole argument) (codes "elements") (items_at (codes "elements") d) ∷ []
plain_children kind.ObjectExpression d = list (each shaped.an_object_property) (codes "properties") (items_at (codes "properties") d) ∷ []
plain_children kind.ConditionalExpression d = child (codes "test") shaped.an_expression ∷ child (codes "consequent") shaped.an_expression ∷ child (codes "alternate") shaped.an_expression ∷ []
plain_children kind.NewExpression d = child (codes "callee") shaped.an_expression ∷ list argument (codes "arguments") (items_at (codes "arguments") d) ∷ []
plain_children kind.TaggedTemplateExpression d = inner (codes "tag") shaped.an_expression ∷ child (codes "quasi") shaped.a_tagged_template ∷ []
plain_children kind.ImportExpression d = inner (codes "source") shaped.an_expression ∷ []
plain_children k d = []

abbrev pub has_its_list : Kind → Data → Bool
has_its_list kind.SwitchStatement d = is_some (list_at (codes "cases") d)
has_its_list kind.SwitchCase d = is_some (list_at (codes "consequent") d)
has_its_list kind.ClassBody d = is_some (list_at (codes "body") d)
has_its_list kind.StaticBlock d = is_some (list_at (codes "body") d)
has_its_list kind.ArrayExpression d = is_some (list_at (codes "elements") d)
has_its_list kind.ObjectExpression d = is_some (list_at (codes "properties") d)
has_its_list kind.NewExpression d = is_some (list_at (codes "arguments") d)
has_its_list k d = true

abbrev pub other_entry : Kind → Place → Data → Option Plan
other_entry kind.Program p d = statement.program d
other_entry kind.ExpressionStatement p d = statement.expression_statement p d
other_entry kind.BlockStatement p d = statement.block_in p d
other_entry kind.TryStatement p d = statement.try d
other_entry kind.ForOfStatement p d = statement.for_of d
other_entry kind.VariableDeclaration p d = statement.variable d
other_entry kind.FunctionDeclaration p d = function.function true p d
other_entry kind.FunctionExpression p d = function.function false p d
other_entry kind.ArrowFunctionExpression p d = function.arrow d
other_entry kind.ClassDeclaration p d = function.class true p d
other_entry kind.ClassExpression p d = function.class false p d
other_entry kind.MethodDefinition p d = function.method_definition d
other_entry kind.PropertyDefinition p d = function.property_definition d
other_entry kind.ImportDeclaration p d = imports.import d
other_entry kind.ExportNamedDeclaration p d = imports.export_named d
other_entry kind.ExportSpecifier p d = imports.export_specifier p d
other_entry kind.ExportAllDeclaration p d = imports.export_all d
other_entry kind.Identifier p d = expression.identifier p d
other_entry kind.PrivateIdentifier p d = expression.private_identifier d
other_entry kind.Literal p d = expression.literal_plan p d
other_entry kind.Property p d = pattern.property p d
other_entry kind.SpreadElement p d = expression.spread p d
other_entry kind.UnaryExpression p d = expression.unary d
other_entry kind.UpdateExpression p d = expression.update d
other_entry kind.BinaryExpression p d = expression.binary d
other_entry kind.LogicalExpression p d = expression.logical d
other_entry kind.AssignmentExpression p d = expression.assignment d
other_entry kind.SequenceExpression p d = expression.sequence d
other_entry kind.CallExpression p d = expression.call p d
other_entry kind.MemberExpression p d = expression.member_expression p d
other_entry kind.ChainExpression p d = expression.chain d
other_entry kind.YieldExpression p d = expression.yield d
other_entry kind.TemplateLiteral p d = expression.template (expression.tagging_of p) d
other_entry kind.TemplateElement p d = expression.quasi (expression.tagging_at p) d
other_entry kind.MetaProperty p d = expression.meta_property d
other_entry kind.ObjectPattern p d = pattern.object_pattern p d
other_entry kind.ArrayPattern p d = pattern.array_pattern p d
other_entry kind.RestElement p d = pattern.rest p d
other_entry kind.AssignmentPattern p d = pattern.default p d
other_entry k p d = None
