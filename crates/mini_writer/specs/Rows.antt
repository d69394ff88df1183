-- The table of the nodes that are written as their plain fields, and a field for each child. The
-- others have texts, or directives before what they hold.
use Rattle.std.specs.Prelude.{ℕ, List, [], ◌∷◌, codes, true, false, Bool, Option, Some, None, option_map, if◌then◌else◌}
use Rattle.serde_json.specs.Data.{Data, null, boolean, string, array, object, Items, no_items, item, Members, no_members, member, put}
use Rattle.mini_model.specs.declared.shape.Shape.{Shape}
use Rattle.mini_model.specs.declared.shape.Shape.TheVariants as shape
use Rattle.mini_writer.specs.declared.members.Key as key_type
use Rattle.mini_writer.specs.declared.members.Key.TheVariants as key
use Rattle.mini_writer.specs.Keys.{key_text}
use Rattle.mini_writer.specs.Words.{unary_word, update_word, binary_word, logical_word, assignment_word, variable_word, property_word, method_word}

abbrev pub Field : Type 0
Field = key_type.Key × Data

pub record Row : Type 0 where
  pub kind : List ℕ
  pub plain : List Field
  -- of each child
  pub keys : List key_type.Key

abbrev pub with_fields : List Field → Members → Members
with_fields [] ms = ms
with_fields (x ∷ xs) ms = with_fields xs (put (key_text x.0) x.1 ms)

-- each child with its key; nothing where there are more of one
abbrev pub zipped : List key_type.Key → Items → Option (List Field)
zipped [] no_items = Some []
zipped [] (item d ds) = None
zipped (k ∷ ks) no_items = None
zipped (k ∷ ks) (item d ds) = option_map (λ xs. (k, d) ∷ xs) (zipped ks ds)

abbrev pub row_members : Row → Members
row_members r = with_fields r.plain (member (codes "type") (string r.kind) no_members)

abbrev pub object_if : Members → Option (List Field) → Data
object_if ms None = null
object_if ms (Some xs) = object (with_fields xs ms)

abbrev pub row_data : Row → Items → Data
row_data r ds = object_if (row_members r) (zipped r.keys ds)

-- ---- plain fields that several types have

abbrev pub prefix_fields : List ℕ → Bool → List Field
prefix_fields operator prefix = (key.Operator, string operator) ∷ (key.Prefix, boolean prefix) ∷ []

abbrev pub member_fields : Bool → Bool → List Field
member_fields computed optional = (key.Computed, boolean computed) ∷ (key.Optional, boolean optional) ∷ []

abbrev pub property_fields : Bool → List ℕ → Bool → Bool → List Field
property_fields computed kind is_method shorthand = (key.Computed, boolean computed) ∷ (key.Kind, string kind) ∷ (key.Method, boolean is_method) ∷ (key.Shorthand, boolean shorthand) ∷ []

-- ---- the table

abbrev pub has_row : Shape → Bool
has_row shape.Absent = false
has_row shape.Listed = false
has_row shape.InnerExpression = false
has_row shape.FunctionBody = false
has_row shape.EmptyStatement = false
has_row shape.DebuggerStatement = false
has_row shape.ThisExpression = false
has_row shape.Super = false
has_row shape.Identifier = false
has_row shape.BindingIdentifier = false
has_row (shape.IdentifierName s) = false
has_row (shape.PrivateIdentifier s) = false
has_row (shape.NumericLiteral n) = false
has_row (shape.StringLiteral s) = false
has_row (shape.BooleanLiteral b) = false
has_row shape.NullLiteral = false
has_row (shape.RegExpLiteral pattern flags) = false
has_row (shape.BigIntLiteral n) = false
has_row (shape.TemplateElement tail raw c) = false
has_row (shape.Program is_module directives) = false
has_row (shape.Function declaration generator directives) = false
has_row (shape.ArrowFunctionExpression directives) = false
has_row (shape.Class declaration) = false
has_row h = true

abbrev pub row_kind : Shape → List ℕ
row_kind shape.ExpressionStatement = codes "ExpressionStatement"
row_kind shape.BlockStatement = codes "BlockStatement"
row_kind shape.LabeledStatement = codes "LabeledStatement"
row_kind shape.BreakStatement = codes "BreakStatement"
row_kind shape.ContinueStatement = codes "ContinueStatement"
row_kind shape.ReturnStatement = codes "ReturnStatement"
row_kind shape.ThrowStatement = codes "ThrowStatement"
row_kind shape.IfStatement = codes "IfStatement"
row_kind shape.SwitchStatement = codes "SwitchStatement"
row_kind shape.SwitchCase = codes "SwitchCase"
row_kind shape.TryStatement = codes "TryStatement"
row_kind shape.CatchClause = codes "CatchClause"
row_kind shape.WhileStatement = codes "WhileStatement"
row_kind shape.DoWhileStatement = codes "DoWhileStatement"
row_kind shape.ForStatement = codes "ForStatement"
row_kind shape.ForInStatement = codes "ForInStatement"
row_kind shape.ForOfStatement = codes "ForOfStatement"
row_kind (shape.VariableDeclaration kind) = codes "VariableDeclaration"
row_kind shape.VariableDeclarator = codes "VariableDeclarator"
row_kind shape.ClassBody = codes "ClassBody"
row_kind (shape.MethodDefinition kind computed is_static) = codes "MethodDefinition"
row_kind (shape.PropertyDefinition computed is_static) = codes "PropertyDefinition"
row_kind shape.StaticBlock = codes "StaticBlock"
row_kind shape.ImportDeclaration = codes "ImportDeclaration"
row_kind shape.ImportSpecifier = codes "ImportSpecifier"
row_kind shape.ImportDefaultSpecifier = codes "ImportDefaultSpecifier"
row_kind shape.ImportNamespaceSpecifier = codes "ImportNamespaceSpecifier"
row_kind shape.ExportNamedDeclaration = codes "ExportNamedDeclaration"
row_kind shape.ExportSpecifier = codes "ExportSpecifier"
row_kind shape.ExportDefaultDeclaration = codes "ExportDefaultDeclaration"
row_kind shape.ExportAllDeclaration = codes "ExportAllDeclaration"
row_kind shape.ArrayExpression = codes "ArrayExpression"
row_kind shape.ObjectExpression = codes "ObjectExpression"
row_kind (shape.ObjectProperty kind is_method shorthand computed) = codes "Property"
row_kind shape.SpreadElement = codes "SpreadElement"
row_kind (shape.UnaryExpression operator) = codes "UnaryExpression"
row_kind (shape.UpdateExpression operator prefix) = codes "UpdateExpression"
row_kind (shape.BinaryExpression operator) = codes "BinaryExpression"
row_kind shape.PrivateInExpression = codes "BinaryExpression"
row_kind (shape.LogicalExpression operator) = codes "LogicalExpression"
row_kind (shape.AssignmentExpression operator) = codes "AssignmentExpression"
row_kind shape.ConditionalExpression = codes "ConditionalExpression"
row_kind shape.SequenceExpression = codes "SequenceExpression"
row_kind (shape.CallExpression optional) = codes "CallExpression"
row_kind shape.SuperCallExpression = codes "CallExpression"
row_kind shape.NewExpression = codes "NewExpression"
row_kind (shape.StaticMemberExpression optional) = codes "MemberExpression"
row_kind (shape.ComputedMemberExpression optional) = codes "MemberExpression"
row_kind (shape.PrivateFieldExpression optional) = codes "MemberExpression"
row_kind shape.SuperStaticMemberExpression = codes "MemberExpression"
row_kind shape.SuperComputedMemberExpression = codes "MemberExpression"
row_kind shape.ChainExpression = codes "ChainExpression"
row_kind (shape.YieldExpression delegate) = codes "YieldExpression"
row_kind shape.TemplateLiteral = codes "TemplateLiteral"
row_kind shape.TaggedTemplateExpression = codes "TaggedTemplateExpression"
row_kind (shape.MetaProperty kind) = codes "MetaProperty"
row_kind shape.ImportExpression = codes "ImportExpression"
row_kind shape.ObjectPattern = codes "ObjectPattern"
row_kind shape.ArrayPattern = codes "ArrayPattern"
row_kind (shape.BindingProperty shorthand computed) = codes "Property"
row_kind shape.RestElement = codes "RestElement"
row_kind shape.AssignmentPattern = codes "AssignmentPattern"
row_kind shape.ObjectAssignmentTarget = codes "ObjectPattern"
row_kind shape.ArrayAssignmentTarget = codes "ArrayPattern"
row_kind shape.AssignmentTargetPropertyIdentifier = codes "Property"
row_kind (shape.AssignmentTargetPropertyProperty computed) = codes "Property"
row_kind h = []

abbrev pub row_plain : Shape → List Field
row_plain shape.ForOfStatement = (key.Await, boolean false) ∷ []
row_plain (shape.VariableDeclaration kind) = (key.Kind, string (variable_word kind)) ∷ []
row_plain (shape.MethodDefinition kind computed is_static) = (key.Computed, boolean computed) ∷ (key.Kind, string (method_word kind)) ∷ (key.Static, boolean is_static) ∷ []
row_plain (shape.PropertyDefinition computed is_static) = (key.Computed, boolean computed) ∷ (key.Static, boolean is_static) ∷ []
row_plain shape.ImportDeclaration = (key.Attributes, array no_items) ∷ []
row_plain shape.ExportNamedDeclaration = (key.Attributes, array no_items) ∷ []
row_plain shape.ExportAllDeclaration = (key.Attributes, array no_items) ∷ []
row_plain (shape.ObjectProperty kind is_method shorthand computed) = property_fields computed (property_word kind) is_method shorthand
row_plain (shape.UnaryExpression operator) = prefix_fields (unary_word operator) true
row_plain (shape.UpdateExpression operator prefix) = prefix_fields (update_word operator) prefix
row_plain (shape.BinaryExpression operator) = (key.Operator, string (binary_word operator)) ∷ []
row_plain shape.PrivateInExpression = (key.Operator, string (codes "in")) ∷ []
row_plain (shape.LogicalExpression operator) = (key.Operator, string (logical_word operator)) ∷ []
row_plain (shape.AssignmentExpression operator) = (key.Operator, string (assignment_word operator)) ∷ []
row_plain (shape.CallExpression optional) = (key.Optional, boolean optional) ∷ []
row_plain shape.SuperCallExpression = (key.Optional, boolean false) ∷ []
row_plain (shape.StaticMemberExpression optional) = member_fields false optional
row_plain (shape.ComputedMemberExpression optional) = member_fields true optional
row_plain (shape.PrivateFieldExpression optional) = member_fields false optional
row_plain shape.SuperStaticMemberExpression = member_fields false false
row_plain shape.SuperComputedMemberExpression = member_fields true false
row_plain (shape.YieldExpression delegate) = (key.Delegate, boolean delegate) ∷ []
row_plain (shape.BindingProperty shorthand computed) = property_fields computed (codes "init") false shorthand
row_plain shape.AssignmentTargetPropertyIdentifier = property_fields false (codes "init") false true
row_plain (shape.AssignmentTargetPropertyProperty computed) = property_fields computed (codes "init") false false
row_plain h = []

abbrev pub row_keys : Shape → List key_type.Key
row_keys shape.ExpressionStatement = key.Expression ∷ []
row_keys shape.BlockStatement = key.Body ∷ []
row_keys shape.LabeledStatement = key.Label ∷ key.Body ∷ []
row_keys shape.BreakStatement = key.Label ∷ []
row_keys shape.ContinueStatement = key.Label ∷ []
row_keys shape.ReturnStatement = key.Argument ∷ []
row_keys shape.ThrowStatement = key.Argument ∷ []
row_keys shape.IfStatement = key.Test ∷ key.Consequent ∷ key.Alternate ∷ []
row_keys shape.SwitchStatement = key.Discriminant ∷ key.Cases ∷ []
row_keys shape.SwitchCase = key.Test ∷ key.Consequent ∷ []
row_keys shape.TryStatement = key.Block ∷ key.Handler ∷ key.Finalizer ∷ []
row_keys shape.CatchClause = key.Param ∷ key.Body ∷ []
row_keys shape.WhileStatement = key.Test ∷ key.Body ∷ []
row_keys shape.DoWhileStatement = key.Body ∷ key.Test ∷ []
row_keys shape.ForStatement = key.Init ∷ key.Test ∷ key.Update ∷ key.Body ∷ []
row_keys shape.ForInStatement = key.Left ∷ key.Right ∷ key.Body ∷ []
row_keys shape.ForOfStatement = key.Left ∷ key.Right ∷ key.Body ∷ []
row_keys (shape.VariableDeclaration kind) = key.Declarations ∷ []
row_keys shape.VariableDeclarator = key.Id ∷ key.Init ∷ []
row_keys shape.ClassBody = key.Body ∷ []
row_keys (shape.MethodDefinition kind computed is_static) = key.Key ∷ key.Value ∷ []
row_keys (shape.PropertyDefinition computed is_static) = key.Key ∷ key.Value ∷ []
row_keys shape.StaticBlock = key.Body ∷ []
row_keys shape.ImportDeclaration = key.Specifiers ∷ key.Source ∷ []
row_keys shape.ImportSpecifier = key.Imported ∷ key.Local ∷ []
row_keys shape.ImportDefaultSpecifier = key.Local ∷ []
row_keys shape.ImportNamespaceSpecifier = key.Local ∷ []
row_keys shape.ExportNamedDeclaration = key.Declaration ∷ key.Specifiers ∷ key.Source ∷ []
row_keys shape.ExportSpecifier = key.Exported ∷ key.Local ∷ []
row_keys shape.ExportDefaultDeclaration = key.Declaration ∷ []
row_keys shape.ExportAllDeclaration = key.Exported ∷ key.Source ∷ []
row_keys shape.ArrayExpression = key.Elements ∷ []
row_keys shape.ObjectExpression = key.Properties ∷ []
row_keys (shape.ObjectProperty kind is_method shorthand computed) = key.Key ∷ key.Value ∷ []
row_keys shape.SpreadElement = key.Argument ∷ []
row_keys (shape.UnaryExpression operator) = key.Argument ∷ []
row_keys (shape.UpdateExpression operator prefix) = key.Argument ∷ []
row_keys (shape.BinaryExpression operator) = key.Left ∷ key.Right ∷ []
row_keys shape.PrivateInExpression = key.Left ∷ key.Right ∷ []
row_keys (shape.LogicalExpression operator) = key.Left ∷ key.Right ∷ []
row_keys (shape.AssignmentExpression operator) = key.Left ∷ key.Right ∷ []
row_keys shape.ConditionalExpression = key.Test ∷ key.Consequent ∷ key.Alternate ∷ []
row_keys shape.SequenceExpression = key.Expressions ∷ []
row_keys (shape.CallExpression optional) = key.Callee ∷ key.Arguments ∷ []
row_keys shape.SuperCallExpression = key.Callee ∷ key.Arguments ∷ []
row_keys shape.NewExpression = key.Callee ∷ key.Arguments ∷ []
row_keys (shape.StaticMemberExpression optional) = key.Object ∷ key.Property ∷ []
row_keys (shape.ComputedMemberExpression optional) = key.Object ∷ key.Property ∷ []
row_keys (shape.PrivateFieldExpression optional) = key.Object ∷ key.Property ∷ []
row_keys shape.SuperStaticMemberExpression = key.Object ∷ key.Property ∷ []
row_keys shape.SuperComputedMemberExpression = key.Object ∷ key.Property ∷ []
row_keys shape.ChainExpression = key.Expression ∷ []
row_keys (shape.YieldExpression delegate) = key.Argument ∷ []
row_keys shape.TemplateLiteral = key.Quasis ∷ key.Expressions ∷ []
row_keys shape.TaggedTemplateExpression = key.Tag ∷ key.Quasi ∷ []
row_keys (shape.MetaProperty kind) = key.Meta ∷ key.Property ∷ []
row_keys shape.ImportExpression = key.Source ∷ []
row_keys shape.ObjectPattern = key.Properties ∷ []
row_keys shape.ArrayPattern = key.Elements ∷ []
row_keys (shape.BindingProperty shorthand computed) = key.Key ∷ key.Value ∷ []
row_keys shape.RestElement = key.Argument ∷ []
row_keys shape.AssignmentPattern = key.Left ∷ key.Right ∷ []
row_keys shape.ObjectAssignmentTarget = key.Properties ∷ []
row_keys shape.ArrayAssignmentTarget = key.Elements ∷ []
row_keys shape.AssignmentTargetPropertyIdentifier = key.Key ∷ key.Value ∷ []
row_keys (shape.AssignmentTargetPropertyProperty computed) = key.Key ∷ key.Value ∷ []
row_keys h = []

-- the row of a shape
abbrev pub row : Shape → Option Row
row h = if has_row h then Some (record { kind = row_kind h; plain = row_plain h; keys = row_keys h }) else None
