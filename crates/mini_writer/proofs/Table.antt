-- The table of rows writes what the definition has.
use Rattle.std.proofs.Common.{◌≡◌, List, [], ◌∷◌, refl, sym, ◌∙◌, Option, Some, None}
use Rattle.std.specs.Prelude.{codes, true, false}
use Rattle.serde_json.specs.Data.{Data, null, boolean, string, array, Items, no_items, item}
use Rattle.mini_model.specs.declared.name.Name.{Name}
use Rattle.mini_model.specs.declared.shape.Shape.{Shape}
use Rattle.mini_model.specs.declared.shape.Shape.TheVariants as shape
use Rattle.mini_model.specs.declared.operator.BinaryOperator.TheVariants as BinaryOperator
use Rattle.mini_model.specs.declared.kind.PropertyKind.TheVariants as PropertyKind
use Rattle.mini_writer.specs.declared.members.Key.TheVariants as key
use Rattle.mini_writer.specs.Objects as objects
use Rattle.mini_writer.specs.Words.{unary_word, update_word, binary_word, logical_word, assignment_word, variable_word, property_word, method_word}
use Rattle.mini_writer.specs.Written.{of_one, of_two, of_three, of_four, node_data}
use Rattle.mini_writer.specs.Rows.{Row, row_data, row}
use Rattle.mini_writer.specs.Special.{special_data}

-- what a row writes, or what the definition has where there is none
abbrev by_row : Option Row → Data → Items → Data
by_row None d ds = d
by_row (Some r) d ds = row_data r ds

one_row : (r : Row) (f : Data → Data) (ds : Items) → row_data r no_items ≡ null → ((a : Data) → row_data r (item a no_items) ≡ f a) → ((a z : Data) (zs : Items) → row_data r (item a (item z zs)) ≡ null) → row_data r ds ≡ of_one f ds
one_row r f no_items h0 e m = h0
one_row r f (item a no_items) h0 e m = e a
one_row r f (item a (item z zs)) h0 e m = m a z zs

two_row : (r : Row) (f : Data → Data → Data) (ds : Items) → row_data r no_items ≡ null → ((a : Data) → row_data r (item a no_items) ≡ null) → ((a b : Data) → row_data r (item a (item b no_items)) ≡ f a b) → ((a b z : Data) (zs : Items) → row_data r (item a (item b (item z zs))) ≡ null) → row_data r ds ≡ of_two f ds
two_row r f no_items h0 h1 e m = h0
two_row r f (item a no_items) h0 h1 e m = h1 a
two_row r f (item a (item b no_items)) h0 h1 e m = e a b
two_row r f (item a (item b (item z zs))) h0 h1 e m = m a b z zs

three_row : (r : Row) (f : Data → Data → Data → Data) (ds : Items) → row_data r no_items ≡ null → ((a : Data) → row_data r (item a no_items) ≡ null) → ((a b : Data) → row_data r (item a (item b no_items)) ≡ null) → ((a b c : Data) → row_data r (item a (item b (item c no_items))) ≡ f a b c) → ((a b c z : Data) (zs : Items) → row_data r (item a (item b (item c (item z zs)))) ≡ null) → row_data r ds ≡ of_three f ds
three_row r f no_items h0 h1 h2 e m = h0
three_row r f (item a no_items) h0 h1 h2 e m = h1 a
three_row r f (item a (item b no_items)) h0 h1 h2 e m = h2 a b
three_row r f (item a (item b (item c no_items))) h0 h1 h2 e m = e a b c
three_row r f (item a (item b (item c (item z zs)))) h0 h1 h2 e m = m a b c z zs

four_row : (r : Row) (f : Data → Data → Data → Data → Data) (ds : Items) → row_data r no_items ≡ null → ((a : Data) → row_data r (item a no_items) ≡ null) → ((a b : Data) → row_data r (item a (item b no_items)) ≡ null) → ((a b c : Data) → row_data r (item a (item b (item c no_items))) ≡ null) → ((a b c d : Data) → row_data r (item a (item b (item c (item d no_items)))) ≡ f a b c d) → ((a b c d z : Data) (zs : Items) → row_data r (item a (item b (item c (item d (item z zs))))) ≡ null) → row_data r ds ≡ of_four f ds
four_row r f no_items h0 h1 h2 h3 e m = h0
four_row r f (item a no_items) h0 h1 h2 h3 e m = h1 a
four_row r f (item a (item b no_items)) h0 h1 h2 h3 e m = h2 a b
four_row r f (item a (item b (item c no_items))) h0 h1 h2 h3 e m = h3 a b c
four_row r f (item a (item b (item c (item d no_items)))) h0 h1 h2 h3 e m = e a b c d
four_row r f (item a (item b (item c (item d (item z zs))))) h0 h1 h2 h3 e m = m a b c d z zs

row_or_not : (h : Shape) (xs : List Name) (ds : Items) → by_row (row h) (node_data h xs ds) ds ≡ node_data h xs ds
row_or_not shape.ExpressionStatement xs ds = one_row (record { kind = codes "ExpressionStatement"; plain = []; keys = key.Expression ∷ [] }) objects.expression_statement ds refl (λ a. refl) (λ a z zs. refl)
row_or_not shape.BlockStatement xs ds = one_row (record { kind = codes "BlockStatement"; plain = []; keys = key.Body ∷ [] }) objects.block_statement ds refl (λ a. refl) (λ a z zs. refl)
row_or_not shape.LabeledStatement xs ds = two_row (record { kind = codes "LabeledStatement"; plain = []; keys = key.Label ∷ key.Body ∷ [] }) objects.labeled_statement ds refl (λ a. refl) (λ a b. refl) (λ a b z zs. refl)
row_or_not shape.BreakStatement xs ds = one_row (record { kind = codes "BreakStatement"; plain = []; keys = key.Label ∷ [] }) objects.break_statement ds refl (λ a. refl) (λ a z zs. refl)
row_or_not shape.ContinueStatement xs ds = one_row (record { kind = codes "ContinueStatement"; plain = []; keys = key.Label ∷ [] }) objects.continue_statement ds refl (λ a. refl) (λ a z zs. refl)
row_or_not shape.ReturnStatement xs ds = one_row (record { kind = codes "ReturnStatement"; plain = []; keys = key.Argument ∷ [] }) objects.return_statement ds refl (λ a. refl) (λ a z zs. refl)
row_or_not shape.ThrowStatement xs ds = one_row (record { kind = codes "ThrowStatement"; plain = []; keys = key.Argument ∷ [] }) objects.throw_statement ds refl (λ a. refl) (λ a z zs. refl)
row_or_not shape.IfStatement xs ds = three_row (record { kind = codes "IfStatement"; plain = []; keys = key.Test ∷ key.Consequent ∷ key.Alternate ∷ [] }) objects.if_statement ds refl (λ a. refl) (λ a b. refl) (λ a b c. refl) (λ a b c z zs. refl)
row_or_not shape.SwitchStatement xs ds = two_row (record { kind = codes "SwitchStatement"; plain = []; keys = key.Discriminant ∷ key.Cases ∷ [] }) objects.switch_statement ds refl (λ a. refl) (λ a b. refl) (λ a b z zs. refl)
row_or_not shape.SwitchCase xs ds = two_row (record { kind = codes "SwitchCase"; plain = []; keys = key.Test ∷ key.Consequent ∷ [] }) objects.switch_case ds refl (λ a. refl) (λ a b. refl) (λ a b z zs. refl)
row_or_not shape.TryStatement xs ds = three_row (record { kind = codes "TryStatement"; plain = []; keys = key.Block ∷ key.Handler ∷ key.Finalizer ∷ [] }) objects.try_statement ds refl (λ a. refl) (λ a b. refl) (λ a b c. refl) (λ a b c z zs. refl)
row_or_not shape.CatchClause xs ds = two_row (record { kind = codes "CatchClause"; plain = []; keys = key.Param ∷ key.Body ∷ [] }) objects.catch_clause ds refl (λ a. refl) (λ a b. refl) (λ a b z zs. refl)
row_or_not shape.WhileStatement xs ds = two_row (record { kind = codes "WhileStatement"; plain = []; keys = key.Test ∷ key.Body ∷ [] }) objects.while_statement ds refl (λ a. refl) (λ a b. refl) (λ a b z zs. refl)
row_or_not shape.DoWhileStatement xs ds = two_row (record { kind = codes "DoWhileStatement"; plain = []; keys = key.Body ∷ key.Test ∷ [] }) objects.do_while_statement ds refl (λ a. refl) (λ a b. refl) (λ a b z zs. refl)
row_or_not shape.ForStatement xs ds = four_row (record { kind = codes "ForStatement"; plain = []; keys = key.Init ∷ key.Test ∷ key.Update ∷ key.Body ∷ [] }) objects.for_statement ds refl (λ a. refl) (λ a b. refl) (λ a b c. refl) (λ a b c d. refl) (λ a b c d z zs. refl)
row_or_not shape.ForInStatement xs ds = three_row (record { kind = codes "ForInStatement"; plain = []; keys = key.Left ∷ key.Right ∷ key.Body ∷ [] }) objects.for_in_statement ds refl (λ a. refl) (λ a b. refl) (λ a b c. refl) (λ a b c z zs. refl)
row_or_not shape.ForOfStatement xs ds = three_row (record { kind = codes "ForOfStatement"; plain = (key.Await, boolean false) ∷ []; keys = key.Left ∷ key.Right ∷ key.Body ∷ [] }) objects.for_of_statement ds refl (λ a. refl) (λ a b. refl) (λ a b c. refl) (λ a b c z zs. refl)
row_or_not (shape.VariableDeclaration kind) xs ds = one_row (record { kind = codes "VariableDeclaration"; plain = (key.Kind, string (variable_word kind)) ∷ []; keys = key.Declarations ∷ [] }) (objects.variable_declaration kind) ds refl (λ a. refl) (λ a z zs. refl)
row_or_not shape.VariableDeclarator xs ds = two_row (record { kind = codes "VariableDeclarator"; plain = []; keys = key.Id ∷ key.Init ∷ [] }) objects.variable_declarator ds refl (λ a. refl) (λ a b. refl) (λ a b z zs. refl)
row_or_not shape.ClassBody xs ds = one_row (record { kind = codes "ClassBody"; plain = []; keys = key.Body ∷ [] }) objects.class_body ds refl (λ a. refl) (λ a z zs. refl)
row_or_not (shape.MethodDefinition kind computed is_static) xs ds = two_row (record { kind = codes "MethodDefinition"; plain = (key.Computed, boolean computed) ∷ (key.Kind, string (method_word kind)) ∷ (key.Static, boolean is_static) ∷ []; keys = key.Key ∷ key.Value ∷ [] }) (objects.method_definition kind computed is_static) ds refl (λ a. refl) (λ a b. refl) (λ a b z zs. refl)
row_or_not (shape.PropertyDefinition computed is_static) xs ds = two_row (record { kind = codes "PropertyDefinition"; plain = (key.Computed, boolean computed) ∷ (key.Static, boolean is_static) ∷ []; keys = key.Key ∷ key.Value ∷ [] }) (objects.property_definition computed is_static) ds refl (λ a. refl) (λ a b. refl) (λ a b z zs. refl)
row_or_not shape.StaticBlock xs ds = one_row (record { kind = codes "StaticBlock"; plain = []; keys = key.Body ∷ [] }) objects.static_block ds refl (λ a. refl) (λ a z zs. refl)
row_or_not shape.ImportDeclaration xs ds = two_row (record { kind = codes "ImportDeclaration"; plain = (key.Attributes, array no_items) ∷ []; keys = key.Specifiers ∷ key.Source ∷ [] }) objects.import_declaration ds refl (λ a. refl) (λ a b. refl) (λ a b z zs. refl)
row_or_not shape.ImportSpecifier xs ds = two_row (record { kind = codes "ImportSpecifier"; plain = []; keys = key.Imported ∷ key.Local ∷ [] }) objects.import_specifier ds refl (λ a. refl) (λ a b. refl) (λ a b z zs. refl)
row_or_not shape.ImportDefaultSpecifier xs ds = one_row (record { kind = codes "ImportDefaultSpecifier"; plain = []; keys = key.Local ∷ [] }) objects.import_default_specifier ds refl (λ a. refl) (λ a z zs. refl)
row_or_not shape.ImportNamespaceSpecifier xs ds = one_row (record { kind = codes "ImportNamespaceSpecifier"; plain = []; keys = key.Local ∷ [] }) objects.import_namespace_specifier ds refl (λ a. refl) (λ a z zs. refl)
row_or_not shape.ExportNamedDeclaration xs ds = three_row (record { kind = codes "ExportNamedDeclaration"; plain = (key.Attributes, array no_items) ∷ []; keys = key.Declaration ∷ key.Specifiers ∷ key.Source ∷ [] }) objects.export_named_declaration ds refl (λ a. refl) (λ a b. refl) (λ a b c. refl) (λ a b c z zs. refl)
row_or_not shape.ExportSpecifier xs ds = two_row (record { kind = codes "ExportSpecifier"; plain = []; keys = key.Exported ∷ key.Local ∷ [] }) objects.export_specifier ds refl (λ a. refl) (λ a b. refl) (λ a b z zs. refl)
row_or_not shape.ExportDefaultDeclaration xs ds = one_row (record { kind = codes "ExportDefaultDeclaration"; plain = []; keys = key.Declaration ∷ [] }) objects.export_default_declaration ds refl (λ a. refl) (λ a z zs. refl)
row_or_not shape.ExportAllDeclaration xs ds = two_row (record { kind = codes "ExportAllDeclaration"; plain = (key.Attributes, array no_items) ∷ []; keys = key.Exported ∷ key.Source ∷ [] }) objects.export_all_declaration ds refl (λ a. refl) (λ a b. refl) (λ a b z zs. refl)
row_or_not shape.ArrayExpression xs ds = one_row (record { kind = codes "ArrayExpression"; plain = []; keys = key.Elements ∷ [] }) objects.array_expression ds refl (λ a. refl) (λ a z zs. refl)
row_or_not shape.ObjectExpression xs ds = one_row (record { kind = codes "ObjectExpression"; plain = []; keys = key.Properties ∷ [] }) objects.object_expression ds refl (λ a. refl) (λ a z zs. refl)
row_or_not (shape.ObjectProperty kind is_method shorthand computed) xs ds = two_row (record { kind = codes "Property"; plain = (key.Computed, boolean computed) ∷ (key.Kind, string (property_word kind)) ∷ (key.Method, boolean is_method) ∷ (key.Shorthand, boolean shorthand) ∷ []; keys = key.Key ∷ key.Value ∷ [] }) (objects.property kind is_method shorthand computed) ds refl (λ a. refl) (λ a b. refl) (λ a b z zs. refl)
row_or_not shape.SpreadElement xs ds = one_row (record { kind = codes "SpreadElement"; plain = []; keys = key.Argument ∷ [] }) objects.spread_element ds refl (λ a. refl) (λ a z zs. refl)
row_or_not (shape.UnaryExpression operator) xs ds = one_row (record { kind = codes "UnaryExpression"; plain = (key.Operator, string (unary_word operator)) ∷ (key.Prefix, boolean true) ∷ []; keys = key.Argument ∷ [] }) (objects.unary_expression operator) ds refl (λ a. refl) (λ a z zs. refl)
row_or_not (shape.UpdateExpression operator prefix) xs ds = one_row (record { kind = codes "UpdateExpression"; plain = (key.Operator, string (update_word operator)) ∷ (key.Prefix, boolean prefix) ∷ []; keys = key.Argument ∷ [] }) (objects.update_expression operator prefix) ds refl (λ a. refl) (λ a z zs. refl)
row_or_not (shape.BinaryExpression operator) xs ds = two_row (record { kind = codes "BinaryExpression"; plain = (key.Operator, string (binary_word operator)) ∷ []; keys = key.Left ∷ key.Right ∷ [] }) (objects.binary_expression operator) ds refl (λ a. refl) (λ a b. refl) (λ a b z zs. refl)
row_or_not shape.PrivateInExpression xs ds = two_row (record { kind = codes "BinaryExpression"; plain = (key.Operator, string (codes "in")) ∷ []; keys = key.Left ∷ key.Right ∷ [] }) (objects.binary_expression BinaryOperator.In) ds refl (λ a. refl) (λ a b. refl) (λ a b z zs. refl)
row_or_not (shape.LogicalExpression operator) xs ds = two_row (record { kind = codes "LogicalExpression"; plain = (key.Operator, string (logical_word operator)) ∷ []; keys = key.Left ∷ key.Right ∷ [] }) (objects.logical_expression operator) ds refl (λ a. refl) (λ a b. refl) (λ a b z zs. refl)
row_or_not (shape.AssignmentExpression operator) xs ds = two_row (record { kind = codes "AssignmentExpression"; plain = (key.Operator, string (assignment_word operator)) ∷ []; keys = key.Left ∷ key.Right ∷ [] }) (objects.assignment_expression operator) ds refl (λ a. refl) (λ a b. refl) (λ a b z zs. refl)
row_or_not shape.ConditionalExpression xs ds = three_row (record { kind = codes "ConditionalExpression"; plain = []; keys = key.Test ∷ key.Consequent ∷ key.Alternate ∷ [] }) objects.conditional_expression ds refl (λ a. refl) (λ a b. refl) (λ a b c. refl) (λ a b c z zs. refl)
row_or_not shape.SequenceExpression xs ds = one_row (record { kind = codes "SequenceExpression"; plain = []; keys = key.Expressions ∷ [] }) objects.sequence_expression ds refl (λ a. refl) (λ a z zs. refl)
row_or_not (shape.CallExpression optional) xs ds = two_row (record { kind = codes "CallExpression"; plain = (key.Optional, boolean optional) ∷ []; keys = key.Callee ∷ key.Arguments ∷ [] }) (objects.call_expression optional) ds refl (λ a. refl) (λ a b. refl) (λ a b z zs. refl)
row_or_not shape.SuperCallExpression xs ds = two_row (record { kind = codes "CallExpression"; plain = (key.Optional, boolean false) ∷ []; keys = key.Callee ∷ key.Arguments ∷ [] }) (objects.call_expression false) ds refl (λ a. refl) (λ a b. refl) (λ a b z zs. refl)
row_or_not shape.NewExpression xs ds = two_row (record { kind = codes "NewExpression"; plain = []; keys = key.Callee ∷ key.Arguments ∷ [] }) objects.new_expression ds refl (λ a. refl) (λ a b. refl) (λ a b z zs. refl)
row_or_not (shape.StaticMemberExpression optional) xs ds = two_row (record { kind = codes "MemberExpression"; plain = (key.Computed, boolean false) ∷ (key.Optional, boolean optional) ∷ []; keys = key.Object ∷ key.Property ∷ [] }) (objects.member_expression false optional) ds refl (λ a. refl) (λ a b. refl) (λ a b z zs. refl)
row_or_not (shape.ComputedMemberExpression optional) xs ds = two_row (record { kind = codes "MemberExpression"; plain = (key.Computed, boolean true) ∷ (key.Optional, boolean optional) ∷ []; keys = key.Object ∷ key.Property ∷ [] }) (objects.member_expression true optional) ds refl (λ a. refl) (λ a b. refl) (λ a b z zs. refl)
row_or_not (shape.PrivateFieldExpression optional) xs ds = two_row (record { kind = codes "MemberExpression"; plain = (key.Computed, boolean false) ∷ (key.Optional, boolean optional) ∷ []; keys = key.Object ∷ key.Property ∷ [] }) (objects.member_expression false optional) ds refl (λ a. refl) (λ a b. refl) (λ a b z zs. refl)
row_or_not shape.SuperStaticMemberExpression xs ds = two_row (record { kind = codes "MemberExpression"; plain = (key.Computed, boolean false) ∷ (key.Optional, boolean false) ∷ []; keys = key.Object ∷ key.Property ∷ [] }) (objects.member_expression false false) ds refl (λ a. refl) (λ a b. refl) (λ a b z zs. refl)
row_or_not shape.SuperComputedMemberExpression xs ds = two_row (record { kind = codes "MemberExpression"; plain = (key.Computed, boolean true) ∷ (key.Optional, boolean false) ∷ []; keys = key.Object ∷ key.Property ∷ [] }) (objects.member_expression true false) ds refl (λ a. refl) (λ a b. refl) (λ a b z zs. refl)
row_or_not shape.ChainExpression xs ds = one_row (record { kind = codes "ChainExpression"; plain = []; keys = key.Expression ∷ [] }) objects.chain_expression ds refl (λ a. refl) (λ a z zs. refl)
row_or_not (shape.YieldExpression delegate) xs ds = one_row (record { kind = codes "YieldExpression"; plain = (key.Delegate, boolean delegate) ∷ []; keys = key.Argument ∷ [] }) (objects.yield_expression delegate) ds refl (λ a. refl) (λ a z zs. refl)
row_or_not shape.TemplateLiteral xs ds = two_row (record { kind = codes "TemplateLiteral"; plain = []; keys = key.Quasis ∷ key.Expressions ∷ [] }) objects.template_literal ds refl (λ a. refl) (λ a b. refl) (λ a b z zs. refl)
row_or_not shape.TaggedTemplateExpression xs ds = two_row (record { kind = codes "TaggedTemplateExpression"; plain = []; keys = key.Tag ∷ key.Quasi ∷ [] }) objects.tagged_template_expression ds refl (λ a. refl) (λ a b. refl) (λ a b z zs. refl)
row_or_not (shape.MetaProperty kind) xs ds = two_row (record { kind = codes "MetaProperty"; plain = []; keys = key.Meta ∷ key.Property ∷ [] }) objects.meta_property ds refl (λ a. refl) (λ a b. refl) (λ a b z zs. refl)
row_or_not shape.ImportExpression xs ds = one_row (record { kind = codes "ImportExpression"; plain = []; keys = key.Source ∷ [] }) objects.import_expression ds refl (λ a. refl) (λ a z zs. refl)
row_or_not shape.ObjectPattern xs ds = one_row (record { kind = codes "ObjectPattern"; plain = []; keys = key.Properties ∷ [] }) objects.object_pattern ds refl (λ a. refl) (λ a z zs. refl)
row_or_not shape.ArrayPattern xs ds = one_row (record { kind = codes "ArrayPattern"; plain = []; keys = key.Elements ∷ [] }) objects.array_pattern ds refl (λ a. refl) (λ a z zs. refl)
row_or_not (shape.BindingProperty shorthand computed) xs ds = two_row (record { kind = codes "Property"; plain = (key.Computed, boolean computed) ∷ (key.Kind, string (codes "init")) ∷ (key.Method, boolean false) ∷ (key.Shorthand, boolean shorthand) ∷ []; keys = key.Key ∷ key.Value ∷ [] }) (objects.property PropertyKind.Init false shorthand computed) ds refl (λ a. refl) (λ a b. refl) (λ a b z zs. refl)
row_or_not shape.RestElement xs ds = one_row (record { kind = codes "RestElement"; plain = []; keys = key.Argument ∷ [] }) objects.rest_element ds refl (λ a. refl) (λ a z zs. refl)
row_or_not shape.AssignmentPattern xs ds = two_row (record { kind = codes "AssignmentPattern"; plain = []; keys = key.Left ∷ key.Right ∷ [] }) objects.assignment_pattern ds refl (λ a. refl) (λ a b. refl) (λ a b z zs. refl)
row_or_not shape.ObjectAssignmentTarget xs ds = one_row (record { kind = codes "ObjectPattern"; plain = []; keys = key.Properties ∷ [] }) objects.object_pattern ds refl (λ a. refl) (λ a z zs. refl)
row_or_not shape.ArrayAssignmentTarget xs ds = one_row (record { kind = codes "ArrayPattern"; plain = []; keys = key.Elements ∷ [] }) objects.array_pattern ds refl (λ a. refl) (λ a z zs. refl)
row_or_not shape.AssignmentTargetPropertyIdentifier xs ds = two_row (record { kind = codes "Property"; plain = (key.Computed, boolean false) ∷ (key.Kind, string (codes "init")) ∷ (key.Method, boolean false) ∷ (key.Shorthand, boolean true) ∷ []; keys = key.Key ∷ key.Value ∷ [] }) (objects.property PropertyKind.Init false true false) ds refl (λ a. refl) (λ a b. refl) (λ a b z zs. refl)
row_or_not (shape.AssignmentTargetPropertyProperty computed) xs ds = two_row (record { kind = codes "Property"; plain = (key.Computed, boolean computed) ∷ (key.Kind, string (codes "init")) ∷ (key.Method, boolean false) ∷ (key.Shorthand, boolean false) ∷ []; keys = key.Key ∷ key.Value ∷ [] }) (objects.property PropertyKind.Init false false computed) ds refl (λ a. refl) (λ a b. refl) (λ a b z zs. refl)
row_or_not h xs ds = refl

by_some : (o : Option Row) (r : Row) (d : Data) (ds : Items) → o ≡ Some r → by_row o d ds ≡ row_data r ds
by_some o r d ds e = rw e refl

pub row_written : (h : Shape) (xs : List Name) (ds : Items) (r : Row) → row h ≡ Some r → row_data r ds ≡ node_data h xs ds
row_written h xs ds r e = sym (by_some (row h) r (node_data h xs ds) ds e) ∙ row_or_not h xs ds

-- what has no row is special
pub special_written : (h : Shape) (xs : List Name) (ds : Items) → row h ≡ None → special_data h xs ds ≡ node_data h xs ds
special_written shape.Absent xs ds e = refl
special_written shape.Listed xs ds e = refl
special_written shape.InnerExpression xs ds e = refl
special_written shape.FunctionBody xs ds e = refl
special_written shape.EmptyStatement xs ds e = refl
special_written shape.DebuggerStatement xs ds e = refl
special_written shape.ThisExpression xs ds e = refl
special_written shape.Super xs ds e = refl
special_written shape.Identifier xs ds e = refl
special_written shape.BindingIdentifier xs ds e = refl
special_written (shape.IdentifierName s) xs ds e = refl
special_written (shape.PrivateIdentifier s) xs ds e = refl
special_written (shape.NumericLiteral n) xs ds e = refl
special_written (shape.StringLiteral s) xs ds e = refl
special_written (shape.BooleanLiteral b) xs ds e = refl
special_written shape.NullLiteral xs ds e = refl
special_written (shape.RegExpLiteral pattern flags) xs ds e = refl
special_written (shape.BigIntLiteral n) xs ds e = refl
special_written (shape.TemplateElement tail raw c) xs ds e = refl
special_written (shape.Program is_module directives) xs ds e = refl
special_written (shape.Function declaration generator directives) xs ds e = refl
special_written (shape.ArrowFunctionExpression directives) xs ds e = refl
special_written (shape.Class declaration) xs ds e = refl
special_written h xs ds e = absurd (cc e)
