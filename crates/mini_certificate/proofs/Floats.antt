-- A program as it is written has no float.
use Rattle.std.proofs.Common.{◌≡◌, ℕ, List, [], ◌∷◌, Bool, true, false, refl}
use Rattle.std.specs.Prelude.{Option, Some, None, ℤ, pos, negsuc}
use Rattle.serde_json.specs.Data.{Data, array, Items, no_items, item}
use Rattle.serde_json.specs.Written.{has_float, items_have_float}
use Rattle.std.proofs.lemmas.Bool.{or_parts, or_from}
use Rattle.mini_model.specs.declared.kind.PropertyKind.TheVariants.{Init}
use Rattle.mini_model.specs.declared.name.Name.{Name}
use Rattle.mini_model.specs.declared.operator.BinaryOperator.TheVariants.{In}
use Rattle.mini_model.specs.declared.shape.Shape.{Shape}
use Rattle.mini_model.specs.declared.shape.Shape.TheVariants as shape
use Rattle.mini_model.specs.Tree.{Tree, node, Trees, none, ◌▸◌}
use Rattle.mini_writer.specs.Objects as objects
use Rattle.mini_writer.specs.Written.{of_one, of_two, of_three, of_four, name_of, number_literal, with_directives, body, program_body, function, arrow, class, node_data, tree_data, trees_data, program_data}

-- over the children of a node

one_plain : (f : Data → Data) → ((a : Data) → has_float a ≡ false → has_float (f a) ≡ false) → (ds : Items) → items_have_float ds ≡ false → has_float (of_one f ds) ≡ false
one_plain f p (item a no_items) e = p a (or_parts (has_float a) false e).0
one_plain f p no_items e = refl
one_plain f p ds e = refl

two_plain : (f : Data → Data → Data) → ((a b : Data) → has_float a ≡ false → has_float b ≡ false → has_float (f a b) ≡ false) → (ds : Items) → items_have_float ds ≡ false → has_float (of_two f ds) ≡ false
two_plain f p (item a (item b no_items)) e =
    let (x, rest) = or_parts (has_float a) (items_have_float (item b no_items)) e in
    p a b x (or_parts (has_float b) false rest).0
two_plain f p no_items e = refl
two_plain f p ds e = refl

three_plain : (f : Data → Data → Data → Data) → ((a b c : Data) → has_float a ≡ false → has_float b ≡ false → has_float c ≡ false → has_float (f a b c) ≡ false) → (ds : Items) → items_have_float ds ≡ false → has_float (of_three f ds) ≡ false
three_plain f p (item a (item b (item c no_items))) e =
    let (x, rest) = or_parts (has_float a) (items_have_float (item b (item c no_items))) e in
    let (y, last) = or_parts (has_float b) (items_have_float (item c no_items)) rest in
    p a b c x y (or_parts (has_float c) false last).0
three_plain f p no_items e = refl
three_plain f p ds e = refl

four_plain : (f : Data → Data → Data → Data → Data) → ((a b c d : Data) → has_float a ≡ false → has_float b ≡ false → has_float c ≡ false → has_float d ≡ false → has_float (f a b c d) ≡ false) → (ds : Items) → items_have_float ds ≡ false → has_float (of_four f ds) ≡ false
four_plain f p (item a (item b (item c (item d no_items)))) e =
    let (x, rest) = or_parts (has_float a) (items_have_float (item b (item c (item d no_items)))) e in
    let (y, others) = or_parts (has_float b) (items_have_float (item c (item d no_items))) rest in
    let (z, last) = or_parts (has_float c) (items_have_float (item d no_items)) others in
    p a b c d x y z (or_parts (has_float d) false last).0
four_plain f p no_items e = refl
four_plain f p ds e = refl

-- what is no node below

name_plain : (xs : List Name) → has_float (name_of xs) ≡ false
name_plain [] = refl
name_plain (x ∷ xs) = refl

number_plain : (n : ℤ) → has_float (number_literal n) ≡ false
number_plain (pos n) = refl
number_plain (negsuc n) = refl

element_plain : (tail : Bool) (raw : List ℕ) (c : Option (List ℕ)) → has_float (node_data (shape.TemplateElement tail raw c) [] no_items) ≡ false
element_plain tail raw None = refl
element_plain tail raw (Some s) = refl

directives_plain : (ss : List (List ℕ)) (ds : Items) → items_have_float ds ≡ false → items_have_float (with_directives ss ds) ≡ false
directives_plain [] ds e = e
directives_plain (s ∷ ss) ds e = directives_plain ss ds e

program_body_plain : (ss : List (List ℕ)) (d : Data) → has_float d ≡ false → has_float (program_body ss d) ≡ false
program_body_plain ss (array ds) e = directives_plain ss ds e
program_body_plain ss d e = refl

body_plain : (ss : List (List ℕ)) (d : Data) → has_float d ≡ false → has_float (body ss d) ≡ false
body_plain ss (array ds) e = let q = directives_plain ss ds e in rw q refl
body_plain ss d e = e

-- a node

node_plain : (h : Shape) (xs : List Name) (ds : Items) → items_have_float ds ≡ false → has_float (node_data h xs ds) ≡ false
node_plain shape.Listed xs ds e = e
node_plain shape.InnerExpression xs ds e = one_plain (λ d. d) (λ a p. p) ds e
node_plain (shape.Program is_module directives) xs ds e = one_plain (λ d. objects.program_object is_module (program_body directives d)) (λ a p. let q = program_body_plain directives a p in rw q refl) ds e
node_plain shape.ExpressionStatement xs ds e = one_plain objects.expression_statement (λ a p. rw p refl) ds e
node_plain shape.BlockStatement xs ds e = one_plain objects.block_statement (λ a p. rw p refl) ds e
node_plain shape.LabeledStatement xs ds e = two_plain objects.labeled_statement (λ a b p q. rw (p, q) refl) ds e
node_plain shape.BreakStatement xs ds e = one_plain objects.break_statement (λ a p. rw p refl) ds e
node_plain shape.ContinueStatement xs ds e = one_plain objects.continue_statement (λ a p. rw p refl) ds e
node_plain shape.ReturnStatement xs ds e = one_plain objects.return_statement (λ a p. rw p refl) ds e
node_plain shape.ThrowStatement xs ds e = one_plain objects.throw_statement (λ a p. rw p refl) ds e
node_plain shape.IfStatement xs ds e = three_plain objects.if_statement (λ a b c p q r. rw (p, q, r) refl) ds e
node_plain shape.SwitchStatement xs ds e = two_plain objects.switch_statement (λ a b p q. rw (p, q) refl) ds e
node_plain shape.SwitchCase xs ds e = two_plain objects.switch_case (λ a b p q. rw (p, q) refl) ds e
node_plain shape.TryStatement xs ds e = three_plain objects.try_statement (λ a b c p q r. rw (p, q, r) refl) ds e
node_plain shape.CatchClause xs ds e = two_plain objects.catch_clause (λ a b p q. rw (p, q) refl) ds e
node_plain shape.WhileStatement xs ds e = two_plain objects.while_statement (λ a b p q. rw (p, q) refl) ds e
node_plain shape.DoWhileStatement xs ds e = two_plain objects.do_while_statement (λ a b p q. rw (p, q) refl) ds e
node_plain shape.ForStatement xs ds e = four_plain objects.for_statement (λ a b c d p q r s. rw (p, q, r, s) refl) ds e
node_plain shape.ForInStatement xs ds e = three_plain objects.for_in_statement (λ a b c p q r. rw (p, q, r) refl) ds e
node_plain shape.ForOfStatement xs ds e = three_plain objects.for_of_statement (λ a b c p q r. rw (p, q, r) refl) ds e
node_plain (shape.VariableDeclaration kind) xs ds e = one_plain (objects.variable_declaration kind) (λ a p. rw p refl) ds e
node_plain shape.VariableDeclarator xs ds e = two_plain objects.variable_declarator (λ a b p q. rw (p, q) refl) ds e
node_plain (shape.Function declaration generator directives) xs ds e = three_plain (function declaration generator directives) (λ a b c p q r. let s = body_plain directives c r in rw (p, q, s) refl) ds e
node_plain (shape.ArrowFunctionExpression directives) xs ds e = two_plain (arrow directives) (λ a b p q. let s = body_plain directives b q in rw (p, s) refl) ds e
node_plain shape.FunctionBody xs ds e = one_plain (λ d. d) (λ a p. p) ds e
node_plain (shape.Class declaration) xs ds e = four_plain (class declaration) (λ a b c d p q r s. rw (p, q, r) refl) ds e
node_plain shape.ClassBody xs ds e = one_plain objects.class_body (λ a p. rw p refl) ds e
node_plain (shape.MethodDefinition kind computed is_static) xs ds e = two_plain (objects.method_definition kind computed is_static) (λ a b p q. rw (p, q) refl) ds e
node_plain (shape.PropertyDefinition computed is_static) xs ds e = two_plain (objects.property_definition computed is_static) (λ a b p q. rw (p, q) refl) ds e
node_plain shape.StaticBlock xs ds e = one_plain objects.static_block (λ a p. rw p refl) ds e
node_plain shape.ImportDeclaration xs ds e = two_plain objects.import_declaration (λ a b p q. rw (p, q) refl) ds e
node_plain shape.ImportSpecifier xs ds e = two_plain objects.import_specifier (λ a b p q. rw (p, q) refl) ds e
node_plain shape.ImportDefaultSpecifier xs ds e = one_plain objects.import_default_specifier (λ a p. rw p refl) ds e
node_plain shape.ImportNamespaceSpecifier xs ds e = one_plain objects.import_namespace_specifier (λ a p. rw p refl) ds e
node_plain shape.ExportNamedDeclaration xs ds e = three_plain objects.export_named_declaration (λ a b c p q r. rw (p, q, r) refl) ds e
node_plain shape.ExportSpecifier xs ds e = two_plain objects.export_specifier (λ a b p q. rw (p, q) refl) ds e
node_plain shape.ExportDefaultDeclaration xs ds e = one_plain objects.export_default_declaration (λ a p. rw p refl) ds e
node_plain shape.ExportAllDeclaration xs ds e = two_plain objects.export_all_declaration (λ a b p q. rw (p, q) refl) ds e
node_plain shape.Identifier xs ds e = name_plain xs
node_plain shape.BindingIdentifier xs ds e = name_plain xs
node_plain (shape.NumericLiteral n) xs ds e = number_plain n
node_plain shape.ArrayExpression xs ds e = one_plain objects.array_expression (λ a p. rw p refl) ds e
node_plain shape.ObjectExpression xs ds e = one_plain objects.object_expression (λ a p. rw p refl) ds e
node_plain (shape.ObjectProperty kind is_method shorthand computed) xs ds e = two_plain (objects.property kind is_method shorthand computed) (λ a b p q. rw (p, q) refl) ds e
node_plain shape.SpreadElement xs ds e = one_plain objects.spread_element (λ a p. rw p refl) ds e
node_plain (shape.UnaryExpression operator) xs ds e = one_plain (objects.unary_expression operator) (λ a p. rw p refl) ds e
node_plain (shape.UpdateExpression operator prefix) xs ds e = one_plain (objects.update_expression operator prefix) (λ a p. rw p refl) ds e
node_plain (shape.BinaryExpression operator) xs ds e = two_plain (objects.binary_expression operator) (λ a b p q. rw (p, q) refl) ds e
node_plain shape.PrivateInExpression xs ds e = two_plain (objects.binary_expression In) (λ a b p q. rw (p, q) refl) ds e
node_plain (shape.LogicalExpression operator) xs ds e = two_plain (objects.logical_expression operator) (λ a b p q. rw (p, q) refl) ds e
node_plain (shape.AssignmentExpression operator) xs ds e = two_plain (objects.assignment_expression operator) (λ a b p q. rw (p, q) refl) ds e
node_plain shape.ConditionalExpression xs ds e = three_plain objects.conditional_expression (λ a b c p q r. rw (p, q, r) refl) ds e
node_plain shape.SequenceExpression xs ds e = one_plain objects.sequence_expression (λ a p. rw p refl) ds e
node_plain (shape.CallExpression optional) xs ds e = two_plain (objects.call_expression optional) (λ a b p q. rw (p, q) refl) ds e
node_plain shape.SuperCallExpression xs ds e = two_plain (objects.call_expression false) (λ a b p q. rw (p, q) refl) ds e
node_plain shape.NewExpression xs ds e = two_plain objects.new_expression (λ a b p q. rw (p, q) refl) ds e
node_plain (shape.StaticMemberExpression optional) xs ds e = two_plain (objects.member_expression false optional) (λ a b p q. rw (p, q) refl) ds e
node_plain (shape.ComputedMemberExpression optional) xs ds e = two_plain (objects.member_expression true optional) (λ a b p q. rw (p, q) refl) ds e
node_plain (shape.PrivateFieldExpression optional) xs ds e = two_plain (objects.member_expression false optional) (λ a b p q. rw (p, q) refl) ds e
node_plain shape.SuperStaticMemberExpression xs ds e = two_plain (objects.member_expression false false) (λ a b p q. rw (p, q) refl) ds e
node_plain shape.SuperComputedMemberExpression xs ds e = two_plain (objects.member_expression true false) (λ a b p q. rw (p, q) refl) ds e
node_plain shape.ChainExpression xs ds e = one_plain objects.chain_expression (λ a p. rw p refl) ds e
node_plain (shape.YieldExpression delegate) xs ds e = one_plain (objects.yield_expression delegate) (λ a p. rw p refl) ds e
node_plain shape.TemplateLiteral xs ds e = two_plain objects.template_literal (λ a b p q. rw (p, q) refl) ds e
node_plain (shape.TemplateElement tail raw c) xs ds e = element_plain tail raw c
node_plain shape.TaggedTemplateExpression xs ds e = two_plain objects.tagged_template_expression (λ a b p q. rw (p, q) refl) ds e
node_plain (shape.MetaProperty kind) xs ds e = two_plain objects.meta_property (λ a b p q. rw (p, q) refl) ds e
node_plain shape.ImportExpression xs ds e = one_plain objects.import_expression (λ a p. rw p refl) ds e
node_plain shape.ObjectPattern xs ds e = one_plain objects.object_pattern (λ a p. rw p refl) ds e
node_plain shape.ArrayPattern xs ds e = one_plain objects.array_pattern (λ a p. rw p refl) ds e
node_plain (shape.BindingProperty shorthand computed) xs ds e = two_plain (objects.property Init false shorthand computed) (λ a b p q. rw (p, q) refl) ds e
node_plain shape.RestElement xs ds e = one_plain objects.rest_element (λ a p. rw p refl) ds e
node_plain shape.AssignmentPattern xs ds e = two_plain objects.assignment_pattern (λ a b p q. rw (p, q) refl) ds e
node_plain shape.ObjectAssignmentTarget xs ds e = one_plain objects.object_pattern (λ a p. rw p refl) ds e
node_plain shape.ArrayAssignmentTarget xs ds e = one_plain objects.array_pattern (λ a p. rw p refl) ds e
node_plain shape.AssignmentTargetPropertyIdentifier xs ds e = two_plain (objects.property Init false true false) (λ a b p q. rw (p, q) refl) ds e
node_plain (shape.AssignmentTargetPropertyProperty computed) xs ds e = two_plain (objects.property Init false false computed) (λ a b p q. rw (p, q) refl) ds e
node_plain h xs ds e = refl

mutual
  tree_plain : (t : Tree) → has_float (tree_data t) ≡ false
  tree_plain (node h xs n ts) = node_plain h xs (trees_data ts) (trees_plain ts)

  trees_plain : (ts : Trees) → items_have_float (trees_data ts) ≡ false
  trees_plain none = refl
  trees_plain (t ▸ ts) = or_from (has_float (tree_data t)) (items_have_float (trees_data ts)) (tree_plain t) (trees_plain ts)

pub program_plain : (t : Tree) → has_float (program_data t) ≡ false
unfolding program_data
program_plain t = tree_plain t
