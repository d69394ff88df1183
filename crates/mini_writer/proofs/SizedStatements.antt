-- The plans of statements, functions, classes, imports and exports weigh little.
use Rattle.std.proofs.Common.{◌≡◌, ℕ, List, [], ◌∷◌, refl, codes, Bool, true, false, arith}
use Rattle.std.specs.Prelude.{not, if◌then◌else◌}
use Rattle.serde_json.specs.Data.{Data}
use Rattle.mini_model.specs.declared.shape.Shape.{Shape}
use Rattle.mini_model.specs.declared.shape.Shape.TheVariants as shape
use Rattle.mini_accept.specs.WellShaped as shaped
use Rattle.mini_accept.specs.WellShaped.{Class, nested, in_body}
use Rattle.mini_accept.specs.Places.{field, Place, at, a_directive}
use Rattle.mini_accept.specs.Fields.{require, is_given, flag_at, list_at}
use Rattle.mini_accept.specs.Words.{word_at, variable_kinds, method_kinds}
use Rattle.mini_accept.specs.Plans.{hole, tree_at, Child, one, node_of, child, optional, optional_inner, each}
use Rattle.mini_accept.specs.Statements as statement
use Rattle.mini_accept.specs.Functions as functions
use Rattle.mini_accept.specs.Modules as imports
use Rattle.mini_model.specs.Weight.{Outline}
use Rattle.mini_accept.specs.Functions.{directives_below}
use Rattle.mini_writer.proofs.Amounts.{are_few}
use Rattle.mini_writer.proofs.Written.{wordy}
use Rattle.mini_writer.proofs.AcceptedLists.{IsHeld, ChildAt, ChildrenAt}
use Rattle.mini_writer.proofs.Plans.{LightIf, node_light, plain, bind_light, require_light, optional_at, optional_inner_at, inner_key_at, each_item, rest_item, IsItemPart, list_is_at, list_light}
use Rattle.mini_writer.proofs.SizedBodies.{below_function, below_arrow}

module _ (d : Data) where
  -- ---- statements

  -- the parts stand at keys of their own
  of : (keys : List (List ℕ)) (h : Shape) (cs : List Child) → ChildrenAt d keys cs → are_few keys ≡ true → ((os : List Outline) → wordy h os ≡ 0) → LightIf d 0 (node_of h cs)
  of keys h cs there few bare = plain d keys h cs there few bare

  given : (key : List ℕ) (c : Class) → ChildAt d key (optional key c d)
  given key c = optional_at key c (is_given key d)

  given_inner : (key : List ℕ) (c : Class) → ChildAt d key (optional_inner key c d)
  given_inner key c = optional_inner_at key c (is_given key d)

  directive : LightIf d 0 statement.directive
  directive = of (codes "expression" ∷ []) shape.ExpressionStatement _ (refl, tt) refl (λ os. refl)

  expression : LightIf d 0 (require (not (is_given (codes "directive") d)) (node_of shape.ExpressionStatement (child (codes "expression") shaped.an_expression ∷ [])))
  expression = require_light d 0 _ _ (of (codes "expression" ∷ []) shape.ExpressionStatement _ (refl, tt) refl (λ os. refl))

  pub expression_statement : (p : Place) → LightIf d 0 (statement.expression_statement p d)
  expression_statement a_directive = directive
  expression_statement p = expression

  pub block : LightIf d 0 (statement.block d)
  block = list_light d 0 (each (shaped.a_statement nested)) (codes "body") _ (each_item (shaped.a_statement nested)) (λ c at. of (codes "body" ∷ []) shape.BlockStatement (c ∷ []) (at, tt) refl (λ os. refl))

  pub labeled : LightIf d 0 (statement.labeled d)
  labeled = of (codes "label" ∷ codes "body" ∷ []) shape.LabeledStatement _ (refl, (refl, tt)) refl (λ os. refl)

  pub break : LightIf d 0 (statement.break d)
  break = of (codes "label" ∷ []) shape.BreakStatement _ (given (codes "label") shaped.a_label, tt) refl (λ os. refl)

  pub continue : LightIf d 0 (statement.continue d)
  continue = of (codes "label" ∷ []) shape.ContinueStatement _ (given (codes "label") shaped.a_label, tt) refl (λ os. refl)

  pub return : LightIf d 0 (statement.return d)
  return = of (codes "argument" ∷ []) shape.ReturnStatement _ (given (codes "argument") shaped.an_expression, tt) refl (λ os. refl)

  pub throw : LightIf d 0 (statement.throw d)
  throw = of (codes "argument" ∷ []) shape.ThrowStatement _ (refl, tt) refl (λ os. refl)

  pub if_statement : LightIf d 0 (statement.if_statement d)
  if_statement = of (codes "test" ∷ codes "consequent" ∷ codes "alternate" ∷ []) shape.IfStatement _ (refl, (refl, (given (codes "alternate") (shaped.a_statement nested), tt))) refl (λ os. refl)

  pub switch : LightIf d 0 (statement.switch d)
  switch = list_light d 0 (each shaped.a_case) (codes "cases") _ (each_item shaped.a_case) (λ c at. of (codes "discriminant" ∷ codes "cases" ∷ []) shape.SwitchStatement (child (codes "discriminant") shaped.an_expression ∷ c ∷ []) (refl, (at, tt)) refl (λ os. refl))

  pub switch_case : LightIf d 0 (statement.switch_case d)
  switch_case = list_light d 0 (each (shaped.a_statement nested)) (codes "consequent") _ (each_item (shaped.a_statement nested)) (λ c at. of (codes "test" ∷ codes "consequent" ∷ []) shape.SwitchCase (optional (codes "test") shaped.an_expression d ∷ c ∷ []) (given (codes "test") shaped.an_expression, (at, tt)) refl (λ os. refl))

  pub try : LightIf d 0 (statement.try d)
  try = require_light d 0 _ _ (of (codes "block" ∷ codes "handler" ∷ codes "finalizer" ∷ []) shape.TryStatement _ (refl, (given (codes "handler") shaped.a_catch, (given (codes "finalizer") shaped.a_block, tt))) refl (λ os. refl))

  pub catch : LightIf d 0 (statement.catch d)
  catch = of (codes "param" ∷ codes "body" ∷ []) shape.CatchClause _ (given (codes "param") shaped.a_pattern, (refl, tt)) refl (λ os. refl)

  pub while : LightIf d 0 (statement.while d)
  while = of (codes "test" ∷ codes "body" ∷ []) shape.WhileStatement _ (refl, (refl, tt)) refl (λ os. refl)

  pub do_while : LightIf d 0 (statement.do_while d)
  do_while = of (codes "body" ∷ codes "test" ∷ []) shape.DoWhileStatement _ (refl, (refl, tt)) refl (λ os. refl)

  pub for : LightIf d 0 (statement.for d)
  for = of (codes "init" ∷ codes "test" ∷ codes "update" ∷ codes "body" ∷ []) shape.ForStatement _ (given (codes "init") shaped.an_init, (given (codes "test") shaped.an_expression, (given (codes "update") shaped.an_expression, (refl, tt)))) refl (λ os. refl)

  pub for_in : LightIf d 0 (statement.for_in d)
  for_in = of (codes "left" ∷ codes "right" ∷ codes "body" ∷ []) shape.ForInStatement _ (refl, (refl, (refl, tt))) refl (λ os. refl)

  pub for_of : LightIf d 0 (statement.for_of d)
  for_of = require_light d 0 _ _ (of (codes "left" ∷ codes "right" ∷ codes "body" ∷ []) shape.ForOfStatement _ (refl, (refl, (refl, tt))) refl (λ os. refl))

  pub variable : LightIf d 0 (statement.variable d)
  variable = bind_light d 0 (word_at variable_kinds (codes "kind") d) _ (λ k is. bind_light d 0 (list_at (codes "declarations") d) _ (λ ds e. require_light d 0 _ _
      (of (codes "declarations" ∷ []) (shape.VariableDeclaration k) _ (list_is_at d (each shaped.a_declarator) (codes "declarations") ds (each_item shaped.a_declarator) e, tt) refl (λ os. refl))))

  pub declarator : LightIf d 0 (statement.declarator d)
  declarator = of (codes "id" ∷ codes "init" ∷ []) shape.VariableDeclarator _ (refl, (given (codes "init") shaped.an_expression, tt)) refl (λ os. refl)

  -- ---- functions

  pub parameter_item : IsItemPart functions.parameter
  parameter_item = rest_item (each shaped.a_parameter) shaped.a_pattern_rest (each_item shaped.a_parameter)

  pub function : (declaration : Bool) (p : Place) → LightIf d 0 (functions.function declaration p d)
  function declaration p = bind_light d 0 (flag_at (codes "generator") d) _ (λ generator is. list_light d 0 functions.parameter (codes "params") _ parameter_item (λ c at. require_light d 0 _ _
      (node_light d (codes "id" ∷ codes "params" ∷ codes "body" ∷ []) 0 (record { shape = shape.Function declaration generator (directives_below d); names = []; children = optional (codes "id") shaped.a_binding d ∷ c ∷ child (codes "body") shaped.a_function_body ∷ [] })
      (given (codes "id") shaped.a_binding, (at, (refl, tt))) refl (λ os. omega (arith, below_function d)))))

  pub arrow : LightIf d 0 (functions.arrow d)
  arrow = bind_light d 0 (flag_at (codes "expression") d) _ (λ expression is. list_light d 0 functions.parameter (codes "params") _ parameter_item (λ c at. require_light d 0 _ _
      (node_light d (codes "params" ∷ codes "body" ∷ []) 0 (record { shape = shape.ArrowFunctionExpression (directives_below d); names = []; children = c ∷ child (codes "body") shaped.an_arrow_body ∷ [] })
      (at, (refl, tt)) refl (λ os. omega (arith, below_arrow d)))))

  -- ---- classes

  held : (b : Bool) → IsHeld (one (if b then tree_at (field (codes "id")) (at shaped.a_binding) else hole))
  held true = tt
  held false = tt

  name_held : (declaration : Bool) → IsHeld (functions.name_held declaration d)
  name_held true = held (is_given (codes "id") d)
  name_held false = tt

  pub class : (declaration : Bool) (p : Place) → LightIf d 0 (functions.class declaration p d)
  class declaration p = require_light d 0 _ _ (of (codes "id" ∷ codes "superClass" ∷ codes "body" ∷ []) (shape.Class declaration) _
      (given (codes "id") shaped.a_binding, (given_inner (codes "superClass") shaped.an_expression, (refl, name_held declaration))) refl (λ os. refl))

  pub class_body : LightIf d 0 (functions.class_body d)
  class_body = list_light d 0 (each shaped.a_class_member) (codes "body") _ (each_item shaped.a_class_member) (λ c at. of (codes "body" ∷ []) shape.ClassBody (c ∷ []) (at, tt) refl (λ os. refl))

  pub method_definition : LightIf d 0 (functions.method_definition d)
  method_definition = bind_light d 0 (word_at method_kinds (codes "kind") d) _ (λ kind x. bind_light d 0 (flag_at (codes "computed") d) _ (λ computed y. bind_light d 0 (flag_at (codes "static") d) _ (λ is_static z. require_light d 0 _ _
      (of (codes "key" ∷ codes "value" ∷ []) (shape.MethodDefinition kind computed is_static) _ (inner_key_at d computed (shaped.a_private_or_key false), (refl, tt)) refl (λ os. refl)))))

  pub property_definition : LightIf d 0 (functions.property_definition d)
  property_definition = bind_light d 0 (flag_at (codes "computed") d) _ (λ computed y. bind_light d 0 (flag_at (codes "static") d) _ (λ is_static z.
      of (codes "key" ∷ codes "value" ∷ []) (shape.PropertyDefinition computed is_static) _ (inner_key_at d computed (shaped.a_private_or_key false), (given_inner (codes "value") shaped.an_expression, tt)) refl (λ os. refl)))

  pub static_block : LightIf d 0 (functions.static_block d)
  static_block = list_light d 0 (each (shaped.a_statement in_body)) (codes "body") _ (each_item (shaped.a_statement in_body)) (λ c at. of (codes "body" ∷ []) shape.StaticBlock (c ∷ []) (at, tt) refl (λ os. refl))

  -- ---- modules

  pub import : LightIf d 0 (imports.import d)
  import = list_light d 0 (each shaped.an_import) (codes "specifiers") _ (each_item shaped.an_import) (λ c at. require_light d 0 _ _ (of (codes "specifiers" ∷ codes "source" ∷ []) shape.ImportDeclaration (c ∷ child (codes "source") shaped.a_string ∷ []) (at, (refl, tt)) refl (λ os. refl)))

  pub import_specifier : LightIf d 0 (imports.import_specifier d)
  import_specifier = of (codes "imported" ∷ codes "local" ∷ []) shape.ImportSpecifier _ (refl, (refl, tt)) refl (λ os. refl)

  pub import_default : LightIf d 0 (imports.import_default d)
  import_default = of (codes "local" ∷ []) shape.ImportDefaultSpecifier _ (refl, tt) refl (λ os. refl)

  pub import_namespace : LightIf d 0 (imports.import_namespace d)
  import_namespace = of (codes "local" ∷ []) shape.ImportNamespaceSpecifier _ (refl, tt) refl (λ os. refl)

  export_item : (own : Bool) → IsItemPart (imports.export_part own)
  export_item own last a s = refl

  pub export_named : LightIf d 0 (imports.export_named d)
  export_named = bind_light d 0 (list_at (codes "specifiers") d) _ (λ ds e. require_light d 0 _ _
      (of (codes "declaration" ∷ codes "specifiers" ∷ codes "source" ∷ []) shape.ExportNamedDeclaration _
      (given (codes "declaration") shaped.an_exported_declaration, (list_is_at d (imports.export_part (not (is_given (codes "source") d))) (codes "specifiers") ds (export_item (not (is_given (codes "source") d))) e, (given (codes "source") shaped.a_string, tt))) refl (λ os. refl)))

  pub export_specifier : (p : Place) → LightIf d 0 (imports.export_specifier p d)
  export_specifier p = of (codes "exported" ∷ codes "local" ∷ []) shape.ExportSpecifier _ (refl, (refl, tt)) refl (λ os. refl)

  pub export_default : LightIf d 0 (imports.export_default d)
  export_default = of (codes "declaration" ∷ []) shape.ExportDefaultDeclaration _ (refl, tt) refl (λ os. refl)

  pub export_all : LightIf d 0 (imports.export_all d)
  export_all = require_light d 0 _ _ (of (codes "exported" ∷ codes "source" ∷ []) shape.ExportAllDeclaration _ (given (codes "exported") shaped.a_module_name, (refl, tt)) refl (λ os. refl))
