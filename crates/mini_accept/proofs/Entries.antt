-- The plan of each type of node gives a tree that is known, wherever the type may stand.
use Rattle.std.proofs.Common.{◌≡◌, ℕ, List, refl, ap, sym, ◌∙◌, Bool, true, false, ◌&&◌, ◌||◌}
use Rattle.std.specs.Prelude.{Option, codes, if◌then◌else◌}
use Rattle.std.proofs.lemmas.Bool.{and_parts, false≢true}
use Rattle.serde_json.specs.Data.{Data}
use Rattle.mini_accept.specs.WellShaped as shaped
use Rattle.mini_accept.specs.WellShaped.{Depth, in_module}
use Rattle.mini_accept.specs.Kind as kind
use Rattle.mini_accept.specs.Kind.{Kind}
use Rattle.mini_accept.specs.Places.{Place, at, a_directive, a_quasi, an_exported}
use Rattle.mini_accept.specs.Fields.{has_type, is_one_of}
use Rattle.mini_accept.specs.Standing.{is_head, is_pattern, is_member_target, is_unread, may_stand}
use Rattle.mini_accept.specs.Plans.{Plan}
use Rattle.mini_accept.specs.Entries.{entry}
use Rattle.mini_accept.specs.Statements as statement
use Rattle.mini_accept.specs.Functions as function
use Rattle.mini_accept.specs.Modules as imports
use Rattle.mini_accept.specs.Expressions as expression
use Rattle.mini_accept.proofs.Gathered.{WholeIf}
use Rattle.mini_accept.proofs.Types.{Typed, typed_has, type_name, types_at, is_expression_place, plain_types, plain_there}
use Rattle.mini_accept.proofs.Wholes.{Aside, aside, is_aside, whole_there}
use Rattle.mini_accept.proofs.Plains as plains
use Rattle.mini_accept.proofs.Statements as statements
use Rattle.mini_accept.proofs.Statements.{plain_statement_types, statement_there}
use Rattle.mini_accept.proofs.Declarations as declarations
use Rattle.mini_accept.proofs.Identifiers as identifiers
use Rattle.mini_accept.proofs.Literals as literals
use Rattle.mini_accept.proofs.Marks as marks
use Rattle.mini_accept.proofs.Pieces as pieces
use Rattle.mini_accept.proofs.Patterns as patterns

-- ---- types that stand in places of one class

module _ (strict : Bool) (d : Data) where
  program : (p : Place) → is_one_of (types_at p) (codes "Program") ≡ true → WholeIf strict p d (statement.program d)
  program (at shaped.a_program) e = statements.program strict d
  program (at (shaped.a_statement in_module)) e = absurd (false≢true e)
  program (at (shaped.a_key true)) e = absurd (false≢true e)
  program p e = absurd (false≢true e)

  switch_case : (p : Place) → is_one_of (types_at p) (codes "SwitchCase") ≡ true → WholeIf strict p d (statement.switch_case d)
  switch_case (at shaped.a_case) e = statements.switch_case strict d
  switch_case (at (shaped.a_statement in_module)) e = absurd (false≢true e)
  switch_case (at (shaped.a_key true)) e = absurd (false≢true e)
  switch_case p e = absurd (false≢true e)

  catch : (p : Place) → is_one_of (types_at p) (codes "CatchClause") ≡ true → WholeIf strict p d (statement.catch d)
  catch (at shaped.a_catch) e = statements.catch strict d
  catch (at (shaped.a_statement in_module)) e = absurd (false≢true e)
  catch (at (shaped.a_key true)) e = absurd (false≢true e)
  catch p e = absurd (false≢true e)

  declarator : (p : Place) → is_one_of (types_at p) (codes "VariableDeclarator") ≡ true → WholeIf strict p d (statement.declarator d)
  declarator (at shaped.a_declarator) e = statements.declarator strict d
  declarator (at (shaped.a_statement in_module)) e = absurd (false≢true e)
  declarator (at (shaped.a_key true)) e = absurd (false≢true e)
  declarator p e = absurd (false≢true e)

  class_body : (p : Place) → is_one_of (types_at p) (codes "ClassBody") ≡ true → WholeIf strict p d (function.class_body d)
  class_body (at shaped.a_class_body) e = declarations.class_body strict d
  class_body (at (shaped.a_statement in_module)) e = absurd (false≢true e)
  class_body (at (shaped.a_key true)) e = absurd (false≢true e)
  class_body p e = absurd (false≢true e)

  method_definition : (p : Place) → is_one_of (types_at p) (codes "MethodDefinition") ≡ true → WholeIf strict p d (function.method_definition d)
  method_definition (at shaped.a_class_member) e = declarations.method_definition strict d
  method_definition (at (shaped.a_statement in_module)) e = absurd (false≢true e)
  method_definition (at (shaped.a_key true)) e = absurd (false≢true e)
  method_definition p e = absurd (false≢true e)

  property_definition : (p : Place) → is_one_of (types_at p) (codes "PropertyDefinition") ≡ true → WholeIf strict p d (function.property_definition d)
  property_definition (at shaped.a_class_member) e = declarations.property_definition strict d
  property_definition (at (shaped.a_statement in_module)) e = absurd (false≢true e)
  property_definition (at (shaped.a_key true)) e = absurd (false≢true e)
  property_definition p e = absurd (false≢true e)

  static_block : (p : Place) → is_one_of (types_at p) (codes "StaticBlock") ≡ true → WholeIf strict p d (function.static_block d)
  static_block (at shaped.a_class_member) e = declarations.static_block strict d
  static_block (at (shaped.a_statement in_module)) e = absurd (false≢true e)
  static_block (at (shaped.a_key true)) e = absurd (false≢true e)
  static_block p e = absurd (false≢true e)

  import_specifier : (p : Place) → is_one_of (types_at p) (codes "ImportSpecifier") ≡ true → WholeIf strict p d (imports.import_specifier d)
  import_specifier (at shaped.an_import) e = declarations.import_specifier strict d
  import_specifier (at (shaped.a_statement in_module)) e = absurd (false≢true e)
  import_specifier (at (shaped.a_key true)) e = absurd (false≢true e)
  import_specifier p e = absurd (false≢true e)

  import_default : (p : Place) → is_one_of (types_at p) (codes "ImportDefaultSpecifier") ≡ true → WholeIf strict p d (imports.import_default d)
  import_default (at shaped.an_import) e = declarations.import_default strict d
  import_default (at (shaped.a_statement in_module)) e = absurd (false≢true e)
  import_default (at (shaped.a_key true)) e = absurd (false≢true e)
  import_default p e = absurd (false≢true e)

  import_namespace : (p : Place) → is_one_of (types_at p) (codes "ImportNamespaceSpecifier") ≡ true → WholeIf strict p d (imports.import_namespace d)
  import_namespace (at shaped.an_import) e = declarations.import_namespace strict d
  import_namespace (at (shaped.a_statement in_module)) e = absurd (false≢true e)
  import_namespace (at (shaped.a_key true)) e = absurd (false≢true e)
  import_namespace p e = absurd (false≢true e)

  import : (p : Place) → is_one_of (types_at p) (codes "ImportDeclaration") ≡ true → WholeIf strict p d (imports.import d)
  import (at (shaped.a_statement in_module)) e = declarations.import strict d
  import (at (shaped.a_key true)) e = absurd (false≢true e)
  import p e = absurd (false≢true e)

  export_named : (p : Place) → is_one_of (types_at p) (codes "ExportNamedDeclaration") ≡ true → WholeIf strict p d (imports.export_named d)
  export_named (at (shaped.a_statement in_module)) e = declarations.export_named strict d
  export_named (at (shaped.a_key true)) e = absurd (false≢true e)
  export_named p e = absurd (false≢true e)

  export_default : (p : Place) → is_one_of (types_at p) (codes "ExportDefaultDeclaration") ≡ true → WholeIf strict p d (imports.export_default d)
  export_default (at (shaped.a_statement in_module)) e = declarations.export_default strict d
  export_default (at (shaped.a_key true)) e = absurd (false≢true e)
  export_default p e = absurd (false≢true e)

  export_all : (p : Place) → is_one_of (types_at p) (codes "ExportAllDeclaration") ≡ true → WholeIf strict p d (imports.export_all d)
  export_all (at (shaped.a_statement in_module)) e = declarations.export_all strict d
  export_all (at (shaped.a_key true)) e = absurd (false≢true e)
  export_all p e = absurd (false≢true e)

  export_specifier : (p : Place) → is_one_of (types_at p) (codes "ExportSpecifier") ≡ true → WholeIf strict p d (imports.export_specifier p d)
  export_specifier (an_exported own) e = declarations.export_specifier strict d own
  export_specifier (at (shaped.a_statement in_module)) e = absurd (false≢true e)
  export_specifier (at (shaped.a_key true)) e = absurd (false≢true e)
  export_specifier p e = absurd (false≢true e)

  quasi : (p : Place) → is_one_of (types_at p) (codes "TemplateElement") ≡ true → may_stand p d ≡ true → WholeIf strict p d (expression.quasi (expression.tagging_at p) d)
  quasi (a_quasi g last) e stands = pieces.quasi strict g last d stands
  quasi (at (shaped.a_statement in_module)) e stands = absurd (false≢true e)
  quasi (at (shaped.a_key true)) e stands = absurd (false≢true e)
  quasi p e stands = absurd (false≢true e)

  -- ---- statements

  statement_whole : (p : Place) (s : List ℕ) (o : Option Plan) → is_one_of plain_statement_types s ≡ true → is_one_of (types_at p) s ≡ true → ((depth : Depth) → WholeIf strict (at (shaped.a_statement depth)) d o) → WholeIf strict p d o
  statement_whole p s o plain there f =
      let (depth, e) = statement_there p s plain there in
      whole_there strict p (at (shaped.a_statement depth)) d o e (f depth)

  expression_statement : (p : Place) → is_one_of (types_at p) (codes "ExpressionStatement") ≡ true → WholeIf strict p d (statement.expression_statement p d)
  expression_statement a_directive e = statements.directive strict d
  expression_statement (at (shaped.a_statement depth)) e = statements.expression_statement strict depth d
  expression_statement (at (shaped.a_key true)) e = absurd (false≢true e)
  expression_statement p e = absurd (false≢true e)

  block : (p : Place) → is_one_of (types_at p) (codes "BlockStatement") ≡ true → WholeIf strict p d (statement.block_in p d)
  block (at (shaped.a_statement depth)) e = statements.block strict depth d
  block (at shaped.a_block) e = statements.bare_block strict d
  block (at shaped.a_function_body) e = statements.function_body strict d
  block (at shaped.an_arrow_body) e = statements.arrow_body strict d
  block (at (shaped.a_key true)) e = absurd (false≢true e)
  block p e = absurd (false≢true e)

  -- ---- declarations

  head_there : (enumerates : Bool) → has_type (codes "VariableDeclaration") d ≡ true → may_stand (at (shaped.a_loop_left enumerates)) d ≡ true → is_head enumerates d ≡ true
  head_there enumerates typed stands = sym (ap (λ b. if b then is_head enumerates d else is_pattern d || is_member_target d) typed) ∙ stands

  variable : (p : Place) → has_type (codes "VariableDeclaration") d ≡ true → is_one_of (types_at p) (codes "VariableDeclaration") ≡ true → may_stand p d ≡ true → WholeIf strict p d (statement.variable d)
  variable (at (shaped.a_statement depth)) typed e stands = statements.variable_statement strict d depth
  variable (at shaped.an_init) typed e stands = statements.variable_init strict d
  variable (at (shaped.a_loop_left enumerates)) typed e stands = statements.loop_variable strict d enumerates (head_there enumerates typed stands)
  variable (at shaped.an_exported_declaration) typed e stands = statements.exported_variable strict d
  variable (at (shaped.a_key true)) typed e stands = absurd (false≢true e)
  variable p typed e stands = absurd (false≢true e)

  function_declaration : (p : Place) → has_type (codes "FunctionDeclaration") d ≡ true → is_one_of (types_at p) (codes "FunctionDeclaration") ≡ true → is_unread strict p d ≡ false → WholeIf strict p d (function.function true p d)
  function_declaration (at (shaped.a_statement depth)) typed e read = declarations.function_statement strict d depth typed read
  function_declaration (at shaped.an_exported_declaration) typed e read = declarations.exported_function strict d
  function_declaration (at shaped.a_default_export) typed e read = declarations.default_function strict d
  function_declaration (at (shaped.a_key true)) typed e read = absurd (false≢true e)
  function_declaration p typed e read = absurd (false≢true e)

  class_declaration : (p : Place) → is_one_of (types_at p) (codes "ClassDeclaration") ≡ true → WholeIf strict p d (function.class true p d)
  class_declaration (at (shaped.a_statement depth)) e = declarations.class_statement strict d depth
  class_declaration (at shaped.an_exported_declaration) e = declarations.exported_class strict d
  class_declaration (at shaped.a_default_export) e = declarations.default_class strict d
  class_declaration (at (shaped.a_key true)) e = absurd (false≢true e)
  class_declaration p e = absurd (false≢true e)

  -- ---- expressions

  -- a function is an expression, but where it is a method's value
  function_there : (p : Place) → is_one_of (types_at p) (codes "FunctionExpression") ≡ true → (p ≡ at shaped.a_method → ⊥) → is_expression_place p ≡ true
  function_there (at shaped.a_method) e m = absurd (m refl)
  function_there (at (shaped.a_statement in_module)) e m = absurd (false≢true e)
  function_there (at (shaped.a_key true)) e m = refl
  function_there p e m = e

  function_expression : (p : Place) → Aside d → is_one_of (types_at p) (codes "FunctionExpression") ≡ true → may_stand p d ≡ true → WholeIf strict p d (function.function false p d)
  function_expression (at shaped.a_method) a e stands = declarations.method_value strict d stands
  function_expression p a e stands = plains.function_expression strict p d (function_there p e (λ m. cc)) a

  expression_whole : (p : Place) (s : List ℕ) (o : Option Plan) → Typed d s → (is_one_of plain_types s && is_aside s) ≡ true → is_one_of (types_at p) s ≡ true → (is_expression_place p ≡ true → Aside d → WholeIf strict p d o) → WholeIf strict p d o
  expression_whole p s o typed plain there f =
      let (is, beside) = and_parts (is_one_of plain_types s) (is_aside s) plain in
      f (plain_there p s is there) (aside d s typed beside)

-- ---- all types

pub entry_whole : (strict : Bool) (p : Place) (d : Data) (k : Kind) → Typed d (type_name k) → is_one_of (types_at p) (type_name k) ≡ true → may_stand p d ≡ true → is_unread strict p d ≡ false → WholeIf strict p d (entry k p d)
entry_whole strict p d kind.Program typed there stands read = program strict d p there
entry_whole strict p d kind.ExpressionStatement typed there stands read = expression_statement strict d p there
entry_whole strict p d kind.BlockStatement typed there stands read = block strict d p there
entry_whole strict p d kind.EmptyStatement typed there stands read = statement_whole strict d p (codes "EmptyStatement") (entry kind.EmptyStatement p d) refl there (λ depth. statements.empty strict depth d)
entry_whole strict p d kind.DebuggerStatement typed there stands read = statement_whole strict d p (codes "DebuggerStatement") (entry kind.DebuggerStatement p d) refl there (λ depth. statements.debugger strict depth d)
entry_whole strict p d kind.LabeledStatement typed there stands read = statement_whole strict d p (codes "LabeledStatement") (entry kind.LabeledStatement p d) refl there (λ depth. statements.labeled strict depth d)
entry_whole strict p d kind.BreakStatement typed there stands read = statement_whole strict d p (codes "BreakStatement") (entry kind.BreakStatement p d) refl there (λ depth. statements.break strict depth d)
entry_whole strict p d kind.ContinueStatement typed there stands read = statement_whole strict d p (codes "ContinueStatement") (entry kind.ContinueStatement p d) refl there (λ depth. statements.continue strict depth d)
entry_whole strict p d kind.ReturnStatement typed there stands read = statement_whole strict d p (codes "ReturnStatement") (entry kind.ReturnStatement p d) refl there (λ depth. statements.return strict depth d)
entry_whole strict p d kind.ThrowStatement typed there stands read = statement_whole strict d p (codes "ThrowStatement") (entry kind.ThrowStatement p d) refl there (λ depth. statements.throw strict depth d)
entry_whole strict p d kind.IfStatement typed there stands read = statement_whole strict d p (codes "IfStatement") (entry kind.IfStatement p d) refl there (λ depth. statements.if_statement strict depth d)
entry_whole strict p d kind.SwitchStatement typed there stands read = statement_whole strict d p (codes "SwitchStatement") (entry kind.SwitchStatement p d) refl there (λ depth. statements.switch strict depth d)
entry_whole strict p d kind.TryStatement typed there stands read = statement_whole strict d p (codes "TryStatement") (entry kind.TryStatement p d) refl there (λ depth. statements.try strict depth d)
entry_whole strict p d kind.WhileStatement typed there stands read = statement_whole strict d p (codes "WhileStatement") (entry kind.WhileStatement p d) refl there (λ depth. statements.while strict depth d)
entry_whole strict p d kind.DoWhileStatement typed there stands read = statement_whole strict d p (codes "DoWhileStatement") (entry kind.DoWhileStatement p d) refl there (λ depth. statements.do_while strict depth d)
entry_whole strict p d kind.ForStatement typed there stands read = statement_whole strict d p (codes "ForStatement") (entry kind.ForStatement p d) refl there (λ depth. statements.for strict depth d)
entry_whole strict p d kind.ForInStatement typed there stands read = statement_whole strict d p (codes "ForInStatement") (entry kind.ForInStatement p d) refl there (λ depth. statements.for_in strict depth d)
entry_whole strict p d kind.ForOfStatement typed there stands read = statement_whole strict d p (codes "ForOfStatement") (entry kind.ForOfStatement p d) refl there (λ depth. statements.for_of strict depth d)
entry_whole strict p d kind.SwitchCase typed there stands read = switch_case strict d p there
entry_whole strict p d kind.CatchClause typed there stands read = catch strict d p there
entry_whole strict p d kind.VariableDeclarator typed there stands read = declarator strict d p there
entry_whole strict p d kind.ClassBody typed there stands read = class_body strict d p there
entry_whole strict p d kind.MethodDefinition typed there stands read = method_definition strict d p there
entry_whole strict p d kind.PropertyDefinition typed there stands read = property_definition strict d p there
entry_whole strict p d kind.StaticBlock typed there stands read = static_block strict d p there
entry_whole strict p d kind.ImportSpecifier typed there stands read = import_specifier strict d p there
entry_whole strict p d kind.ImportDefaultSpecifier typed there stands read = import_default strict d p there
entry_whole strict p d kind.ImportNamespaceSpecifier typed there stands read = import_namespace strict d p there
entry_whole strict p d kind.ImportDeclaration typed there stands read = import strict d p there
entry_whole strict p d kind.ExportNamedDeclaration typed there stands read = export_named strict d p there
entry_whole strict p d kind.ExportDefaultDeclaration typed there stands read = export_default strict d p there
entry_whole strict p d kind.ExportAllDeclaration typed there stands read = export_all strict d p there
entry_whole strict p d kind.ExportSpecifier typed there stands read = export_specifier strict d p there
entry_whole strict p d kind.VariableDeclaration typed there stands read = variable strict d p (typed_has d (codes "VariableDeclaration") (codes "VariableDeclaration") typed) there stands
entry_whole strict p d kind.FunctionDeclaration typed there stands read = function_declaration strict d p (typed_has d (codes "FunctionDeclaration") (codes "FunctionDeclaration") typed) there read
entry_whole strict p d kind.FunctionExpression typed there stands read = function_expression strict d p (aside d (codes "FunctionExpression") typed refl) there stands
entry_whole strict p d kind.ClassDeclaration typed there stands read = class_declaration strict d p there
entry_whole strict p d kind.Identifier typed there stands read = identifiers.identifier strict p d typed there stands
entry_whole strict p d kind.PrivateIdentifier typed there stands read = identifiers.private_identifier strict p d typed there
entry_whole strict p d kind.Literal typed there stands read = literals.literal_plan strict p d typed there stands read
entry_whole strict p d kind.ThisExpression typed there stands read = expression_whole strict d p (codes "ThisExpression") (entry kind.ThisExpression p d) typed refl there (λ e a. plains.this strict p d e a)
entry_whole strict p d kind.ArrayExpression typed there stands read = expression_whole strict d p (codes "ArrayExpression") (entry kind.ArrayExpression p d) typed refl there (λ e a. plains.array_expression strict p d e a)
entry_whole strict p d kind.ObjectExpression typed there stands read = expression_whole strict d p (codes "ObjectExpression") (entry kind.ObjectExpression p d) typed refl there (λ e a. plains.object_expression strict p d e a)
entry_whole strict p d kind.ArrowFunctionExpression typed there stands read = expression_whole strict d p (codes "ArrowFunctionExpression") (entry kind.ArrowFunctionExpression p d) typed refl there (λ e a. plains.arrow strict p d e a)
entry_whole strict p d kind.ClassExpression typed there stands read = expression_whole strict d p (codes "ClassExpression") (entry kind.ClassExpression p d) typed refl there (λ e a. plains.class_expression strict p d e a)
entry_whole strict p d kind.UnaryExpression typed there stands read = expression_whole strict d p (codes "UnaryExpression") (entry kind.UnaryExpression p d) typed refl there (λ e a. plains.unary strict p d e a)
entry_whole strict p d kind.UpdateExpression typed there stands read = expression_whole strict d p (codes "UpdateExpression") (entry kind.UpdateExpression p d) typed refl there (λ e a. plains.update strict p d e a)
entry_whole strict p d kind.BinaryExpression typed there stands read = expression_whole strict d p (codes "BinaryExpression") (entry kind.BinaryExpression p d) typed refl there (λ e a. plains.binary strict p d e a)
entry_whole strict p d kind.LogicalExpression typed there stands read = expression_whole strict d p (codes "LogicalExpression") (entry kind.LogicalExpression p d) typed refl there (λ e a. plains.logical strict p d e a)
entry_whole strict p d kind.AssignmentExpression typed there stands read = expression_whole strict d p (codes "AssignmentExpression") (entry kind.AssignmentExpression p d) typed refl there (λ e a. plains.assignment strict p d e a)
entry_whole strict p d kind.ConditionalExpression typed there stands read = expression_whole strict d p (codes "ConditionalExpression") (entry kind.ConditionalExpression p d) typed refl there (λ e a. plains.conditional strict p d e a)
entry_whole strict p d kind.SequenceExpression typed there stands read = expression_whole strict d p (codes "SequenceExpression") (entry kind.SequenceExpression p d) typed refl there (λ e a. plains.sequence strict p d e a)
entry_whole strict p d kind.NewExpression typed there stands read = expression_whole strict d p (codes "NewExpression") (entry kind.NewExpression p d) typed refl there (λ e a. plains.new strict p d e a)
entry_whole strict p d kind.ChainExpression typed there stands read = expression_whole strict d p (codes "ChainExpression") (entry kind.ChainExpression p d) typed refl there (λ e a. plains.chain strict p d e a)
entry_whole strict p d kind.YieldExpression typed there stands read = expression_whole strict d p (codes "YieldExpression") (entry kind.YieldExpression p d) typed refl there (λ e a. plains.yield strict p d e a)
entry_whole strict p d kind.TaggedTemplateExpression typed there stands read = expression_whole strict d p (codes "TaggedTemplateExpression") (entry kind.TaggedTemplateExpression p d) typed refl there (λ e a. plains.tagged_template strict p d e a)
entry_whole strict p d kind.MetaProperty typed there stands read = expression_whole strict d p (codes "MetaProperty") (entry kind.MetaProperty p d) typed refl there (λ e a. plains.meta_property strict p d e a)
entry_whole strict p d kind.ImportExpression typed there stands read = expression_whole strict d p (codes "ImportExpression") (entry kind.ImportExpression p d) typed refl there (λ e a. plains.import_expression strict p d e a)
entry_whole strict p d kind.Super typed there stands read = pieces.super strict p d there
entry_whole strict p d kind.Property typed there stands read = patterns.property strict d p there
entry_whole strict p d kind.SpreadElement typed there stands read = pieces.spread strict p d there
entry_whole strict p d kind.CallExpression typed there stands read = marks.call strict d typed p there
entry_whole strict p d kind.MemberExpression typed there stands read = marks.member_expression strict d typed p there
entry_whole strict p d kind.TemplateLiteral typed there stands read = pieces.template strict d p typed there
entry_whole strict p d kind.TemplateElement typed there stands read = quasi strict d p there stands
entry_whole strict p d kind.ObjectPattern typed there stands read = patterns.object_pattern strict d p typed there
entry_whole strict p d kind.ArrayPattern typed there stands read = patterns.array_pattern strict d p typed there
entry_whole strict p d kind.RestElement typed there stands read = patterns.rest strict d p there
entry_whole strict p d kind.AssignmentPattern typed there stands read = patterns.default strict d p typed there
