-- Each shape that may stand at another place comes back, where smaller trees do.
use Rattle.std.proofs.Common.{◌≡◌, ℕ, suc, List, [], refl, ap, sym, ◌∙◌, Bool, true, false, ◌&&◌}
use Rattle.std.specs.Prelude.{Some, not, codes, nat_le, pos}
use Rattle.std.proofs.lemmas.Bool.{or_left, or_right, false≢true, true≢false}
use Rattle.serde_json.specs.Data.{Data}
use Rattle.mini_model.specs.Texts.{bytes_of, are_units}
use Rattle.mini_model.specs.declared.shape.Shape.{Shape}
use Rattle.mini_model.specs.declared.shape.Shape.TheVariants as shape
use Rattle.mini_model.specs.Tree.{Tree, Trees, is_absent}
use Rattle.mini_accept.specs.WellShaped as shaped
use Rattle.mini_accept.specs.WellShaped.{Class, these, is_text, is_paired, is_name}
use Rattle.mini_accept.specs.declared.kind.Kind.TheVariants as kind
use Rattle.mini_accept.specs.Fields.{is_there, has_type}
use Rattle.mini_accept.specs.Literals.{is_string_literal}
use Rattle.mini_model.specs.Numerals.{max_safe_integer}
use Rattle.mini_accept.specs.Standing.{stands_as}
use Rattle.mini_accept.specs.Expressions.{identifier_as, word_plan}
use Rattle.mini_accept.proofs.Types.{text_same, text_is}
use Rattle.mini_writer.specs.Objects as objects
use Rattle.mini_writer.specs.Written.{tree_data, name}
use Rattle.mini_writer.proofs.Read.{plain_back, no_children}
use Rattle.mini_writer.proofs.Texts.{ascii_bytes}
use Rattle.mini_writer.proofs.Fitting.{Filled, NodeFits, with_none, unless_filled}
use Rattle.mini_writer.proofs.Slots.{Back, are_ascii}
use Rattle.mini_writer.proofs.AcceptedBodies.{BodiesBack}
use Rattle.mini_writer.proofs.Statements as statement
use Rattle.mini_writer.proofs.Statements.{Comes}
use Rattle.mini_writer.proofs.Leaves.{word_back, private_back, string_back, number_back}
use Rattle.mini_writer.proofs.AcceptedMembers as member
use Rattle.mini_writer.proofs.Templates as template
use Rattle.mini_writer.proofs.Properties as property
use Rattle.mini_writer.proofs.Functions as function
use Rattle.mini_writer.proofs.Modules as imports
use Rattle.mini_writer.proofs.AnyTarget.{is_inner_shape}
use Rattle.mini_writer.proofs.AnyExpression.{unchained_comes, as_init, as_argument, as_default_export}

right_none : (b : Bool) → (b && false) ≡ false
right_none true = refl
right_none false = refl

module _ (k : ℕ) (back : Back k) (bodies : BodiesBack k) (strict : Bool) where
  -- ---- parts of statements

  pub block_comes : (h : Shape) (ts : Trees) → NodeFits k strict shaped.a_block h [] ts → Comes k strict shaped.a_block h ts
  block_comes shape.BlockStatement ts w = statement.block k back strict shaped.a_block (λ d. refl) (λ d. refl) ts w.filled
  block_comes h ts w = absurd (false≢true w.filled.fills)

  pub case_comes : (h : Shape) (ts : Trees) → NodeFits k strict shaped.a_case h [] ts → Comes k strict shaped.a_case h ts
  case_comes shape.SwitchCase ts w = statement.switch_case k back strict ts w.filled
  case_comes h ts w = absurd (false≢true w.filled.fills)

  pub catch_comes : (h : Shape) (ts : Trees) → NodeFits k strict shaped.a_catch h [] ts → Comes k strict shaped.a_catch h ts
  catch_comes shape.CatchClause ts w = statement.catch k back strict ts w.filled
  catch_comes h ts w = absurd (false≢true w.filled.fills)

  pub declarator_comes : (h : Shape) (ts : Trees) → NodeFits k strict shaped.a_declarator h [] ts → Comes k strict shaped.a_declarator h ts
  declarator_comes shape.VariableDeclarator ts w = statement.declarator k back strict ts w.filled
  declarator_comes h ts w = absurd (false≢true w.filled.fills)

  -- ---- the heads of loops

  -- the head is a declaration, or what stands there otherwise
  pub init_comes : (h : Shape) (ts : Trees) → NodeFits k strict shaped.an_init h [] ts → Comes k strict shaped.an_init h ts
  init_comes (shape.VariableDeclaration v) ts w = statement.variables k back strict shaped.an_init v (λ d. refl) ts w.parts w.filled
  init_comes h ts w = unchained_comes k back bodies strict shaped.an_init as_init h ts w.names w.fields w.field_units w.parts (record { fills = w.filled.fills; units = w.filled.units; small = w.filled.small })

  -- ---- functions and classes

  pub class_body_comes : (h : Shape) (ts : Trees) → NodeFits k strict shaped.a_class_body h [] ts → Comes k strict shaped.a_class_body h ts
  class_body_comes shape.ClassBody ts w = property.class_body k back strict ts w.filled
  class_body_comes h ts w = absurd (false≢true w.filled.fills)

  pub class_member_comes : (h : Shape) (ts : Trees) → NodeFits k strict shaped.a_class_member h [] ts → Comes k strict shaped.a_class_member h ts
  class_member_comes (shape.MethodDefinition o computed is_static) ts w = property.method_definition k back strict o computed is_static ts w.filled w.parts
  class_member_comes (shape.PropertyDefinition computed is_static) ts w = property.property_definition k back strict computed is_static ts w.filled
  class_member_comes shape.StaticBlock ts w = property.static_block k back strict ts w.filled
  class_member_comes h ts w = absurd (false≢true w.filled.fills)

  method_stands : (g : Bool) (a : Tree) → is_absent a ≡ true → (params b : Data) → stands_as shaped.a_method (objects.function false g (tree_data a) params b) ≡ true
  method_stands g a e params b = ap (λ d. not (is_there (Some d))) (function.absent_data a e)

  pub method_comes : (h : Shape) (ts : Trees) → NodeFits k strict shaped.a_method h [] ts → Comes k strict shaped.a_method h ts
  method_comes (shape.Function false g ss) ts w = function.function_expression k back bodies strict shaped.a_method g ss w.fields w.field_units is_absent (method_stands g) ts w.filled w.parts
  method_comes h ts w = absurd (false≢true w.filled.fills)

  pub exported_declaration_comes : (h : Shape) (ts : Trees) → NodeFits k strict shaped.an_exported_declaration h [] ts → Comes k strict shaped.an_exported_declaration h ts
  exported_declaration_comes (shape.VariableDeclaration v) ts w = statement.variables k back strict shaped.an_exported_declaration v (λ d. refl) ts w.parts w.filled
  exported_declaration_comes (shape.Function true g ss) ts w = function.function_declaration k back bodies strict shaped.an_exported_declaration g ss w.fields w.field_units true refl (right_none (not strict)) (λ a params b. refl) ts w.filled
  exported_declaration_comes (shape.Class true) ts w = function.class_declaration k back strict shaped.an_exported_declaration true refl (λ a b d. refl) ts w.filled w.parts
  exported_declaration_comes h ts w = absurd (false≢true w.filled.fills)

  pub default_export_comes : (h : Shape) (ts : Trees) → NodeFits k strict shaped.a_default_export h [] ts → Comes k strict shaped.a_default_export h ts
  default_export_comes (shape.Function true g ss) ts w = function.function_declaration k back bodies strict shaped.a_default_export g ss w.fields w.field_units false refl (right_none (not strict)) (λ a params b. refl) ts w.filled
  default_export_comes (shape.Class true) ts w = function.class_declaration k back strict shaped.a_default_export false refl (λ a b d. refl) ts w.filled w.parts
  default_export_comes h ts w = unchained_comes k back bodies strict shaped.a_default_export as_default_export h ts w.names w.fields w.field_units w.parts (record { fills = w.filled.fills; units = w.filled.units; small = w.filled.small })

  pub import_comes : (h : Shape) (ts : Trees) → NodeFits k strict shaped.an_import h [] ts → Comes k strict shaped.an_import h ts
  import_comes shape.ImportSpecifier ts w = imports.import_specifier k back strict ts w.filled
  import_comes shape.ImportDefaultSpecifier ts w = imports.import_default k back strict ts w.filled
  import_comes shape.ImportNamespaceSpecifier ts w = imports.import_namespace k back strict ts w.filled
  import_comes h ts w = absurd (false≢true w.filled.fills)

  -- ---- parts of expressions

  pub argument_comes : (h : Shape) (ts : Trees) → NodeFits k strict shaped.an_argument h [] ts → Comes k strict shaped.an_argument h ts
  argument_comes shape.SpreadElement ts w = property.spread k back strict shaped.an_argument refl (λ d. refl) ts w.filled
  argument_comes h ts w = unchained_comes k back bodies strict shaped.an_argument as_argument h ts w.names w.fields w.field_units w.parts (record { fills = w.filled.fills; units = w.filled.units; small = w.filled.small })

  pub inner_argument_comes : (h : Shape) (ts : Trees) → is_inner_shape h ≡ false → NodeFits k strict shaped.an_inner_argument h [] ts → Comes k strict shaped.an_inner_argument h ts
  inner_argument_comes shape.SpreadElement ts e w = property.inner_spread k back strict ts w.filled
  inner_argument_comes shape.InnerExpression ts e w = absurd (true≢false e)
  inner_argument_comes h ts e w = absurd (false≢true w.filled.fills)

  pub object_property_comes : (h : Shape) (ts : Trees) → NodeFits k strict shaped.an_object_property h [] ts → Comes k strict shaped.an_object_property h ts
  object_property_comes shape.SpreadElement ts w = property.spread k back strict shaped.an_object_property refl (λ d. refl) ts w.filled
  object_property_comes (shape.ObjectProperty o is_method shorthand computed) ts w = property.object_property k back strict o is_method shorthand computed ts w.filled w.parts
  object_property_comes h ts w = absurd (false≢true w.filled.fills)

  pub tagged_comes : (h : Shape) (ts : Trees) → NodeFits k strict shaped.a_tagged_template h [] ts → Comes k strict shaped.a_tagged_template h ts
  tagged_comes shape.TemplateLiteral ts w = template.template k back strict shaped.a_tagged_template shaped.tagged refl (λ a d. refl) ts w.filled w.parts
  tagged_comes h ts w = absurd (false≢true w.filled.fills)

  pub chain_comes : (h : Shape) (ts : Trees) → NodeFits k strict shaped.a_chain h [] ts → Comes k strict shaped.a_chain h ts
  chain_comes (shape.CallExpression b) ts w = member.call k back strict shaped.a_chain true refl b (or_right (not b) true refl) (λ a d. refl) ts w.filled
  chain_comes (shape.StaticMemberExpression b) ts w = member.static_member k back strict shaped.a_chain true refl b (or_right (not b) true refl) (λ a d. refl) ts w.filled
  chain_comes (shape.ComputedMemberExpression b) ts w = member.computed_member k back strict shaped.a_chain true refl b (or_right (not b) true refl) (λ a d. refl) ts w.filled
  chain_comes (shape.PrivateFieldExpression b) ts w = member.private_field k back strict shaped.a_chain true refl b (or_right (not b) true refl) (λ a d. refl) ts w.filled
  chain_comes h ts w = absurd (false≢true w.filled.fills)

  pub super_comes : (h : Shape) (ts : Trees) → NodeFits k strict shaped.a_super h [] ts → Comes k strict shaped.a_super h ts
  super_comes shape.Super ts w = with_none k strict (Comes k strict shaped.a_super shape.Super) (λ m n. plain_back (suc (suc k)) strict shaped.a_super _ kind.Super shape.Super _ m _ refl refl refl refl no_children n) ts w.filled
  super_comes h ts w = absurd (false≢true w.filled.fills)

  -- ---- names, texts and keys

  word_comes : (c : Class) → ((r : List ℕ) → identifier_as c r ≡ word_plan r) → (s : List ℕ) → stands_as c (name s) ≡ true → is_name s ≡ true → are_units s ≡ true → (ts : Trees) → Filled k strict (these []) ts → Comes k strict c (shape.IdentifierName s) ts
  word_comes c named s stands fields units = with_none k strict (Comes k strict c (shape.IdentifierName s)) (λ m n. word_back (suc (suc k)) strict c s m named stands fields units n)

  text_comes : (c : Class) → ((d : Data) → is_string_literal d ≡ true → has_type (codes "Identifier") d ≡ false → stands_as c d ≡ true) → (s : List ℕ) → is_paired s ≡ true → are_units s ≡ true → (ts : Trees) → Filled k strict (these []) ts → Comes k strict c (shape.StringLiteral s) ts
  text_comes c stands s fields units = with_none k strict (Comes k strict c (shape.StringLiteral s)) (λ m n. string_back (suc (suc k)) strict c s m (λ e. stands _ e refl) fields units n)

  number_comes : (c : Class) (i : ℕ) → stands_as c (objects.number_literal i) ≡ true → nat_le i max_safe_integer ≡ true → (ts : Trees) → Filled k strict (these []) ts → Comes k strict c (shape.NumericLiteral (pos i)) ts
  number_comes c i stands fields = with_none k strict (Comes k strict c (shape.NumericLiteral (pos i))) (λ m n. number_back (suc (suc k)) strict c i m stands fields n)

  pub label_comes : (h : Shape) (ts : Trees) → NodeFits k strict shaped.a_label h [] ts → Comes k strict shaped.a_label h ts
  label_comes (shape.IdentifierName s) ts w = word_comes shaped.a_label (λ r. refl) s refl w.fields w.field_units ts w.filled
  label_comes h ts w = absurd (false≢true w.filled.fills)

  pub no_binding : (h : Shape) (ts : Trees) → NodeFits k strict shaped.a_binding h [] ts → Comes k strict shaped.a_binding h ts
  no_binding shape.BindingIdentifier ts w = absurd (false≢true w.names)
  no_binding h ts w = absurd (false≢true w.filled.fills)

  pub private_name_comes : (h : Shape) (ts : Trees) → NodeFits k strict shaped.a_private_name h [] ts → Comes k strict shaped.a_private_name h ts
  private_name_comes (shape.PrivateIdentifier s) ts w = with_none k strict (Comes k strict shaped.a_private_name (shape.PrivateIdentifier s)) (λ m n. private_back (suc (suc k)) strict shaped.a_private_name s m refl w.fields w.field_units n) ts w.filled
  private_name_comes h ts w = absurd (false≢true w.filled.fills)

  pub module_name_comes : (h : Shape) (ts : Trees) → NodeFits k strict shaped.a_module_name h [] ts → Comes k strict shaped.a_module_name h ts
  module_name_comes (shape.IdentifierName s) ts w = word_comes shaped.a_module_name (λ r. refl) s refl w.fields w.field_units ts w.filled
  module_name_comes (shape.StringLiteral s) ts w = text_comes shaped.a_module_name (λ d e f. or_right _ _ e) s w.fields w.field_units ts w.filled
  module_name_comes h ts w = absurd (false≢true w.filled.fills)

  pub string_comes : (h : Shape) (ts : Trees) → NodeFits k strict shaped.a_string h [] ts → Comes k strict shaped.a_string h ts
  string_comes (shape.StringLiteral s) ts w = text_comes shaped.a_string (λ d e f. e) s w.fields w.field_units ts w.filled
  string_comes h ts w = absurd (false≢true w.filled.fills)

  pub key_comes : (h : Shape) (ts : Trees) → NodeFits k strict (shaped.a_key false) h [] ts → Comes k strict (shaped.a_key false) h ts
  key_comes (shape.IdentifierName s) ts w = word_comes (shaped.a_key false) (λ r. refl) s refl w.fields w.field_units ts w.filled
  key_comes (shape.StringLiteral s) ts w = text_comes (shaped.a_key false) (λ d e f. or_right _ _ (or_left _ _ e)) s w.fields w.field_units ts w.filled
  key_comes (shape.NumericLiteral (pos i)) ts w = number_comes (shaped.a_key false) i refl w.fields ts w.filled
  key_comes (shape.NumericLiteral z) ts w = absurd (false≢true w.filled.fills)
  key_comes h ts w = absurd (false≢true w.filled.fills)

  pub inner_key_comes : (h : Shape) (ts : Trees) → NodeFits k strict (shaped.an_inner_key false) h [] ts → Comes k strict (shaped.an_inner_key false) h ts
  inner_key_comes (shape.IdentifierName s) ts w = word_comes (shaped.an_inner_key false) (λ r. refl) s refl w.fields w.field_units ts w.filled
  inner_key_comes (shape.StringLiteral s) ts w = text_comes (shaped.an_inner_key false) (λ d e f. or_right _ _ (or_left _ _ e)) s w.fields w.field_units ts w.filled
  inner_key_comes (shape.NumericLiteral (pos i)) ts w = number_comes (shaped.an_inner_key false) i refl w.fields ts w.filled
  inner_key_comes (shape.NumericLiteral z) ts w = absurd (false≢true w.filled.fills)
  inner_key_comes h ts w = absurd (false≢true w.filled.fills)

  pub member_key_comes : (h : Shape) (ts : Trees) → NodeFits k strict (shaped.a_private_or_key false) h [] ts → Comes k strict (shaped.a_private_or_key false) h ts
  member_key_comes (shape.IdentifierName s) ts w = word_comes (shaped.a_private_or_key false) (λ r. refl) s refl w.fields w.field_units ts w.filled
  member_key_comes (shape.StringLiteral s) ts w = text_comes (shaped.a_private_or_key false) (λ d e f. or_right _ _ (or_left _ _ (or_left _ _ e))) s w.fields w.field_units ts w.filled
  member_key_comes (shape.NumericLiteral (pos i)) ts w = number_comes (shaped.a_private_or_key false) i refl w.fields ts w.filled
  member_key_comes (shape.PrivateIdentifier s) ts w = with_none k strict (Comes k strict (shaped.a_private_or_key false) (shape.PrivateIdentifier s)) (λ m n. private_back (suc (suc k)) strict (shaped.a_private_or_key false) s m refl w.fields w.field_units n) ts w.filled
  member_key_comes (shape.NumericLiteral z) ts w = absurd (false≢true w.filled.fills)
  member_key_comes h ts w = absurd (false≢true w.filled.fills)

  pub keyword_comes : (v : List ℕ) → are_ascii v ≡ true → (h : Shape) (ts : Trees) → NodeFits k strict (shaped.a_word v) h [] ts → Comes k strict (shaped.a_word v) h ts
  keyword_comes v ascii (shape.IdentifierName s) ts w =
      let (refused, filled) = unless_filled k strict (not (is_text s v)) (Some []) ts w.filled in
      let same : s ≡ v = text_same s v (not_not (is_text s v) refused) in
      word_comes (shaped.a_word v) (λ r. refl) s (text_is v (bytes_of s) (sym (ap bytes_of same ∙ ascii_bytes v ascii))) w.fields w.field_units ts filled
    where
      not_not : (b : Bool) → not b ≡ false → b ≡ true
      not_not true e = refl
      not_not false e = sym e
  keyword_comes v ascii h ts w = absurd (false≢true w.filled.fills)
