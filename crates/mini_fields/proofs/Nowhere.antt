-- What names no type of the table stands nowhere.
use Rattle.std.proofs.Common.{◌≡◌, ℕ, List, [], ◌∷◌, Bool, true, false, refl, sym, ap, ap₂, ◌∙◌, Option, Some, None}
use Rattle.std.specs.Prelude.{◌&&◌, ◌||◌, not, is_some, if◌then◌else◌, option_and_then, option_map, unwrap_or, codes}
use Rattle.std.proofs.lemmas.Bool.{and_parts}
use Rattle.serde_json.specs.Data.{Data}
use Rattle.mini_accept.specs.Kind.{types}
use Rattle.mini_accept.specs.WellShaped as shaped
use Rattle.mini_accept.specs.WellShaped.{Class, in_module, in_body, nested, is_text}
use Rattle.mini_accept.specs.declared.kind.Kind.TheVariants as kind
use Rattle.mini_accept.specs.declared.kind.Kind.{Kind}
use Rattle.mini_accept.specs.Places.{Place, at, a_directive, a_directive_text, a_quasi, an_exported, a_local_name}
use Rattle.mini_accept.specs.Fields.{kind_of, text_at, flag_at, has_text, has_type, has_one_of, is_one_of, is_given, word_in}
use Rattle.mini_accept.specs.Literals.{literal, is_string_shape, is_number_shape, is_big_int_shape, is_string_literal, is_key_literal}
use Rattle.mini_accept.specs.Standing.{expression_types, declaration_types, statement_types, module_types, is_expression, is_identifier, is_block, is_variable, is_pattern, is_default, is_member_target, is_head, has_true, is_piece, stands_as, may_stand}
use Rattle.mini_accept.proofs.Types.{text_same, pattern_types}
use Rattle.mini_fields.proofs.Typed.{if_not, unknown_type}

are_known : List (List ℕ) → Bool
are_known [] = true
are_known (w ∷ ws) = is_some (word_in types w) && are_known ws

none_of : (s : List ℕ) (ws : List (List ℕ)) → word_in types s ≡ None → are_known ws ≡ true → is_one_of ws s ≡ false
unfolding are_known
none_of s [] is known = refl
none_of s (w ∷ ws) is known =
    let parts = and_parts (is_some (word_in types w)) (are_known ws) known in
    ap₂ ◌||◌ (if_not (is_text s w) (λ e. absurd (cc (ap is_some (sym is ∙ ap (word_in types) (text_same s w e)) ∙ parts.0)))) (none_of s ws is parts.1)

one_unknown : (ws : List (List ℕ)) (o : Option (List ℕ)) → option_and_then (word_in types) o ≡ None → are_known ws ≡ true → unwrap_or (option_map (is_one_of ws) o) false ≡ false
one_unknown ws None is known = refl
one_unknown ws (Some s) is known = none_of s ws is known

module _ (d : Data) (is : kind_of d ≡ None) where
  one : (ws : List (List ℕ)) → are_known ws ≡ true → has_one_of ws d ≡ false
  one ws known = one_unknown ws (text_at (codes "type") d) is known

  type : (w : List ℕ) (k : Kind) → word_in types w ≡ Some k → has_type w d ≡ false
  type w k word = unknown_type w k d word is

  type_with : (w : List ℕ) (k : Kind) (b : Bool) → word_in types w ≡ Some k → has_type w d && b ≡ false
  type_with w k b word = ap (λ a. a && b) (type w k word)

  expression : is_expression d ≡ false
  unfolding are_known
  expression = one expression_types refl

  identifier : is_identifier d ≡ false
  identifier = type (codes "Identifier") kind.Identifier refl

  block : is_block d ≡ false
  block = type (codes "BlockStatement") kind.BlockStatement refl

  variable : is_variable d ≡ false
  variable = type (codes "VariableDeclaration") kind.VariableDeclaration refl

  pattern : is_pattern d ≡ false
  unfolding are_known
  pattern = one pattern_types refl

  default : is_default d ≡ false
  default = type (codes "AssignmentPattern") kind.AssignmentPattern refl

  member : is_member_target d ≡ false
  member = type_with (codes "MemberExpression") kind.MemberExpression (not (has_true (codes "optional") d)) refl

  string_literal : is_string_literal d ≡ false
  string_literal = type_with (codes "Literal") kind.Literal (is_string_shape (literal d)) refl

  key_literal : is_key_literal d ≡ false
  key_literal = ap₂ ◌||◌ string_literal (ap₂ ◌||◌ (type_with (codes "Literal") kind.Literal (is_number_shape (literal d)) refl) (type_with (codes "Literal") kind.Literal (is_big_int_shape (literal d)) refl))

  statement : has_one_of statement_types d ≡ false
  unfolding are_known
  statement = one statement_types refl

  stands_as_none : (c : Class) → stands_as c d ≡ false
  unfolding are_known
  stands_as_none shaped.a_program = type (codes "Program") kind.Program refl
  stands_as_none (shaped.a_statement in_module) = ap₂ ◌||◌ statement (one module_types refl)
  stands_as_none (shaped.a_statement in_body) = statement
  stands_as_none (shaped.a_statement nested) = statement
  stands_as_none shaped.a_block = block
  stands_as_none shaped.a_case = type (codes "SwitchCase") kind.SwitchCase refl
  stands_as_none shaped.a_catch = type (codes "CatchClause") kind.CatchClause refl
  stands_as_none shaped.an_init = ap₂ ◌||◌ variable expression
  stands_as_none (shaped.a_loop_left enumerates) = ap (λ b. if b then is_head enumerates d else is_pattern d || is_member_target d) variable ∙ ap₂ ◌||◌ pattern member
  stands_as_none shaped.a_declarator = type (codes "VariableDeclarator") kind.VariableDeclarator refl
  stands_as_none shaped.a_pattern = pattern
  stands_as_none shaped.a_pattern_element = ap₂ ◌||◌ pattern default
  stands_as_none shaped.a_pattern_property = type (codes "Property") kind.Property refl
  stands_as_none shaped.a_pattern_rest = type (codes "RestElement") kind.RestElement refl
  stands_as_none shaped.a_parameter = ap₂ ◌||◌ pattern default
  stands_as_none shaped.a_binding = identifier
  stands_as_none shaped.a_label = identifier
  stands_as_none shaped.a_private_name = type (codes "PrivateIdentifier") kind.PrivateIdentifier refl
  stands_as_none shaped.a_function_body = block
  stands_as_none shaped.an_arrow_body = ap₂ ◌||◌ block expression
  stands_as_none shaped.a_class_body = type (codes "ClassBody") kind.ClassBody refl
  stands_as_none shaped.a_class_member = one (codes "MethodDefinition" ∷ codes "PropertyDefinition" ∷ codes "StaticBlock" ∷ []) refl
  stands_as_none shaped.a_method = type_with (codes "FunctionExpression") kind.FunctionExpression (not (is_given (codes "id") d)) refl
  stands_as_none shaped.an_expression = expression
  stands_as_none shaped.a_link = expression
  stands_as_none shaped.a_chain = one (codes "CallExpression" ∷ codes "MemberExpression" ∷ []) refl
  stands_as_none shaped.an_argument = ap₂ ◌||◌ (type (codes "SpreadElement") kind.SpreadElement refl) expression
  stands_as_none shaped.an_inner_argument = type (codes "SpreadElement") kind.SpreadElement refl
  stands_as_none shaped.a_super = type (codes "Super") kind.Super refl
  stands_as_none shaped.an_object_property = one (codes "Property" ∷ codes "SpreadElement" ∷ []) refl
  stands_as_none (shaped.a_key true) = expression
  stands_as_none (shaped.a_key false) = ap₂ ◌||◌ identifier key_literal
  stands_as_none (shaped.a_private_or_key computed) = ap₂ ◌||◌ identifier (ap₂ ◌||◌ key_literal (type (codes "PrivateIdentifier") kind.PrivateIdentifier refl))
  stands_as_none (shaped.an_inner_key computed) = ap₂ ◌||◌ identifier key_literal
  stands_as_none shaped.a_tagged_template = type (codes "TemplateLiteral") kind.TemplateLiteral refl
  stands_as_none shaped.a_target = ap₂ ◌||◌ pattern member
  stands_as_none shaped.a_simple_target = ap₂ ◌||◌ identifier member
  stands_as_none shaped.an_element_target = pattern
  stands_as_none shaped.a_member_target = member
  stands_as_none shaped.a_named_target = ap₂ ◌||◌ identifier default
  stands_as_none shaped.a_target_name = identifier
  stands_as_none shaped.a_target_element = ap₂ ◌||◌ pattern default
  stands_as_none shaped.a_target_property = type (codes "Property") kind.Property refl
  stands_as_none shaped.a_target_rest = type (codes "RestElement") kind.RestElement refl
  stands_as_none shaped.an_import = one (codes "ImportSpecifier" ∷ codes "ImportDefaultSpecifier" ∷ codes "ImportNamespaceSpecifier" ∷ []) refl
  stands_as_none shaped.a_module_name = ap₂ ◌||◌ identifier string_literal
  stands_as_none shaped.a_string = string_literal
  stands_as_none shaped.an_exported_declaration = one declaration_types refl
  stands_as_none shaped.a_default_export = ap₂ ◌||◌ expression (one (codes "FunctionDeclaration" ∷ codes "ClassDeclaration" ∷ []) refl)
  stands_as_none (shaped.a_word w) = ap (λ b. b && has_text (codes "name") w d) identifier
  stands_as_none c = refl

pub nowhere : (p : Place) (d : Data) → kind_of d ≡ None → may_stand p d ≡ false
nowhere (at c) d is = stands_as_none d is c
nowhere a_directive d is = type d is (codes "ExpressionStatement") kind.ExpressionStatement refl
nowhere a_directive_text d is = type_with d is (codes "Literal") kind.Literal (is_some (text_at (codes "value") d)) refl
nowhere (a_quasi g last) d is = type_with d is (codes "TemplateElement") kind.TemplateElement (is_piece last (flag_at (codes "tail") d)) refl
nowhere (an_exported own) d is = type d is (codes "ExportSpecifier") kind.ExportSpecifier refl
nowhere a_local_name d is = identifier d is
