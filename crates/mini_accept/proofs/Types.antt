-- The types of nodes by their names, and which of them may stand in a place.
use Rattle.std.proofs.Common.{◌≡◌, ℕ, List, [], ◌∷◌, ◌++◌, refl, ap, sym, ◌∙◌, subst, inl, inr, Bool, true, false, ◌&&◌, ◌||◌}
use Rattle.std.specs.Prelude.{Option, Some, None, option_and_then, option_map, unwrap_or, is_some, not, codes, if◌then◌else◌}
use Rattle.std.proofs.lemmas.Bool.{and_parts, or_cases, or_left, or_right, false≢true}
use Rattle.std.proofs.lemmas.Slice.Eq.{bytes_eq-Decides}
use Rattle.serde_json.specs.Data.{Data}
use Rattle.mini_accept.specs.WellShaped as shaped
use Rattle.mini_accept.specs.WellShaped.{Class, Depth, in_module, in_body, nested, is_text}
use Rattle.mini_accept.specs.Kind as kind
use Rattle.mini_accept.specs.Kind.{Kind, types}
use Rattle.mini_accept.specs.Places.{Place, at, a_directive, a_directive_text, a_quasi, an_exported, a_local_name}
use Rattle.mini_accept.specs.Fields.{is_given, text_at, has_text, flag_at, is_text_by, word_in, is_one_of, kind_of, has_type, has_one_of}
use Rattle.mini_accept.specs.Literals.{literal, is_string_shape, is_number_shape, is_big_int_shape, is_big_int_literal, is_string_literal, is_key_literal, is_literal_with}
use Rattle.mini_accept.specs.Standing.{expression_types, declaration_types, statement_types, module_types, is_head, is_pattern, is_member_target, is_variable, is_expression, is_default, has_true, is_piece, may_stand, stands_as, is_statement_in}

-- ---- texts

pub text_same : (s r : List ℕ) → is_text s r ≡ true → s ≡ r
text_same s r e = (bytes_eq-Decides s r).0 e

pub text_is : (s r : List ℕ) → s ≡ r → is_text s r ≡ true
text_is s r e = (bytes_eq-Decides s r).1 e

pub text_turned : (s r : List ℕ) → is_text s r ≡ true → is_text r s ≡ true
text_turned s r e = text_is r s (sym (text_same s r e))

-- ---- the name of each type

abbrev pub type_name : Kind → List ℕ
type_name kind.Program = codes "Program"
type_name kind.ExpressionStatement = codes "ExpressionStatement"
type_name kind.EmptyStatement = codes "EmptyStatement"
type_name kind.DebuggerStatement = codes "DebuggerStatement"
type_name kind.BlockStatement = codes "BlockStatement"
type_name kind.LabeledStatement = codes "LabeledStatement"
type_name kind.BreakStatement = codes "BreakStatement"
type_name kind.ContinueStatement = codes "ContinueStatement"
type_name kind.ReturnStatement = codes "ReturnStatement"
type_name kind.ThrowStatement = codes "ThrowStatement"
type_name kind.IfStatement = codes "IfStatement"
type_name kind.SwitchStatement = codes "SwitchStatement"
type_name kind.SwitchCase = codes "SwitchCase"
type_name kind.TryStatement = codes "TryStatement"
type_name kind.CatchClause = codes "CatchClause"
type_name kind.WhileStatement = codes "WhileStatement"
type_name kind.DoWhileStatement = codes "DoWhileStatement"
type_name kind.ForStatement = codes "ForStatement"
type_name kind.ForInStatement = codes "ForInStatement"
type_name kind.ForOfStatement = codes "ForOfStatement"
type_name kind.VariableDeclaration = codes "VariableDeclaration"
type_name kind.VariableDeclarator = codes "VariableDeclarator"
type_name kind.FunctionDeclaration = codes "FunctionDeclaration"
type_name kind.FunctionExpression = codes "FunctionExpression"
type_name kind.ArrowFunctionExpression = codes "ArrowFunctionExpression"
type_name kind.ClassDeclaration = codes "ClassDeclaration"
type_name kind.ClassExpression = codes "ClassExpression"
type_name kind.ClassBody = codes "ClassBody"
type_name kind.MethodDefinition = codes "MethodDefinition"
type_name kind.PropertyDefinition = codes "PropertyDefinition"
type_name kind.StaticBlock = codes "StaticBlock"
type_name kind.ImportDeclaration = codes "ImportDeclaration"
type_name kind.ImportSpecifier = codes "ImportSpecifier"
type_name kind.ImportDefaultSpecifier = codes "ImportDefaultSpecifier"
type_name kind.ImportNamespaceSpecifier = codes "ImportNamespaceSpecifier"
type_name kind.ExportNamedDeclaration = codes "ExportNamedDeclaration"
type_name kind.ExportSpecifier = codes "ExportSpecifier"
type_name kind.ExportDefaultDeclaration = codes "ExportDefaultDeclaration"
type_name kind.ExportAllDeclaration = codes "ExportAllDeclaration"
type_name kind.Identifier = codes "Identifier"
type_name kind.PrivateIdentifier = codes "PrivateIdentifier"
type_name kind.Literal = codes "Literal"
type_name kind.ThisExpression = codes "ThisExpression"
type_name kind.Super = codes "Super"
type_name kind.ArrayExpression = codes "ArrayExpression"
type_name kind.ObjectExpression = codes "ObjectExpression"
type_name kind.Property = codes "Property"
type_name kind.SpreadElement = codes "SpreadElement"
type_name kind.UnaryExpression = codes "UnaryExpression"
type_name kind.UpdateExpression = codes "UpdateExpression"
type_name kind.BinaryExpression = codes "BinaryExpression"
type_name kind.LogicalExpression = codes "LogicalExpression"
type_name kind.AssignmentExpression = codes "AssignmentExpression"
type_name kind.ConditionalExpression = codes "ConditionalExpression"
type_name kind.SequenceExpression = codes "SequenceExpression"
type_name kind.CallExpression = codes "CallExpression"
type_name kind.NewExpression = codes "NewExpression"
type_name kind.MemberExpression = codes "MemberExpression"
type_name kind.ChainExpression = codes "ChainExpression"
type_name kind.YieldExpression = codes "YieldExpression"
type_name kind.TemplateLiteral = codes "TemplateLiteral"
type_name kind.TemplateElement = codes "TemplateElement"
type_name kind.TaggedTemplateExpression = codes "TaggedTemplateExpression"
type_name kind.MetaProperty = codes "MetaProperty"
type_name kind.ImportExpression = codes "ImportExpression"
type_name kind.ObjectPattern = codes "ObjectPattern"
type_name kind.ArrayPattern = codes "ArrayPattern"
type_name kind.RestElement = codes "RestElement"
type_name kind.AssignmentPattern = codes "AssignmentPattern"

abbrev are_named : List (List ℕ × Kind) → Bool
are_named [] = true
are_named ((w, k) ∷ ws) = is_text w (type_name k) && are_named ws

types_named : are_named types ≡ true
types_named = refl

pub some_same : {A : Type 0} (x y : A) → Some x ≡ Some y → x ≡ y
some_same x y e = ap (λ o. unwrap_or o x) e

by_test : (b : Bool) (s w : List ℕ) (x k : Kind) (o : Option Kind) → is_text s w ≡ b → is_text w (type_name x) ≡ true → (o ≡ Some k → s ≡ type_name k) → (if b then Some x else o) ≡ Some k → s ≡ type_name k
by_test true s w x k o is named others e = text_same s w is ∙ (text_same w (type_name x) named ∙ ap type_name (some_same x k e))
by_test false s w x k o is named others e = others e

word_named : (ws : List (List ℕ × Kind)) (s : List ℕ) (k : Kind) → are_named ws ≡ true → word_in ws s ≡ Some k → s ≡ type_name k
word_named [] s k named e = absurd (cc e)
word_named ((w, x) ∷ ws) s k named e =
    let (this, others) = and_parts (is_text w (type_name x)) (are_named ws) named in
    by_test (is_text s w) s w x k (word_in ws s) refl this (word_named ws s k others) e

-- the type of a node
abbrev pub Typed : Data → List ℕ → Type 0
Typed d s = text_at (codes "type") d ≡ Some s

by_text : (o : Option (List ℕ)) (k : Kind) → option_and_then (word_in types) o ≡ Some k → o ≡ Some (type_name k)
by_text None k e = absurd (cc e)
by_text (Some s) k e = ap Some (word_named types s k types_named e)

pub kind_typed : (d : Data) (k : Kind) → kind_of d ≡ Some k → Typed d (type_name k)
kind_typed d k e = by_text (text_at (codes "type") d) k e

pub typed_has : (d : Data) (s w : List ℕ) → Typed d s → has_type w d ≡ is_text w s
typed_has d s w typed = ap (is_text_by w) typed

pub typed_one : (d : Data) (s : List ℕ) (ws : List (List ℕ)) → Typed d s → has_one_of ws d ≡ is_one_of ws s
typed_one d s ws typed = ap (λ o. unwrap_or (option_map (is_one_of ws) o) false) typed

-- ---- lists of types

one_at_least : (s w : List ℕ) (ws : List (List ℕ)) → is_text w s ≡ true → is_one_of (w ∷ ws) s ≡ true
one_at_least s w ws e = or_left (is_text s w) (is_one_of ws s) (text_turned w s e)

one_later : (s w : List ℕ) (ws : List (List ℕ)) → is_one_of ws s ≡ true → is_one_of (w ∷ ws) s ≡ true
one_later s w ws e = or_right (is_text s w) (is_one_of ws s) e

one_before : (s : List ℕ) (ws vs : List (List ℕ)) → is_one_of ws s ≡ true → is_one_of (ws ++ vs) s ≡ true
one_before s [] vs e = absurd (cc e)
one_before s (w ∷ ws) vs e = elim (or_cases (is_text s w) (is_one_of ws s) e) [
  | inl here ↦ or_left (is_text s w) (is_one_of (ws ++ vs) s) here
  | inr later ↦ or_right (is_text s w) (is_one_of (ws ++ vs) s) (one_before s ws vs later)
]

one_behind : (s : List ℕ) (ws vs : List (List ℕ)) → is_one_of vs s ≡ true → is_one_of (ws ++ vs) s ≡ true
one_behind s [] vs e = e
one_behind s (w ∷ ws) vs e = or_right (is_text s w) (is_one_of (ws ++ vs) s) (one_behind s ws vs e)

-- no word is in both lists
abbrev pub are_apart : List (List ℕ) → List (List ℕ) → Bool
are_apart [] vs = true
are_apart (w ∷ ws) vs = not (is_one_of vs w) && are_apart ws vs

not_both : (b : Bool) → not b ≡ true → b ≡ true → ⊥
not_both true e f = false≢true e
not_both false e f = false≢true f

pub apart : (ws vs : List (List ℕ)) (s : List ℕ) → are_apart ws vs ≡ true → is_one_of ws s ≡ true → is_one_of vs s ≡ true → ⊥
apart [] vs s a e f = false≢true e
apart (w ∷ ws) vs s a e f =
    let (this, others) = and_parts (not (is_one_of vs w)) (are_apart ws vs) a in
    elim (or_cases (is_text s w) (is_one_of ws s) e) [
      | inl here ↦ not_both (is_one_of vs w) this (subst (λ v. is_one_of vs v ≡ true) (text_same s w here) f)
      | inr later ↦ apart ws vs s others later f
    ]

-- ---- the types that may stand in a place

abbrev pub pattern_types : List (List ℕ)
pattern_types = codes "Identifier" ∷ codes "ObjectPattern" ∷ codes "ArrayPattern" ∷ []

abbrev pub types_as : Class → List (List ℕ)
types_as shaped.a_program = codes "Program" ∷ []
types_as (shaped.a_statement in_module) = statement_types ++ module_types
types_as (shaped.a_statement depth) = statement_types
types_as shaped.a_block = codes "BlockStatement" ∷ []
types_as shaped.a_case = codes "SwitchCase" ∷ []
types_as shaped.a_catch = codes "CatchClause" ∷ []
types_as shaped.an_init = codes "VariableDeclaration" ∷ expression_types
types_as (shaped.a_loop_left enumerates) = codes "VariableDeclaration" ∷ codes "MemberExpression" ∷ pattern_types
types_as shaped.a_declarator = codes "VariableDeclarator" ∷ []
types_as shaped.a_pattern = pattern_types
types_as shaped.a_pattern_element = codes "AssignmentPattern" ∷ pattern_types
types_as shaped.a_pattern_property = codes "Property" ∷ []
types_as shaped.a_pattern_rest = codes "RestElement" ∷ []
types_as shaped.a_parameter = codes "AssignmentPattern" ∷ pattern_types
types_as shaped.a_binding = codes "Identifier" ∷ []
types_as shaped.a_label = codes "Identifier" ∷ []
types_as shaped.a_private_name = codes "PrivateIdentifier" ∷ []
types_as shaped.a_function_body = codes "BlockStatement" ∷ []
types_as shaped.an_arrow_body = codes "BlockStatement" ∷ expression_types
types_as shaped.a_class_body = codes "ClassBody" ∷ []
types_as shaped.a_class_member = codes "MethodDefinition" ∷ codes "PropertyDefinition" ∷ codes "StaticBlock" ∷ []
types_as shaped.a_method = codes "FunctionExpression" ∷ []
types_as shaped.an_expression = expression_types
types_as shaped.a_link = expression_types
types_as shaped.a_chain = codes "CallExpression" ∷ codes "MemberExpression" ∷ []
types_as shaped.an_argument = codes "SpreadElement" ∷ expression_types
types_as shaped.an_inner_argument = codes "SpreadElement" ∷ []
types_as (shaped.an_inner c) = []
types_as shaped.a_super = codes "Super" ∷ []
types_as shaped.an_object_property = codes "Property" ∷ codes "SpreadElement" ∷ []
types_as (shaped.a_key true) = expression_types
types_as (shaped.a_key false) = codes "Identifier" ∷ codes "Literal" ∷ []
types_as (shaped.a_private_or_key computed) = codes "Identifier" ∷ codes "Literal" ∷ codes "PrivateIdentifier" ∷ []
types_as (shaped.an_inner_key computed) = codes "Identifier" ∷ codes "Literal" ∷ []
types_as shaped.a_tagged_template = codes "TemplateLiteral" ∷ []
types_as shaped.a_target = codes "MemberExpression" ∷ pattern_types
types_as shaped.a_simple_target = codes "Identifier" ∷ codes "MemberExpression" ∷ []
types_as shaped.an_element_target = pattern_types
types_as shaped.a_member_target = codes "MemberExpression" ∷ []
types_as shaped.a_named_target = codes "Identifier" ∷ codes "AssignmentPattern" ∷ []
types_as shaped.a_target_name = codes "Identifier" ∷ []
types_as shaped.a_target_element = codes "AssignmentPattern" ∷ pattern_types
types_as shaped.a_target_property = codes "Property" ∷ []
types_as shaped.a_target_rest = codes "RestElement" ∷ []
types_as shaped.an_import = codes "ImportSpecifier" ∷ codes "ImportDefaultSpecifier" ∷ codes "ImportNamespaceSpecifier" ∷ []
types_as shaped.a_module_name = codes "Identifier" ∷ codes "Literal" ∷ []
types_as shaped.a_string = codes "Literal" ∷ []
types_as shaped.an_export = []
types_as shaped.an_exported_name = []
types_as shaped.an_exported_declaration = declaration_types
types_as shaped.a_default_export = codes "FunctionDeclaration" ∷ codes "ClassDeclaration" ∷ expression_types
types_as (shaped.a_word w) = codes "Identifier" ∷ []

abbrev pub types_at : Place → List (List ℕ)
types_at (at c) = types_as c
types_at a_directive = codes "ExpressionStatement" ∷ []
types_at a_directive_text = codes "Literal" ∷ []
types_at (a_quasi g last) = codes "TemplateElement" ∷ []
types_at (an_exported own) = codes "ExportSpecifier" ∷ []
types_at a_local_name = codes "Identifier" ∷ []

module _ (d : Data) (s : List ℕ) (typed : Typed d s) where
  this : (w : List ℕ) (ws : List (List ℕ)) → has_type w d ≡ true → is_one_of (w ∷ ws) s ≡ true
  this w ws e = one_at_least s w ws (sym (typed_has d s w typed) ∙ e)

  some : (ws : List (List ℕ)) → has_one_of ws d ≡ true → is_one_of ws s ≡ true
  some ws e = sym (typed_one d s ws typed) ∙ e

  either : (a b : Bool) (ws : List (List ℕ)) → (a ≡ true → is_one_of ws s ≡ true) → (b ≡ true → is_one_of ws s ≡ true) → (a || b) ≡ true → is_one_of ws s ≡ true
  either a b ws f g e = elim (or_cases a b e) [ inl h ↦ f h | inr h ↦ g h ]

  -- a type, or else some
  first_or : (w : List ℕ) (b : Bool) (ws : List (List ℕ)) → (b ≡ true → is_one_of ws s ≡ true) → (has_type w d || b) ≡ true → is_one_of (w ∷ ws) s ≡ true
  first_or w b ws g e = either (has_type w d) b (w ∷ ws) (this w ws) (λ h. one_later s w ws (g h)) e

  with_more : (w : List ℕ) (b : Bool) (ws : List (List ℕ)) → (has_type w d && b) ≡ true → is_one_of (w ∷ ws) s ≡ true
  with_more w b ws e = this w ws (and_parts (has_type w d) b e).0

  key_literal : is_key_literal d ≡ true → is_one_of (codes "Literal" ∷ []) s ≡ true
  key_literal e = either (is_string_literal d) (is_literal_with is_number_shape d || is_big_int_literal d) (codes "Literal" ∷ []) (with_more (codes "Literal") (is_string_shape (literal d)) [])
      (either (is_literal_with is_number_shape d) (is_big_int_literal d) (codes "Literal" ∷ []) (with_more (codes "Literal") (is_number_shape (literal d)) []) (with_more (codes "Literal") (is_big_int_shape (literal d)) [])) e

  string_literal : is_string_literal d ≡ true → is_one_of (codes "Literal" ∷ []) s ≡ true
  string_literal e = with_more (codes "Literal") (is_string_shape (literal d)) [] e

  member : (ws : List (List ℕ)) → is_member_target d ≡ true → is_one_of (codes "MemberExpression" ∷ ws) s ≡ true
  member ws e = with_more (codes "MemberExpression") (not (has_true (codes "optional") d)) ws e

  in_loop : (b enumerates : Bool) → is_variable d ≡ b → (if b then is_head enumerates d else is_pattern d || is_member_target d) ≡ true → is_one_of (types_as (shaped.a_loop_left enumerates)) s ≡ true
  in_loop true enumerates is e = this (codes "VariableDeclaration") (codes "MemberExpression" ∷ pattern_types) is
  in_loop false enumerates is e = one_later s (codes "VariableDeclaration") (codes "MemberExpression" ∷ pattern_types)
      (either (is_pattern d) (is_member_target d) (codes "MemberExpression" ∷ pattern_types) (λ h. one_later s (codes "MemberExpression") pattern_types (some pattern_types h)) (member pattern_types) e)

  default_or_pattern : (is_pattern d || is_default d) ≡ true → is_one_of (codes "AssignmentPattern" ∷ pattern_types) s ≡ true
  default_or_pattern e = either (is_pattern d) (is_default d) (codes "AssignmentPattern" ∷ pattern_types) (λ h. one_later s (codes "AssignmentPattern") pattern_types (some pattern_types h)) (this (codes "AssignmentPattern") pattern_types) e

  statement_at : (depth : Depth) → is_statement_in depth d ≡ true → is_one_of (types_as (shaped.a_statement depth)) s ≡ true
  statement_at in_module e = either (has_one_of statement_types d) (has_one_of module_types d) (statement_types ++ module_types) (λ h. one_before s statement_types module_types (some statement_types h)) (λ h. one_behind s statement_types module_types (some module_types h)) e
  statement_at in_body e = some statement_types e
  statement_at nested e = some statement_types e

  stands_typed : (c : Class) → stands_as c d ≡ true → is_one_of (types_as c) s ≡ true
  stands_typed shaped.a_program e = this (codes "Program") [] e
  stands_typed (shaped.a_statement depth) e = statement_at depth e
  stands_typed shaped.a_block e = this (codes "BlockStatement") [] e
  stands_typed shaped.a_case e = this (codes "SwitchCase") [] e
  stands_typed shaped.a_catch e = this (codes "CatchClause") [] e
  stands_typed shaped.an_init e = first_or (codes "VariableDeclaration") (is_expression d) expression_types (some expression_types) e
  stands_typed (shaped.a_loop_left enumerates) e = in_loop (is_variable d) enumerates refl e
  stands_typed shaped.a_declarator e = this (codes "VariableDeclarator") [] e
  stands_typed shaped.a_pattern e = some pattern_types e
  stands_typed shaped.a_pattern_element e = default_or_pattern e
  stands_typed shaped.a_pattern_property e = this (codes "Property") [] e
  stands_typed shaped.a_pattern_rest e = this (codes "RestElement") [] e
  stands_typed shaped.a_parameter e = default_or_pattern e
  stands_typed shaped.a_binding e = this (codes "Identifier") [] e
  stands_typed shaped.a_label e = this (codes "Identifier") [] e
  stands_typed shaped.a_private_name e = this (codes "PrivateIdentifier") [] e
  stands_typed shaped.a_function_body e = this (codes "BlockStatement") [] e
  stands_typed shaped.an_arrow_body e = first_or (codes "BlockStatement") (is_expression d) expression_types (some expression_types) e
  stands_typed shaped.a_class_body e = this (codes "ClassBody") [] e
  stands_typed shaped.a_class_member e = some (types_as shaped.a_class_member) e
  stands_typed shaped.a_method e = with_more (codes "FunctionExpression") (not (is_given (codes "id") d)) [] e
  stands_typed shaped.an_expression e = some expression_types e
  stands_typed shaped.a_link e = some expression_types e
  stands_typed shaped.a_chain e = some (types_as shaped.a_chain) e
  stands_typed shaped.an_argument e = first_or (codes "SpreadElement") (is_expression d) expression_types (some expression_types) e
  stands_typed shaped.an_inner_argument e = this (codes "SpreadElement") [] e
  stands_typed (shaped.an_inner c) e = e
  stands_typed shaped.a_super e = this (codes "Super") [] e
  stands_typed shaped.an_object_property e = some (types_as shaped.an_object_property) e
  stands_typed (shaped.a_key true) e = some expression_types e
  stands_typed (shaped.a_key false) e = first_or (codes "Identifier") (is_key_literal d) (codes "Literal" ∷ []) key_literal e
  stands_typed (shaped.a_private_or_key computed) e = first_or (codes "Identifier") (is_key_literal d || has_type (codes "PrivateIdentifier") d) (codes "Literal" ∷ codes "PrivateIdentifier" ∷ [])
      (either (is_key_literal d) (has_type (codes "PrivateIdentifier") d) (codes "Literal" ∷ codes "PrivateIdentifier" ∷ []) (λ h. one_before s (codes "Literal" ∷ []) (codes "PrivateIdentifier" ∷ []) (key_literal h)) (λ h. one_later s (codes "Literal") (codes "PrivateIdentifier" ∷ []) (this (codes "PrivateIdentifier") [] h))) e
  stands_typed (shaped.an_inner_key computed) e = first_or (codes "Identifier") (is_key_literal d) (codes "Literal" ∷ []) key_literal e
  stands_typed shaped.a_tagged_template e = this (codes "TemplateLiteral") [] e
  stands_typed shaped.a_target e = either (is_pattern d) (is_member_target d) (codes "MemberExpression" ∷ pattern_types) (λ h. one_later s (codes "MemberExpression") pattern_types (some pattern_types h)) (member pattern_types) e
  stands_typed shaped.a_simple_target e = first_or (codes "Identifier") (is_member_target d) (codes "MemberExpression" ∷ []) (member []) e
  stands_typed shaped.an_element_target e = some pattern_types e
  stands_typed shaped.a_member_target e = member [] e
  stands_typed shaped.a_named_target e = first_or (codes "Identifier") (is_default d) (codes "AssignmentPattern" ∷ []) (this (codes "AssignmentPattern") []) e
  stands_typed shaped.a_target_name e = this (codes "Identifier") [] e
  stands_typed shaped.a_target_element e = default_or_pattern e
  stands_typed shaped.a_target_property e = this (codes "Property") [] e
  stands_typed shaped.a_target_rest e = this (codes "RestElement") [] e
  stands_typed shaped.an_import e = some (types_as shaped.an_import) e
  stands_typed shaped.a_module_name e = first_or (codes "Identifier") (is_string_literal d) (codes "Literal" ∷ []) string_literal e
  stands_typed shaped.a_string e = string_literal e
  stands_typed shaped.an_export e = e
  stands_typed shaped.an_exported_name e = e
  stands_typed shaped.an_exported_declaration e = some declaration_types e
  stands_typed shaped.a_default_export e = either (is_expression d) (has_one_of (codes "FunctionDeclaration" ∷ codes "ClassDeclaration" ∷ []) d) (types_as shaped.a_default_export) (λ h. one_behind s (codes "FunctionDeclaration" ∷ codes "ClassDeclaration" ∷ []) expression_types (some expression_types h)) (λ h. one_before s (codes "FunctionDeclaration" ∷ codes "ClassDeclaration" ∷ []) expression_types (some (codes "FunctionDeclaration" ∷ codes "ClassDeclaration" ∷ []) h)) e
  stands_typed (shaped.a_word w) e = with_more (codes "Identifier") (has_text (codes "name") w d) [] e

-- what may stand in a place is of a type that may
pub typed_there : (p : Place) (d : Data) (s : List ℕ) → Typed d s → may_stand p d ≡ true → is_one_of (types_at p) s ≡ true
typed_there (at c) d s typed e = stands_typed d s typed c e
typed_there a_directive d s typed e = this d s typed (codes "ExpressionStatement") [] e
typed_there a_directive_text d s typed e = with_more d s typed (codes "Literal") (is_some (text_at (codes "value") d)) [] e
typed_there (a_quasi g last) d s typed e = with_more d s typed (codes "TemplateElement") (is_piece last (flag_at (codes "tail") d)) [] e
typed_there (an_exported own) d s typed e = this d s typed (codes "ExportSpecifier") [] e
typed_there a_local_name d s typed e = this d s typed (codes "Identifier") [] e

-- ---- the places of expressions

abbrev pub is_expression_place : Place → Bool
is_expression_place (at shaped.an_init) = true
is_expression_place (at shaped.an_arrow_body) = true
is_expression_place (at shaped.an_expression) = true
is_expression_place (at shaped.a_link) = true
is_expression_place (at shaped.an_argument) = true
is_expression_place (at (shaped.a_key true)) = true
is_expression_place (at shaped.a_default_export) = true
is_expression_place p = false

-- the types of expressions that stand nowhere else
abbrev pub plain_types : List (List ℕ)
plain_types =
    codes "ThisExpression" ∷ codes "ArrayExpression" ∷ codes "ObjectExpression" ∷ codes "ArrowFunctionExpression" ∷
    codes "ClassExpression" ∷ codes "UnaryExpression" ∷ codes "UpdateExpression" ∷ codes "BinaryExpression" ∷
    codes "LogicalExpression" ∷ codes "AssignmentExpression" ∷ codes "ConditionalExpression" ∷
    codes "SequenceExpression" ∷ codes "NewExpression" ∷ codes "ChainExpression" ∷ codes "YieldExpression" ∷
    codes "TaggedTemplateExpression" ∷ codes "MetaProperty" ∷ codes "ImportExpression" ∷ []

pub plain_there : (p : Place) (s : List ℕ) → is_one_of plain_types s ≡ true → is_one_of (types_at p) s ≡ true → is_expression_place p ≡ true
plain_there (at shaped.an_init) s plain e = refl
plain_there (at shaped.an_arrow_body) s plain e = refl
plain_there (at shaped.an_expression) s plain e = refl
plain_there (at shaped.a_link) s plain e = refl
plain_there (at shaped.an_argument) s plain e = refl
plain_there (at (shaped.a_key true)) s plain e = refl
plain_there (at shaped.a_default_export) s plain e = refl
plain_there (at (shaped.a_statement in_module)) s plain e = absurd (apart plain_types (statement_types ++ module_types) s refl plain e)
plain_there p s plain e = absurd (apart plain_types (types_at p) s refl plain e)
