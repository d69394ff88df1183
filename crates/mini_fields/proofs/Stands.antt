-- Where a node may stand, by its type.
use Rattle.std.proofs.Common.{◌≡◌, ℕ, List, [], ◌∷◌, Bool, refl, sym, ap, ap₂, ◌∙◌, Option, Some, None, true, false}
use Rattle.std.specs.Prelude.{◌&&◌, ◌||◌, not, is_some, if◌then◌else◌, codes}
use Rattle.serde_json.specs.Data.{Data}
use Rattle.mini_accept.specs.declared.kind.Kind.TheVariants as kind
use Rattle.mini_accept.specs.declared.kind.Kind.{Kind}
use Rattle.mini_accept.specs.WellShaped.{is_text}
use Rattle.mini_accept.specs.Fields.{kind_of, has_one_of, has_type, has_text, is_one_of}
use Rattle.mini_accept.specs.Literals.{is_key_literal, is_string_literal}
use Rattle.mini_accept.specs.Standing.{expression_types, statement_types, is_expression, is_pattern, is_identifier, is_block, is_variable, is_default, is_member_target, is_head, module_types, stands_as, is_unread, may_stand}
use Rattle.mini_accept.specs.Places.{Place}
use Rattle.mini_accept.proofs.Types.{type_name}
use Rattle.mini_fields.specs.Stands.{is_expression_kind, is_statement_kind, is_pattern_kind, is_identifier_kind, is_block_kind, asked_type, stands_otherwise}
use Rattle.mini_fields.specs.declared.place.Class.{Class}
use Rattle.mini_fields.specs.declared.place.Class.TheVariants as class
use Rattle.mini_fields.specs.declared.place.Depth.TheVariants as depth
use Rattle.mini_fields.specs.Views.{class_of, letters_of}
use Rattle.mini_fields.proofs.Typed.{one_by, type_by}

abbrev patterns : List (List ℕ)
patterns = codes "Identifier" ∷ codes "ObjectPattern" ∷ codes "ArrayPattern" ∷ []

expression_named : (k : Kind) → is_one_of expression_types (type_name k) ≡ is_expression_kind k
expression_named kind.Program = refl
expression_named k = refl

pub expression_by : (d : Data) (k : Kind) → kind_of d ≡ Some k → is_expression d ≡ is_expression_kind k
expression_by d k is = one_by expression_types k d is ∙ expression_named k

statement_named : (k : Kind) → is_one_of statement_types (type_name k) ≡ is_statement_kind k
statement_named kind.Program = refl
statement_named k = refl

pub statement_by : (d : Data) (k : Kind) → kind_of d ≡ Some k → has_one_of statement_types d ≡ is_statement_kind k
statement_by d k is = one_by statement_types k d is ∙ statement_named k

pattern_named : (k : Kind) → is_one_of patterns (type_name k) ≡ is_pattern_kind k
pattern_named kind.Program = refl
pattern_named k = refl

pub pattern_by : (d : Data) (k : Kind) → kind_of d ≡ Some k → is_pattern d ≡ is_pattern_kind k
pattern_by d k is = one_by patterns k d is ∙ pattern_named k

identifier_named : (k : Kind) → is_text (codes "Identifier") (type_name k) ≡ is_identifier_kind k
identifier_named kind.Program = refl
identifier_named k = refl

pub identifier_by : (d : Data) (k : Kind) → kind_of d ≡ Some k → is_identifier d ≡ is_identifier_kind k
identifier_by d k is = type_by (codes "Identifier") k d is ∙ identifier_named k

block_named : (k : Kind) → is_text (codes "BlockStatement") (type_name k) ≡ is_block_kind k
block_named kind.Program = refl
block_named k = refl

pub block_by : (d : Data) (k : Kind) → kind_of d ≡ Some k → is_block d ≡ is_block_kind k
block_by d k is = type_by (codes "BlockStatement") k d is ∙ block_named k

-- ---- by the class of the place

abbrev pub by_asked : Option (List ℕ) → Bool → Data → Bool
by_asked None b d = b
by_asked (Some s) b d = has_type s d

module _ (k : Kind) (d : Data) (is : kind_of d ≡ Some k) where
  or_expression : (b : Bool) → b || is_expression_kind k ≡ b || is_expression d
  or_expression b = ap (λ e. b || e) (sym (expression_by d k is))

  pattern_or : (b : Bool) → is_pattern_kind k || b ≡ is_pattern d || b
  pattern_or b = ap (λ p. p || b) (sym (pattern_by d k is))

  identifier_or : (b : Bool) → is_identifier_kind k || b ≡ is_identifier d || b
  identifier_or b = ap (λ i. i || b) (sym (identifier_by d k is))

  pub stands_told : (c : Class) → by_asked (asked_type c) (stands_otherwise c k d) d ≡ stands_as (class_of c) d
  stands_told class.Expression = sym (expression_by d k is)
  stands_told class.Link = sym (expression_by d k is)
  stands_told (class.Key true) = sym (expression_by d k is)
  stands_told (class.Statement depth.InModule) = ap (λ b. b || has_one_of module_types d) (sym (statement_by d k is))
  stands_told (class.Statement depth.InBody) = sym (statement_by d k is)
  stands_told (class.Statement depth.Nested) = sym (statement_by d k is)
  stands_told class.Block = sym (block_by d k is)
  stands_told class.FunctionBody = sym (block_by d k is)
  stands_told class.ArrowBody = ap₂ ◌||◌ (sym (block_by d k is)) (sym (expression_by d k is))
  stands_told class.Init = or_expression (is_variable d)
  stands_told (class.LoopLeft enumerates) = ap (λ b. if is_variable d then is_head enumerates d else b) (pattern_or (is_member_target d))
  stands_told class.Argument = or_expression (has_type (codes "SpreadElement") d)
  stands_told class.Pattern = sym (pattern_by d k is)
  stands_told class.ElementTarget = sym (pattern_by d k is)
  stands_told class.PatternElement = pattern_or (is_default d)
  stands_told class.Parameter = pattern_or (is_default d)
  stands_told class.TargetElement = pattern_or (is_default d)
  stands_told class.Binding = sym (identifier_by d k is)
  stands_told class.Label = sym (identifier_by d k is)
  stands_told class.TargetName = sym (identifier_by d k is)
  stands_told (class.Key false) = identifier_or (is_key_literal d)
  stands_told class.InnerKey = identifier_or (is_key_literal d)
  stands_told class.PrivateOrKey = identifier_or (is_key_literal d || has_type (codes "PrivateIdentifier") d)
  stands_told class.Target = pattern_or (is_member_target d)
  stands_told class.SimpleTarget = identifier_or (is_member_target d)
  stands_told class.NamedTarget = identifier_or (is_default d)
  stands_told class.ModuleName = identifier_or (is_string_literal d)
  stands_told (class.Word w) = ap (λ i. i && has_text (codes "name") (letters_of w) d) (sym (identifier_by d k is))
  stands_told class.DefaultExport = ap (λ e. e || has_one_of (codes "FunctionDeclaration" ∷ codes "ClassDeclaration" ∷ []) d) (sym (expression_by d k is))
  stands_told c = refl

-- ---- the test of the node above, where the type is known

and_false : (b : Bool) → b && false ≡ false
and_false true = refl
and_false false = refl

and_true : (b : Bool) → b && true ≡ b
and_true true = refl
and_true false = refl

pub stands_placed : (strict : Bool) (p : Place) (d : Data) → may_stand p d ≡ true → not (is_unread strict p d) && (is_some (kind_of d) && not (may_stand p d)) ≡ false
stands_placed strict p d stands = rw (stands, and_false (is_some (kind_of d))) (and_false (not (is_unread strict p d)))

pub stands_nowhere : (strict : Bool) (p : Place) (d : Data) (k : Kind) → kind_of d ≡ Some k → may_stand p d ≡ false → not (is_unread strict p d) && (is_some (kind_of d) && not (may_stand p d)) ≡ not (is_unread strict p d)
stands_nowhere strict p d k is stands = rw (is, stands) (and_true (not (is_unread strict p d)))
