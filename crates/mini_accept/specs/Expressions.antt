-- The plans of expressions, names and literals (ESTree; ECMA-262, "Expressions").
use Rattle.std.specs.Prelude.{ℕ, suc, nat_eq, nat_le, List, [], ◌∷◌, Bool, true, false, ◌&&◌, ◌||◌, not, Option, Some, None, option_and_then, option_map, unwrap_or, is_some, if◌then◌else◌, codes, ℤ}
use Rattle.serde_json.specs.Data.{Data, null, boolean, number, string, array, object, Members, no_members, member}
use Rattle.serde_json.specs.Find.{get, as_bool, as_null, as_str}
use Rattle.mini_model.specs.Texts.{units_of}
use Rattle.mini_model.specs.Templates.{cooked}
use Rattle.mini_model.specs.declared.kind.MetaPropertyKind.{MetaPropertyKind}
use Rattle.mini_model.specs.declared.kind.MetaPropertyKind.TheVariants.{NewTarget, ImportMeta}
use Rattle.mini_model.specs.declared.kind.PropertyKind.{PropertyKind}
use Rattle.mini_model.specs.declared.operator.AssignmentOperator.{AssignmentOperator}
use Rattle.mini_model.specs.declared.operator.AssignmentOperator.TheVariants.{Assign}
use Rattle.mini_model.specs.declared.operator.BinaryOperator.{BinaryOperator}
use Rattle.mini_model.specs.declared.operator.BinaryOperator.TheVariants.{In}
use Rattle.mini_model.specs.declared.operator.UnaryOperator.{UnaryOperator}
use Rattle.mini_model.specs.declared.operator.UnaryOperator.TheVariants.{UnaryNegation}
use Rattle.mini_model.specs.declared.shape.Shape.{Shape}
use Rattle.mini_model.specs.declared.shape.Shape.TheVariants as shape
use Rattle.mini_model.specs.Tree.{unresolved}
use Rattle.mini_accept.specs.WellShaped as shaped
use Rattle.mini_accept.specs.WellShaped.{Class, Tagging, tagged, untagged, is_text, is_init, is_text_of_cooked, value_class}
use Rattle.mini_accept.specs.Places.{field, Place, at, a_directive_text, a_quasi}
use Rattle.mini_accept.specs.Fields.{◌>>=◌, require, is_given, is_there_with, text_at, paired_units, units_at, has_text, flag_at, list_at, item_count, name_at, has_type, child_has_type}
use Rattle.mini_accept.specs.Literals.{literal, with_minus}
use Rattle.mini_accept.specs.Standing.{is_identifier, has_true}
use Rattle.mini_accept.specs.Words.{word_at, assignment_operators, binary_operators, logical_operators, property_kinds, unary_operators, update_operators}
use Rattle.mini_accept.specs.Plans.{tree_at, inner_at, checked, Child, one, Plan, node_of, child, inner, optional, ItemPart, each, or_hole, list, list_child}

-- ---- names and literals

-- what an identifier is, by where it stands: a name that is declared, one that names no variable,
-- or one that is read or written
abbrev pub identifier_by : Shape → List ℕ → Plan
identifier_by h s = record { shape = h; names = unresolved s ∷ []; children = [] }

abbrev pub word_plan : List ℕ → Plan
word_plan s = record { shape = shape.IdentifierName s; names = []; children = [] }

abbrev pub identifier_as : Class → List ℕ → Plan
identifier_as shaped.a_pattern s = identifier_by shape.BindingIdentifier s
identifier_as shaped.a_pattern_element s = identifier_by shape.BindingIdentifier s
identifier_as shaped.a_parameter s = identifier_by shape.BindingIdentifier s
identifier_as shaped.a_binding s = identifier_by shape.BindingIdentifier s
identifier_as shaped.a_label s = word_plan s
identifier_as (shaped.a_key false) s = word_plan s
identifier_as (shaped.a_private_or_key computed) s = word_plan s
identifier_as (shaped.an_inner_key computed) s = word_plan s
identifier_as shaped.a_module_name s = word_plan s
identifier_as (shaped.a_word w) s = word_plan s
identifier_as c s = identifier_by shape.Identifier s

abbrev pub identifier_in : Place → List ℕ → Plan
identifier_in (at c) s = identifier_as c s
identifier_in p s = identifier_by shape.Identifier s

abbrev pub identifier : Place → Data → Option Plan
identifier p d = option_map (identifier_in p) (name_at d)

abbrev pub private_identifier : Data → Option Plan
private_identifier d = do
  s ← name_at d
  node_of (shape.PrivateIdentifier s) []

-- a directive's text is looked at for nothing else
abbrev pub literal_plan : Place → Data → Option Plan
literal_plan a_directive_text d = do
  s ← text_at (codes "value") d
  node_of (shape.StringLiteral (units_of s)) []
literal_plan p d = do
  h ← literal d
  node_of h []

-- ---- arrays and objects

-- an argument or an element
abbrev pub argument : ItemPart
argument = each shaped.an_argument

abbrev pub array_expression : Data → Option Plan
array_expression d = do
  elements ← list_child (or_hole argument) (codes "elements") d
  node_of shape.ArrayExpression (elements ∷ [])

abbrev pub object_expression : Data → Option Plan
object_expression d = do
  properties ← list_child (each shaped.an_object_property) (codes "properties") d
  node_of shape.ObjectExpression (properties ∷ [])

abbrev pub is_same_name : Option (List ℕ) → Data → Bool
is_same_name None d = false
is_same_name (Some s) d = is_identifier d && has_text (codes "name") s d

-- the value, or what of it stands before its default, is an identifier of this name
abbrev pub is_name_with_default : Option (List ℕ) → Data → Bool
is_name_with_default s d = if has_type (codes "AssignmentPattern") d then is_there_with (is_same_name s) (get (codes "left") d) else is_same_name s d

abbrev pub identifier_text : Data → Option (List ℕ)
identifier_text d = if is_identifier d then text_at (codes "name") d else None

-- the value of a shorthand property repeats its key
abbrev pub repeats_key : Data → Bool
repeats_key d = is_there_with (is_name_with_default (option_and_then identifier_text (get (codes "key") d))) (get (codes "value") d)

-- a method or an accessor is no shorthand, and an accessor no method; a shorthand property repeats
-- its key
abbrev pub is_whole_property : PropertyKind → Bool → Bool → Bool → Data → Bool
is_whole_property k is_method shorthand computed d = (is_init k || not (is_method || shorthand)) && (not (is_method && shorthand) && (not shorthand || (not computed && repeats_key d)))

abbrev pub object_property : Data → Option Plan
object_property d = do
  k ← word_at property_kinds (codes "kind") d
  is_method ← flag_at (codes "method") d
  shorthand ← flag_at (codes "shorthand") d
  computed ← flag_at (codes "computed") d
  require (is_whole_property k is_method shorthand computed d)
      (node_of (shape.ObjectProperty k is_method shorthand computed) (child (codes "key") (shaped.a_key computed) ∷ child (codes "value") (value_class k is_method) ∷ []))

abbrev pub is_inner_argument : Place → Bool
is_inner_argument (at shaped.an_inner_argument) = true
is_inner_argument p = false

abbrev pub spread : Place → Data → Option Plan
spread p d = node_of shape.SpreadElement ((if is_inner_argument p then inner (codes "argument") shaped.an_expression else child (codes "argument") shaped.an_expression) ∷ [])

-- ---- operators

-- `prefix` is true, or absent
abbrev pub is_prefix : Option Data → Bool
is_prefix None = true
is_prefix (Some d) = unwrap_or (as_bool d) false

abbrev pub minus_below : UnaryOperator → Data → Option ℤ
minus_below UnaryNegation d = option_and_then with_minus (get (codes "argument") d)
minus_below o d = None

-- a minus before a number above 0 is one literal with it
abbrev pub unary_plan : UnaryOperator → Option ℤ → Option Plan
unary_plan o None = node_of (shape.UnaryExpression o) (child (codes "argument") shaped.an_expression ∷ [])
unary_plan o (Some n) = Some (record { shape = shape.NumericLiteral n; names = []; children = one (checked (field (codes "argument")) (at shaped.an_expression)) ∷ [] })

abbrev pub unary : Data → Option Plan
unary d = do
  o ← word_at unary_operators (codes "operator") d
  require (is_prefix (get (codes "prefix") d)) (unary_plan o (minus_below o d))

abbrev pub update : Data → Option Plan
update d = do
  o ← word_at update_operators (codes "operator") d
  prefix ← flag_at (codes "prefix") d
  node_of (shape.UpdateExpression o prefix) (child (codes "argument") shaped.a_simple_target ∷ [])

abbrev pub operands : Data → List Child
operands d = child (codes "left") shaped.an_expression ∷ child (codes "right") shaped.an_expression ∷ []

abbrev pub is_in : BinaryOperator → Bool
is_in In = true
is_in o = false

abbrev pub binary : Data → Option Plan
binary d = do
  o ← word_at binary_operators (codes "operator") d
  if is_in o && child_has_type (codes "left") (codes "PrivateIdentifier") d
      then node_of shape.PrivateInExpression (child (codes "left") shaped.a_private_name ∷ inner (codes "right") shaped.an_expression ∷ [])
      else node_of (shape.BinaryExpression o) (operands d)

abbrev pub logical : Data → Option Plan
logical d = do
  o ← word_at logical_operators (codes "operator") d
  node_of (shape.LogicalExpression o) (operands d)

-- patterns stand under `=` alone
abbrev pub target_class : AssignmentOperator → Class
target_class Assign = shaped.a_target
target_class o = shaped.a_simple_target

abbrev pub assignment : Data → Option Plan
assignment d = do
  o ← word_at assignment_operators (codes "operator") d
  node_of (shape.AssignmentExpression o) (child (codes "left") (target_class o) ∷ child (codes "right") shaped.an_expression ∷ [])

abbrev pub conditional : Data → Option Plan
conditional d = node_of shape.ConditionalExpression (child (codes "test") shaped.an_expression ∷ child (codes "consequent") shaped.an_expression ∷ child (codes "alternate") shaped.an_expression ∷ [])

-- two parts or more
abbrev pub sequence : Data → Option Plan
sequence d = do
  ds ← list_at (codes "expressions") d
  require (nat_le 2 (item_count ds)) (node_of shape.SequenceExpression (list (each shaped.an_expression) (codes "expressions") ds ∷ []))

-- ---- calls and members

-- in a chain, its links may be optional (ECMA-262, "Optional Chains")
abbrev pub is_link : Place → Bool
is_link (at shaped.a_link) = true
is_link (at shaped.a_chain) = true
is_link p = false

abbrev pub link_class : Place → Class
link_class p = if is_link p then shaped.a_link else shaped.an_expression

abbrev pub inner_argument : ItemPart
inner_argument last d s = if has_type (codes "SpreadElement") d then tree_at s (at shaped.an_inner_argument) else inner_at s (at shaped.an_expression)

abbrev pub super_call : Bool → Data → Option Plan
super_call optional d = do
  arguments ← list_child inner_argument (codes "arguments") d
  require (not optional) (node_of shape.SuperCallExpression (child (codes "callee") shaped.a_super ∷ arguments ∷ []))

abbrev pub plain_call : Bool → Place → Data → Option Plan
plain_call optional p d = do
  arguments ← list_child argument (codes "arguments") d
  require (not optional || is_link p) (node_of (shape.CallExpression optional) (child (codes "callee") (link_class p) ∷ arguments ∷ []))

abbrev pub call : Place → Data → Option Plan
call p d = do
  optional ← flag_at (codes "optional") d
  if child_has_type (codes "callee") (codes "Super") d then super_call optional d else plain_call optional p d

abbrev pub new : Data → Option Plan
new d = do
  arguments ← list_child argument (codes "arguments") d
  node_of shape.NewExpression (child (codes "callee") shaped.an_expression ∷ arguments ∷ [])

abbrev pub super_member : Bool → Option Plan
super_member computed =
    if computed then node_of shape.SuperComputedMemberExpression (child (codes "object") shaped.a_super ∷ inner (codes "property") shaped.an_expression ∷ [])
    else node_of shape.SuperStaticMemberExpression (child (codes "object") shaped.a_super ∷ child (codes "property") shaped.a_label ∷ [])

abbrev pub computed_member : Bool → Class → Option Plan
computed_member optional c = node_of (shape.ComputedMemberExpression optional) (child (codes "object") c ∷ child (codes "property") shaped.an_expression ∷ [])

abbrev pub named_member : Bool → Class → Data → Option Plan
named_member optional c d =
    if child_has_type (codes "property") (codes "PrivateIdentifier") d
    then node_of (shape.PrivateFieldExpression optional) (inner (codes "object") c ∷ child (codes "property") shaped.a_private_name ∷ [])
    else node_of (shape.StaticMemberExpression optional) (child (codes "object") c ∷ child (codes "property") shaped.a_label ∷ [])

abbrev pub plain_member : Bool → Bool → Place → Data → Option Plan
plain_member optional computed p d = require (not optional || is_link p) (if computed then computed_member optional (link_class p) else named_member optional (link_class p) d)

abbrev pub member_expression : Place → Data → Option Plan
member_expression p d = do
  optional ← flag_at (codes "optional") d
  computed ← flag_at (codes "computed") d
  if child_has_type (codes "object") (codes "Super") d then require (not optional) (super_member computed) else plain_member optional computed p d

-- the field that leads to the next link of a chain; a chain below is no link
abbrev pub link_key : Data → List ℕ
link_key d = if has_type (codes "CallExpression") d then codes "callee" else (if has_type (codes "MemberExpression") d then codes "object" else [])

-- a call or a member
abbrev pub is_chain_link : Data → Bool
is_chain_link d = not (is_text (link_key d) [])

-- some link of the chain is optional
abbrev mutual
  pub has_mark : Data → Bool
  has_mark (object ms) = is_chain_link (object ms) && (has_true (codes "optional") (object ms) || has_mark_at (link_key (object ms)) ms)
  has_mark null = false
  has_mark (boolean b) = false
  has_mark (number n) = false
  has_mark (string s) = false
  has_mark (array ds) = false

  pub has_mark_at : List ℕ → Members → Bool
  has_mark_at key no_members = false
  has_mark_at key (member k d ms) = if is_text k key then has_mark d else has_mark_at key ms

abbrev pub chain : Data → Option Plan
chain d = require (is_there_with has_mark (get (codes "expression") d)) (node_of shape.ChainExpression (child (codes "expression") shaped.a_chain ∷ []))

-- ---- others

-- what is delegated to is there
abbrev pub yield : Data → Option Plan
yield d = do
  delegate ← flag_at (codes "delegate") d
  require (not delegate || is_given (codes "argument") d) (node_of (shape.YieldExpression delegate) (optional (codes "argument") shaped.an_expression d ∷ []))

abbrev pub tagging_of : Place → Tagging
tagging_of (at shaped.a_tagged_template) = tagged
tagging_of p = untagged

abbrev pub quasi_part : Tagging → ItemPart
quasi_part g last d s = tree_at s (a_quasi g last)

abbrev pub piece_part : Tagging → ItemPart
piece_part tagged last d s = inner_at s (at shaped.an_expression)
piece_part untagged last d s = tree_at s (at shaped.an_expression)

-- one quasi more than expressions
abbrev pub template : Tagging → Data → Option Plan
template g d = do
  quasis ← list_at (codes "quasis") d
  expressions ← list_at (codes "expressions") d
  require (nat_eq (item_count quasis) (suc (item_count expressions)))
      (node_of shape.TemplateLiteral (list (quasi_part g) (codes "quasis") quasis ∷ list (piece_part g) (codes "expressions") expressions ∷ []))

-- the cooked text, or null; nothing where it is neither
abbrev pub cooked_by : Data → Option (Option (List ℕ))
cooked_by d = if is_some (as_null d) then Some None else option_map (λ s. Some s) (option_and_then paired_units (as_str d))

-- malformed text has a tag
abbrev pub may_be_cooked : Tagging → Option (List ℕ) → Bool
may_be_cooked tagged c = true
may_be_cooked untagged c = is_some c

abbrev pub tagging_at : Place → Tagging
tagging_at (a_quasi g last) = g
tagging_at p = untagged

abbrev pub quasi : Tagging → Data → Option Plan
quasi g d = do
  tail ← flag_at (codes "tail") d
  value ← get (codes "value") d
  raw ← units_at (codes "raw") value
  c ← option_and_then cooked_by (get (codes "cooked") value)
  require (may_be_cooked g c && is_text_of_cooked c (cooked raw)) (node_of (shape.TemplateElement tail raw c) [])

abbrev pub tagged_template : Data → Option Plan
tagged_template d = node_of shape.TaggedTemplateExpression (inner (codes "tag") shaped.an_expression ∷ child (codes "quasi") shaped.a_tagged_template ∷ [])

abbrev pub meta_plan : MetaPropertyKind → List ℕ → List ℕ → Option Plan
meta_plan k meta property = node_of (shape.MetaProperty k) (child (codes "meta") (shaped.a_word meta) ∷ child (codes "property") (shaped.a_word property) ∷ [])

-- the keyword of a meta property
abbrev pub has_meta : List ℕ → Data → Bool
has_meta word d = is_there_with (has_text (codes "name") word) (get (codes "meta") d)

abbrev pub meta_property : Data → Option Plan
meta_property d =
    if has_meta (codes "new") d then meta_plan NewTarget (codes "new") (codes "target")
    else (if has_meta (codes "import") d then meta_plan ImportMeta (codes "import") (codes "meta") else None)

abbrev pub import_expression : Data → Option Plan
import_expression d = node_of shape.ImportExpression (inner (codes "source") shaped.an_expression ∷ [])
