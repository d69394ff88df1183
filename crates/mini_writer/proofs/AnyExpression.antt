-- Each shape that may stand where an expression may comes back, where smaller trees do.
use Rattle.std.proofs.Common.{◌≡◌, ℕ, suc, [], refl, ap, sym, ◌∙◌, Bool, true, false, ◌||◌}
use Rattle.std.specs.Prelude.{not}
use Rattle.std.proofs.lemmas.Bool.{and_parts, or_left, or_right, false≢true}
use Rattle.mini_model.specs.Texts.{are_units}
use Rattle.mini_model.specs.declared.kind.MetaPropertyKind.TheVariants.{NewTarget, ImportMeta}
use Rattle.mini_model.specs.declared.operator.AssignmentOperator.TheVariants.{Assign}
use Rattle.mini_model.specs.declared.operator.UnaryOperator.TheVariants as unary
use Rattle.mini_model.specs.declared.shape.Shape.{Shape}
use Rattle.mini_model.specs.declared.shape.Shape.TheVariants as shape
use Rattle.mini_model.specs.Tree.{Trees}
use Rattle.mini_accept.specs.WellShaped as shaped
use Rattle.mini_accept.specs.WellShaped.{Class, filling_by, expression_slots, is_optional, has_names, has_plain_fields, has_its_parts, is_strict_in, is_paired}
use Rattle.mini_accept.proofs.Fitting.{parts_by_shape}
use Rattle.mini_writer.proofs.Units.{fields_are_units}
use Rattle.mini_writer.proofs.Fitting.{Filled, with_none, unless_filled}
use Rattle.mini_writer.proofs.Slots.{Back}
use Rattle.mini_writer.proofs.AcceptedBodies.{BodiesBack}
use Rattle.mini_writer.proofs.Statements.{Comes}
use Rattle.mini_writer.proofs.Leaves.{string_back, boolean_back, null_back, reg_exp_back, big_int_literal_back, signed_back}
use Rattle.mini_writer.proofs.Expressions as expression
use Rattle.mini_writer.proofs.Expressions.{Expressive, link_of}
use Rattle.mini_writer.proofs.AcceptedMembers as member
use Rattle.mini_writer.proofs.Marks as mark
use Rattle.mini_writer.proofs.Templates as template
use Rattle.mini_writer.proofs.Functions as function

module _ (k : ℕ) (back : Back k) (bodies : BodiesBack k) (strict : Bool) (c : Class) (linked : Bool) (x : Expressive c linked) where
  -- the test of the children of a shape that no class rules
  ruled : (h : Shape) (ts : Trees) → has_its_parts c h ts ≡ has_its_parts shaped.a_program h ts → has_its_parts c h ts ≡ true → has_its_parts shaped.a_program h ts ≡ true
  ruled h ts same e = sym same ∙ e

  pub expression_comes : (h : Shape) (ts : Trees) → has_names h [] ≡ true → has_plain_fields h ≡ true → fields_are_units h ≡ true → has_its_parts c h ts ≡ true → (not (is_optional h) || linked) ≡ true
      → Filled k (is_strict_in strict h) (filling_by (expression_slots (link_of linked) h)) ts → Comes k strict c h ts
  expression_comes shape.Identifier ts names fields units parts allowed w = absurd (false≢true names)
  expression_comes shape.ThisExpression ts names fields units parts allowed w = expression.this_expression k back strict c linked x ts w
  expression_comes (shape.NumericLiteral z) ts names fields units parts allowed w = with_none k strict (Comes k strict c (shape.NumericLiteral z)) (λ m n. signed_back (suc k) strict c z m x.stands fields n) ts w
  expression_comes (shape.StringLiteral s) ts names fields units parts allowed w = with_none k strict (Comes k strict c (shape.StringLiteral s)) (λ m n. string_back (suc (suc k)) strict c s m (λ e. x.stands _ refl) fields units n) ts w
  expression_comes (shape.BooleanLiteral b) ts names fields units parts allowed w = with_none k strict (Comes k strict c (shape.BooleanLiteral b)) (λ m n. boolean_back (suc (suc k)) strict c b m (x.stands _ refl) n) ts w
  expression_comes shape.NullLiteral ts names fields units parts allowed w = with_none k strict (Comes k strict c shape.NullLiteral) (λ m n. null_back (suc (suc k)) strict c m (x.stands _ refl) n) ts w
  expression_comes (shape.RegExpLiteral s r) ts names fields units parts allowed w =
      let (a, b) = and_parts (is_paired s) (is_paired r) fields in
      let (u, v) = and_parts (are_units s) (are_units r) units in
      with_none k strict (Comes k strict c (shape.RegExpLiteral s r)) (λ m n. reg_exp_back (suc (suc k)) strict c s r m (x.stands _ refl) a u b v n) ts w
  expression_comes (shape.BigIntLiteral i) ts names fields units parts allowed w = with_none k strict (Comes k strict c (shape.BigIntLiteral i)) (λ m n. big_int_literal_back (suc (suc k)) strict c i m x.no_key (x.stands _ refl) fields n) ts w
  expression_comes shape.ArrayExpression ts names fields units parts allowed w = expression.array_expression k back strict c linked x ts w
  expression_comes shape.ObjectExpression ts names fields units parts allowed w = expression.object_expression k back strict c linked x ts w
  expression_comes (shape.Function false g ss) ts names fields units parts allowed w = function.function_expression k back bodies strict c g ss fields units (λ a. true) (λ a e params b. x.stands _ refl) ts w refl
  expression_comes (shape.ArrowFunctionExpression ss) ts names fields units parts allowed w = function.arrow k back bodies strict c linked x ss fields units ts w (ruled (shape.ArrowFunctionExpression ss) ts (parts_by_shape c (shape.ArrowFunctionExpression ss) ts refl) parts)
  expression_comes (shape.Class false) ts names fields units parts allowed w = function.class_expression k back strict c (λ a b d. x.stands _ refl) ts w (ruled (shape.Class false) ts (parts_by_shape c (shape.Class false) ts refl) parts)
  expression_comes (shape.UnaryExpression unary.UnaryNegation) ts names fields units parts allowed w = expression.unary_expression k back strict c linked x unary.UnaryNegation ts w (λ is. ruled (shape.UnaryExpression unary.UnaryNegation) ts (parts_by_shape c (shape.UnaryExpression unary.UnaryNegation) ts refl) parts)
  expression_comes (shape.UnaryExpression o) ts names fields units parts allowed w = expression.unary_expression k back strict c linked x o ts w (λ is. absurd (cc is))
  expression_comes (shape.UpdateExpression o prefix) ts names fields units parts allowed w = expression.update_expression k back strict c linked x o prefix ts w
  expression_comes (shape.BinaryExpression o) ts names fields units parts allowed w = expression.binary_expression k back strict c linked x o ts w
  expression_comes shape.PrivateInExpression ts names fields units parts allowed w = expression.private_in k back strict c linked x ts w
  expression_comes (shape.LogicalExpression o) ts names fields units parts allowed w = expression.logical_expression k back strict c linked x o ts w
  expression_comes (shape.AssignmentExpression Assign) ts names fields units parts allowed w = expression.assigns k back strict c linked x ts w
  expression_comes (shape.AssignmentExpression o) ts names fields units parts allowed w = expression.assigns_by k back strict c linked x o refl ts w
  expression_comes shape.ConditionalExpression ts names fields units parts allowed w = expression.conditional k back strict c linked x ts w
  expression_comes shape.SequenceExpression ts names fields units parts allowed w = expression.sequence k back strict c linked x ts w (ruled shape.SequenceExpression ts (parts_by_shape c shape.SequenceExpression ts refl) parts)
  expression_comes (shape.CallExpression b) ts names fields units parts allowed w = member.call k back strict c linked x.link b allowed (λ a d. x.stands _ refl) ts w
  expression_comes shape.SuperCallExpression ts names fields units parts allowed w = member.super_call k back strict c (λ a d. x.stands _ refl) ts w
  expression_comes shape.NewExpression ts names fields units parts allowed w = expression.new k back strict c linked x ts w
  expression_comes (shape.StaticMemberExpression b) ts names fields units parts allowed w = member.static_member k back strict c linked x.link b allowed (λ a d. x.stands _ refl) ts w
  expression_comes (shape.ComputedMemberExpression b) ts names fields units parts allowed w = member.computed_member k back strict c linked x.link b allowed (λ a d. x.stands _ refl) ts w
  expression_comes (shape.PrivateFieldExpression b) ts names fields units parts allowed w = member.private_field k back strict c linked x.link b allowed (λ a d. x.stands _ refl) ts w
  expression_comes shape.SuperStaticMemberExpression ts names fields units parts allowed w = member.super_static k back strict c (λ a d. x.stands _ refl) ts w
  expression_comes shape.SuperComputedMemberExpression ts names fields units parts allowed w = member.super_computed k back strict c (λ a d. x.stands _ refl) ts w
  expression_comes shape.ChainExpression ts names fields units parts allowed w = mark.chain k back strict c linked x ts w (ruled shape.ChainExpression ts (parts_by_shape c shape.ChainExpression ts refl) parts)
  expression_comes (shape.YieldExpression true) ts names fields units parts allowed w = expression.delegates k back strict c linked x ts w
  expression_comes (shape.YieldExpression false) ts names fields units parts allowed w = expression.yields k back strict c linked x ts w
  expression_comes shape.TemplateLiteral ts names fields units parts allowed w = template.template k back strict c shaped.untagged x.untagged (λ a d. x.stands _ refl) ts w (ruled shape.TemplateLiteral ts (parts_by_shape c shape.TemplateLiteral ts refl) parts)
  expression_comes shape.TaggedTemplateExpression ts names fields units parts allowed w = expression.tagged_template k back strict c linked x ts w
  expression_comes (shape.MetaProperty NewTarget) ts names fields units parts allowed w = expression.new_target k back strict c linked x ts w
  expression_comes (shape.MetaProperty ImportMeta) ts names fields units parts allowed w = expression.import_meta k back strict c linked x ts w
  expression_comes shape.ImportExpression ts names fields units parts allowed w = expression.import_expression k back strict c linked x ts w
  expression_comes h ts names fields units parts allowed w = absurd (false≢true w.fills)

-- where nothing may be optional
pub unchained_comes : (k : ℕ) (back : Back k) (bodies : BodiesBack k) (strict : Bool) (c : Class) (x : Expressive c false) (h : Shape) (ts : Trees) → has_names h [] ≡ true → has_plain_fields h ≡ true → fields_are_units h ≡ true → has_its_parts c h ts ≡ true
    → Filled k (is_strict_in strict h) (filling_by (shaped.unchained_slots h)) ts → Comes k strict c h ts
unchained_comes k back bodies strict c x h ts names fields units parts w =
    let (refused, filled) = unless_filled k (is_strict_in strict h) (is_optional h) (expression_slots shaped.an_expression h) ts w in
    expression_comes k back bodies strict c false x h ts names fields units parts (ap (λ b. not b || false) refused) filled

-- ---- the places

pub as_expression : Expressive shaped.an_expression false
as_expression = record { stands = λ d e. e; link = refl; names = λ s. refl; untagged = refl; no_key = refl }

pub as_link : Expressive shaped.a_link true
as_link = record { stands = λ d e. e; link = refl; names = λ s. refl; untagged = refl; no_key = refl }

pub as_init : Expressive shaped.an_init false
as_init = record { stands = λ d e. or_right _ _ e; link = refl; names = λ s. refl; untagged = refl; no_key = refl }

pub as_arrow_body : Expressive shaped.an_arrow_body false
as_arrow_body = record { stands = λ d e. or_right _ _ e; link = refl; names = λ s. refl; untagged = refl; no_key = refl }

pub as_argument : Expressive shaped.an_argument false
as_argument = record { stands = λ d e. or_right _ _ e; link = refl; names = λ s. refl; untagged = refl; no_key = refl }

pub as_key : Expressive (shaped.a_key true) false
as_key = record { stands = λ d e. e; link = refl; names = λ s. refl; untagged = refl; no_key = refl }

pub as_default_export : Expressive shaped.a_default_export false
as_default_export = record { stands = λ d e. or_left _ _ e; link = refl; names = λ s. refl; untagged = refl; no_key = refl }
