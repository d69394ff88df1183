-- Parts that may stay where their node stood, and parts that may be dropped.
use Rattle.std.specs.Prelude.{Bool, true, false, not, ◌&&◌, ◌||◌, List, [], ◌∷◌}
use Rattle.mini_model.specs.declared.kind.VariableDeclarationKind.TheVariants.{Const}
use Rattle.mini_model.specs.declared.name.Name.{Name}
use Rattle.mini_model.specs.declared.seat.Seat.{Seat}
use Rattle.mini_model.specs.declared.shape.Shape.{Shape}
use Rattle.mini_model.specs.declared.shape.Shape.TheVariants as shape
use Rattle.mini_model.specs.Tree.{Tree, Trees, node, none, ◌▸◌, shape_of}
use Rattle.mini_terms.specs.Reading.{is_plain_part, is_read_by_value}

-- Parts that stay

abbrev pub is_number : Tree → Bool
is_number (node (shape.NumericLiteral n) xs m ts) = true
is_number _ = false

-- no minus stands before this seat, or only the truth is asked
abbrev pub takes_numbers : Seat → Bool
takes_numbers s = s.boolean || not s.minus

-- it may stand in the seat of its node: a parent reads no more of it than that it is there, no
-- reference is asked there or it is none, and it is no number where a minus before it would be one
-- with it
abbrev pub suits : Seat → Tree → Bool
suits s t = is_plain_part t && (is_read_by_value s t && (takes_numbers s || not (is_number t)))

-- Parts that are dropped

-- no name that the node declares is a constant in it, and it is no inner expression
abbrev pub leaves_nothing_by : Shape → Bool
leaves_nothing_by shape.InnerExpression = false
leaves_nothing_by (shape.VariableDeclaration Const) = false
leaves_nothing_by (shape.Function false is_generator directives) = false
leaves_nothing_by (shape.Class is_declaration) = false
leaves_nothing_by shape.ImportSpecifier = false
leaves_nothing_by shape.ImportDefaultSpecifier = false
leaves_nothing_by shape.ImportNamespaceSpecifier = false
leaves_nothing_by h = true

-- it holds no inner expression, and declares nothing that can't be written
abbrev mutual
  pub leaves_nothing : Tree → Bool
  leaves_nothing (node h xs n ts) = leaves_nothing_by h && leave_nothing ts

  pub leave_nothing : Trees → Bool
  leave_nothing none = true
  leave_nothing (t ▸ ts) = leaves_nothing t && leave_nothing ts

-- a call or a member, which a chain holds
abbrev pub is_link : Shape → Bool
is_link (shape.CallExpression is_optional) = true
is_link (shape.StaticMemberExpression is_optional) = true
is_link (shape.ComputedMemberExpression is_optional) = true
is_link (shape.PrivateFieldExpression is_optional) = true
is_link h = false

-- expressions whose own text weighs 2 at least, names aside
abbrev pub weighs_by : Shape → Bool
weighs_by (shape.NumericLiteral n) = true
weighs_by (shape.StringLiteral s) = true
weighs_by (shape.BooleanLiteral b) = true
weighs_by shape.NullLiteral = true
weighs_by (shape.BigIntLiteral n) = true
weighs_by (shape.RegExpLiteral pattern flags) = true
weighs_by shape.ThisExpression = true
weighs_by shape.ArrayExpression = true
weighs_by shape.ObjectExpression = true
weighs_by (shape.Function false is_generator directives) = true
weighs_by (shape.ArrowFunctionExpression directives) = true
weighs_by (shape.Class false) = true
weighs_by (shape.UnaryExpression o) = true
weighs_by (shape.UpdateExpression o is_prefix) = true
weighs_by (shape.BinaryExpression o) = true
weighs_by (shape.LogicalExpression o) = true
weighs_by (shape.AssignmentExpression o) = true
weighs_by shape.ConditionalExpression = true
weighs_by shape.NewExpression = true
weighs_by (shape.YieldExpression is_delegate) = true
weighs_by shape.TemplateLiteral = true
weighs_by shape.PrivateInExpression = true
weighs_by shape.SuperCallExpression = true
weighs_by shape.SuperStaticMemberExpression = true
weighs_by shape.SuperComputedMemberExpression = true
weighs_by shape.ImportExpression = true
weighs_by (shape.MetaProperty k) = true
weighs_by h = is_link h

abbrev pub has_name : List Name → Bool
has_name [] = false
has_name (x ∷ xs) = true

-- a list of two or more
abbrev pub is_several_by : Shape → Trees → Bool
is_several_by shape.Listed (a ▸ (b ▸ ts)) = true
is_several_by h ts = false

abbrev pub is_several : Tree → Bool
is_several (node h xs n ts) = is_several_by h ts

abbrev pub first_is_several : Trees → Bool
first_is_several none = false
first_is_several (t ▸ ts) = is_several t

abbrev pub first_is_link : Trees → Bool
first_is_link none = false
first_is_link (t ▸ ts) = is_link (shape_of t)

-- the template of a tag
abbrev pub is_template_by : Shape → Bool
is_template_by shape.TemplateLiteral = true
is_template_by h = false

abbrev pub second_is_template : Trees → Bool
second_is_template (a ▸ (t ▸ ts)) = is_template_by (shape_of t)
second_is_template ts = false

abbrev pub weighs_over : Shape → List Name → Trees → Bool
weighs_over shape.Identifier xs ts = has_name xs
weighs_over shape.SequenceExpression xs ts = first_is_several ts
weighs_over shape.ChainExpression xs ts = first_is_link ts
weighs_over shape.TaggedTemplateExpression xs ts = second_is_template ts
weighs_over h xs ts = weighs_by h

-- it weighs 2 at least, wherever it stands
abbrev pub weighs : Tree → Bool
weighs (node h xs n ts) = weighs_over h xs ts
