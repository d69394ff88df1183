-- What the program's plans are as the definitions have them.
use Rattle.std.specs.Prelude.{ℕ, List, [], ◌∷◌, map, option_map, unwrap_or, codes}
use Rattle.serde_json.specs.Data.{Data, Items, no_items}
use Rattle.serde_json.specs.View.{view, items_view}
use Rattle.mini_model.specs.Texts.{units_of}
use Rattle.mini_model.specs.declared.name.Name.{Name}
use Rattle.mini_model.specs.declared.shape.Shape as declared
use Rattle.mini_model.specs.declared.shape.Shape.TheVariants as shape
use Rattle.mini_model.specs.Tree.{unresolved}
use Rattle.mini_accept.specs.WellShaped as shaped
use Rattle.mini_accept.specs.Places as places
use Rattle.mini_accept.specs.Places.{field, place, at}
use Rattle.mini_accept.specs.Plans as plans
use Rattle.mini_accept.specs.Plans.{one, ItemPart, hole, tree_at, inner_at, checked, child, inner, optional, optional_inner, list, each, or_hole, or_rest, target_part}
use Rattle.mini_accept.specs.Fields.{list_at}
use Rattle.mini_accept.specs.Statements.{body, directives_of}
use Rattle.mini_accept.specs.Functions.{parameter, directives_below}
use Rattle.mini_accept.specs.Modules.{export_part}
use Rattle.mini_accept.specs.Expressions.{argument, inner_argument, quasi_part, piece_part}
use Rattle.mini_fields.specs.Literals.{shape_of, negative_literal}
use Rattle.mini_fields.specs.Views.{class_of, depth_of, place_of, tagging_of}
use Rattle.mini_plan.specs.Bodies.{body_item}
use Rattle.mini_plan.specs.declared.plan.Step.{Step}
use Rattle.mini_plan.specs.declared.plan.Step.TheVariants as step
use Rattle.mini_plan.specs.declared.plan.Part.{Part}
use Rattle.mini_plan.specs.declared.plan.Part.TheVariants as part
use Rattle.mini_plan.specs.declared.plan.Items as items_type
use Rattle.mini_plan.specs.declared.plan.Items.TheVariants as form
use Rattle.mini_plan.specs.declared.plan.Below.{Below}
use Rattle.mini_plan.specs.declared.plan.Below.TheVariants as below
use Rattle.mini_plan.specs.declared.plan.Head.{Head}
use Rattle.mini_plan.specs.declared.plan.Head.TheVariants as head
use Rattle.mini_plan.specs.declared.plan.Plan.{Plan}

abbrev pub step_of : Step → places.Step
step_of (step.Field key) = field key.now
step_of (step.Item key i) = place key.now i

abbrev pub part_of : Part → plans.Part
part_of part.Hole = hole
part_of (part.Tree s p) = tree_at (step_of s) (place_of p)
part_of (part.Inner s p) = inner_at (step_of s) (place_of p)
part_of (part.Checked s p) = checked (step_of s) (place_of p)

-- how the items of a list are read
abbrev pub item_of : items_type.Items → ItemPart
item_of (form.Each c) = each (class_of c)
item_of form.Elements = or_hole argument
item_of form.Parameters = parameter
item_of form.InnerArguments = inner_argument
item_of (form.Exported own) = export_part own
item_of (form.Quasis g) = quasi_part (tagging_of g)
item_of (form.Pieces g) = piece_part (tagging_of g)
item_of form.PatternProperties = or_rest (each shaped.a_pattern_property) shaped.a_pattern_rest
item_of form.PatternElements = or_hole (or_rest (each shaped.a_pattern_element) shaped.a_pattern_rest)
item_of form.TargetProperties = or_rest (each shaped.a_target_property) shaped.a_target_rest
item_of form.TargetElements = or_hole (or_rest (target_part shaped.a_target_element) shaped.a_target_rest)
item_of (form.Body depth count) = body_item (depth_of depth) count

-- the items of a list that is there
abbrev pub items_at : List ℕ → Data → Items
items_at key d = unwrap_or (list_at key d) no_items

abbrev pub child_of : Data → Below → plans.Child
child_of d (below.Node key c) = child key.now (class_of c)
child_of d (below.Placed key p) = one (tree_at (field key.now) (place_of p))
child_of d (below.Inner key c) = inner key.now (class_of c)
child_of d (below.Checked key c) = one (checked (field key.now) (at (class_of c)))
child_of d (below.Optional key c) = optional key.now (class_of c) d
child_of d (below.OptionalInner key c) = optional_inner key.now (class_of c) d
child_of d (below.Many key form) = list (item_of form) key.now (items_at key.now d)
child_of d (below.Body depth) = body (depth_of depth) (items_at (codes "body") d)
child_of d below.Absent = one hole

abbrev pub shape_of_head : Head → declared.Shape
shape_of_head (head.Plain h) = h
shape_of_head (head.Program is_module v) = shape.Program is_module (directives_of (items_view v.now))
shape_of_head (head.Function declaration generator v) = shape.Function declaration generator (directives_below (view v.now))
shape_of_head (head.Arrow v) = shape.ArrowFunctionExpression (directives_below (view v.now))
shape_of_head (head.Reference s) = shape.Identifier
shape_of_head (head.Binding s) = shape.BindingIdentifier
shape_of_head (head.Word s) = shape.IdentifierName (units_of s.now)
shape_of_head (head.Private s) = shape.PrivateIdentifier (units_of s.now)
shape_of_head (head.Literal value) = shape_of value
shape_of_head (head.Negative n) = shape.NumericLiteral (negative_literal n)
shape_of_head (head.Quasi tail raw cooked) = shape.TemplateElement tail (units_of raw.now) (option_map (λ s. units_of s.now) cooked)

abbrev pub names_of_head : Head → List Name
names_of_head (head.Reference s) = unresolved (units_of s.now) ∷ []
names_of_head (head.Binding s) = unresolved (units_of s.now) ∷ []
names_of_head h = []

abbrev pub plan_of : Data → Plan → plans.Plan
plan_of d x = record { shape = shape_of_head x.head; names = names_of_head x.head; children = map (child_of d) x.children.now }
