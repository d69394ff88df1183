-- The plans of patterns: of those that a declaration binds, and of those that are assigned to
-- (ESTree; ECMA-262, "Destructuring Binding Patterns" and "Destructuring Assignment").
use Rattle.std.specs.Prelude.{[], ◌∷◌, Bool, true, false, ◌&&◌, ◌||◌, not, Option, if◌then◌else◌, codes}
use Rattle.serde_json.specs.Data.{Data}
use Rattle.mini_model.specs.declared.shape.Shape.TheVariants as shape
use Rattle.mini_accept.specs.WellShaped as shaped
use Rattle.mini_accept.specs.WellShaped.{is_init}
use Rattle.mini_accept.specs.Places.{Place, at}
use Rattle.mini_accept.specs.Fields.{◌>>=◌, require, flag_at}
use Rattle.mini_accept.specs.Words.{word_at, property_kinds}
use Rattle.mini_accept.specs.Plans.{Child, Plan, node_of, child, inner, each, or_hole, or_rest, list_child, inner_key, target_part, target}
use Rattle.mini_accept.specs.Expressions.{repeats_key, object_property}

-- the pattern is one that a declaration binds
abbrev pub is_binding : Place → Bool
is_binding (at shaped.a_pattern) = true
is_binding (at shaped.a_pattern_element) = true
is_binding (at shaped.a_parameter) = true
is_binding (at shaped.a_pattern_rest) = true
is_binding p = false

abbrev pub object_pattern : Place → Data → Option Plan
object_pattern p d =
    if is_binding p then list_child (or_rest (each shaped.a_pattern_property) shaped.a_pattern_rest) (codes "properties") d >>= (λ properties. node_of shape.ObjectPattern (properties ∷ []))
    else list_child (or_rest (each shaped.a_target_property) shaped.a_target_rest) (codes "properties") d >>= (λ properties. node_of shape.ObjectAssignmentTarget (properties ∷ []))

abbrev pub array_pattern : Place → Data → Option Plan
array_pattern p d =
    if is_binding p then list_child (or_hole (or_rest (each shaped.a_pattern_element) shaped.a_pattern_rest)) (codes "elements") d >>= (λ elements. node_of shape.ArrayPattern (elements ∷ []))
    else list_child (or_hole (or_rest (target_part shaped.a_target_element) shaped.a_target_rest)) (codes "elements") d >>= (λ elements. node_of shape.ArrayAssignmentTarget (elements ∷ []))

abbrev pub binding_property : Bool → Bool → Option Plan
binding_property shorthand computed = node_of (shape.BindingProperty shorthand computed) (inner_key computed (shaped.an_inner_key false) ∷ child (codes "value") shaped.a_pattern_element ∷ [])

abbrev pub target_property : Bool → Bool → Data → Option Plan
target_property true computed d = node_of shape.AssignmentTargetPropertyIdentifier (child (codes "key") shaped.a_label ∷ child (codes "value") shaped.a_named_target ∷ [])
target_property false computed d = node_of (shape.AssignmentTargetPropertyProperty computed) (inner_key computed (shaped.an_inner_key false) ∷ target (codes "value") shaped.a_target_element d ∷ [])

-- no method and no accessor; a shorthand property repeats its key
abbrev pub pattern_property : Bool → Data → Option Plan
pattern_property binds d = do
  k ← word_at property_kinds (codes "kind") d
  is_method ← flag_at (codes "method") d
  shorthand ← flag_at (codes "shorthand") d
  computed ← flag_at (codes "computed") d
  require (is_init k && (not is_method && (not shorthand || (not computed && repeats_key d))))
      (if binds then binding_property shorthand computed else target_property shorthand computed d)

abbrev pub property : Place → Data → Option Plan
property (at shaped.a_pattern_property) d = pattern_property true d
property (at shaped.a_target_property) d = pattern_property false d
property p d = object_property d

abbrev pub rest : Place → Data → Option Plan
rest p d = node_of shape.RestElement ((if is_binding p then child (codes "argument") shaped.a_pattern else target (codes "argument") shaped.an_element_target d) ∷ [])

-- what a default stands for: a shorthand property's value is a name
abbrev pub default_left : Place → Data → Child
default_left (at shaped.a_named_target) d = child (codes "left") shaped.a_target_name
default_left p d = if is_binding p then child (codes "left") shaped.a_pattern else target (codes "left") shaped.an_element_target d

abbrev pub default : Place → Data → Option Plan
default p d = node_of shape.AssignmentPattern (default_left p d ∷ inner (codes "right") shaped.an_expression ∷ [])
