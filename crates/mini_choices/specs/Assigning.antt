-- Tests of assignments of names.
use Rattle.std.specs.Prelude.{Bool, true, false, ◌&&◌, ◌||◌, not, List, [], ◌∷◌, Option, Some, None, is_none, is_some}
use Rattle.mini_model.specs.declared.name.Name.{Name}
use Rattle.mini_model.specs.declared.operator.AssignmentOperator.{AssignmentOperator}
use Rattle.mini_model.specs.declared.operator.AssignmentOperator.TheVariants.{Assign}
use Rattle.mini_model.specs.declared.shape.Shape.{Shape}
use Rattle.mini_model.specs.declared.shape.Shape.TheVariants as shape
use Rattle.mini_model.specs.Tree.{Tree, leaf, shape_of}
use Rattle.mini_node.specs.Children.{part, names_of, is_bare}
use Rattle.mini_node.specs.Kinds.{is_identifier, is_static_member, is_computed_member, string, number, assignment_operator}
use Rattle.mini_node.specs.Equal.{same_tree}
use Rattle.mini_terms.specs.Effects.{ef}

abbrev pub is_plain : Option AssignmentOperator → Bool
is_plain (Some Assign) = true
is_plain _ = false

-- `x = b`
abbrev pub assigns_name : Tree → Bool
assigns_name t = is_plain (assignment_operator t) && is_identifier (part t 0)

-- they are one operator
abbrev pub is_same_operator : AssignmentOperator → AssignmentOperator → Bool
is_same_operator o p = same_tree (leaf (shape.AssignmentExpression o)) (leaf (shape.AssignmentExpression p))

-- it is this operator
abbrev pub is_operator : AssignmentOperator → Option AssignmentOperator → Bool
is_operator o (Some p) = is_same_operator o p
is_operator o None = false

-- a scope declares it
abbrev pub is_declared_in : List Name → Bool
is_declared_in (x ∷ []) = not (is_none x.symbol)
is_declared_in _ = false

abbrev pub is_declared : Tree → Bool
is_declared t = is_declared_in (names_of t)

-- `.k`
abbrev pub is_property_shape : Shape → Bool
is_property_shape (shape.IdentifierName s) = true
is_property_shape h = false

abbrev pub is_property : Tree → Bool
is_property t = is_property_shape (shape_of t) && is_bare t 0

-- `"a-b"` or `0`
abbrev pub is_written_key : Tree → Bool
is_written_key t = is_some (string t) || is_some (number t)

-- `x.k`, `x["a-b"]` or `x[0]`
abbrev pub has_written_key : Tree → Bool
has_written_key t = (is_static_member t && is_property (part t 1)) || (is_computed_member t && is_written_key (part t 1))

-- the same where a scope declares x
abbrev pub is_member_of_name : Tree → Bool
is_member_of_name t = has_written_key t && (is_identifier (part t 0) && is_declared (part t 0))

-- two names, or members of names, and they are one
abbrev pub is_same_target : Tree → Tree → Bool
is_same_target t u = (is_identifier t || is_member_of_name t) && same_tree t u

-- two members of names, and they are one
abbrev pub is_same_member : Tree → Tree → Bool
is_same_member t u = is_member_of_name t && same_tree t u

-- `x[k]`, where a scope declares x and k has no effect; `this` has one where it is asked of the
-- world
abbrev pub is_indexed_name : Bool → Tree → Bool
is_indexed_name asked t = (is_computed_member t && ef asked (part t 1)) && (is_identifier (part t 0) && is_declared (part t 0))

-- two members of names with keys in brackets that have no effect, and they are one
abbrev pub is_same_indexed : Bool → Tree → Tree → Bool
is_same_indexed asked t u = is_indexed_name asked t && same_tree t u

-- two names, and they are one
abbrev pub is_same_name : Tree → Tree → Bool
is_same_name t u = is_identifier t && same_tree t u
