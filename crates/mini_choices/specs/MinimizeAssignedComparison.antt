-- 46, `minimize_conditional_expression`, of a name that is assigned to in the test:
-- `(x = a) == null ? b : x` becomes `(x = a) ?? b`, and so does `(x = a) != null ? x : b`, where x
-- can be written.
use Rattle.std.specs.Prelude.{Bool, Option, Some, None, ◌&&◌, if◌then◌else◌}
use Rattle.mini_model.specs.declared.operator.LogicalOperator.TheVariants.{Coalesce}
use Rattle.mini_model.specs.Tree.{Tree, logical}
use Rattle.mini_laws.specs.Value.{VariableSet}
use Rattle.mini_node.specs.Children.{part}
use Rattle.mini_node.specs.Kinds.{is_conditional, is_null, binary_operator}
use Rattle.mini_choices.specs.Assigning.{is_same_name}
use Rattle.mini_choices.specs.MinimizeConditionalBranches.{is_equal_in, is_unequal_in}
use Rattle.mini_choices.specs.MinimizeNormalAssignmentToCombinedLogicalAssignment.{writes_name}

-- it compares an assignment to this name, which can be written, with null
abbrev pub is_assigned_beside_null : VariableSet → Tree → Tree → Bool
is_assigned_beside_null W t x = is_null (part t 1) && (writes_name W (part t 0) && is_same_name (part (part t 0) 0) x)

-- `(x = a) == null ? b : x`
abbrev pub is_assigned_if_equal : VariableSet → Tree → Bool
is_assigned_if_equal W t = is_conditional t && (is_equal_in (binary_operator (part t 0)) && is_assigned_beside_null W (part t 0) (part t 2))

-- `(x = a) != null ? x : b`
abbrev pub is_assigned_if_unequal : VariableSet → Tree → Bool
is_assigned_if_unequal W t = is_conditional t && (is_unequal_in (binary_operator (part t 0)) && is_assigned_beside_null W (part t 0) (part t 1))

-- `(x = a) ?? b`, where b stands at this place
abbrev pub coalesced : Tree → Tree → Tree
coalesced t b = logical Coalesce (part (part t 0) 0) b

abbrev pub unequal_written : VariableSet → Tree → Option Tree
unequal_written W t = if is_assigned_if_unequal W t then Some (coalesced t (part t 2)) else None

abbrev pub written : VariableSet → Tree → Option Tree
written W t = if is_assigned_if_equal W t then Some (coalesced t (part t 1)) else unequal_written W t
