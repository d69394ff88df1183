-- 46, `inject_optional_chaining_if_matched`, of a name that is assigned to in the test:
-- `(x = a) == null ? void 0 : x.m` becomes `(x = a)?.m`, and so do other members and calls over x,
-- and `(x = a) != null ? x.m : void 0`; where x can be written, and isn't named `eval`. As a callee
-- and under `delete` it stands behind a `0`.
use Rattle.std.specs.Prelude.{Bool, not, ◌&&◌, Option, Some, None, if◌then◌else◌}
use Rattle.mini_model.specs.declared.seat.Seat.{Seat}
use Rattle.mini_model.specs.Tree.{Tree}
use Rattle.mini_laws.specs.Value.{VariableSet}
use Rattle.mini_node.specs.Children.{part, names_of}
use Rattle.mini_node.specs.Kinds.{is_conditional, is_null, binary_operator}
use Rattle.mini_terms.specs.Exact.{kept_by_value}
use Rattle.mini_rows.specs.Chains.{is_calm}
use Rattle.mini_choices.specs.Forms.{is_undefined}
use Rattle.mini_choices.specs.InjectOptionalChaining.{is_spine, chained, is_eval}
use Rattle.mini_choices.specs.MinimizeConditionalBranches.{is_equal_in, is_unequal_in}
use Rattle.mini_choices.specs.MinimizeNormalAssignmentToCombinedLogicalAssignment.{writes_name}

-- it is an assignment to a name that can be written and isn't `eval`, of a value that ends no chain
abbrev pub writes_calmly : VariableSet → Tree → Bool
writes_calmly W t = writes_name W t && (not (is_eval (names_of (part t 0))) && is_calm (part t 1))

-- it compares such an assignment with null
abbrev pub asks_assigned : VariableSet → Tree → Bool
asks_assigned W t = is_null (part t 1) && writes_calmly W (part t 0)

-- of a test that does, undefined is written for one branch, and the other reads what the name holds
abbrev pub reads_assigned : VariableSet → Tree → Tree → Tree → Bool
reads_assigned W test missing read = asks_assigned W test && (is_undefined missing && is_spine (part (part test 0) 0) read)

-- `(x = a) == null ? void 0 : x.m`
abbrev pub is_assigned_last : VariableSet → Tree → Bool
is_assigned_last W t = is_conditional t && (is_equal_in (binary_operator (part t 0)) && reads_assigned W (part t 0) (part t 1) (part t 2))

-- `(x = a) != null ? x.m : void 0`
abbrev pub is_assigned_first : VariableSet → Tree → Bool
is_assigned_first W t = is_conditional t && (is_unequal_in (binary_operator (part t 0)) && reads_assigned W (part t 0) (part t 2) (part t 1))

abbrev pub first_written : VariableSet → Seat → Tree → Option Tree
first_written W s t = if is_assigned_first W t then Some (kept_by_value s.guard (chained t (part t 1))) else None

abbrev pub written : VariableSet → Seat → Tree → Option Tree
written W s t = if is_assigned_last W t then Some (kept_by_value s.guard (chained t (part t 2))) else first_written W s t
