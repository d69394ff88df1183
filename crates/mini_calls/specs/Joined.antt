-- Calls of several crates as one: each where those before it write nothing.
use Rattle.std.specs.Prelude.{Option, Some, None, if◌then◌else◌}
use Rattle.mini_model.specs.declared.seat.Seat.{Seat}
use Rattle.mini_model.specs.Tree.{Tree}
use Rattle.mini_node.specs.Kinds.{is_conditional}
use Rattle.mini_choices.specs.InjectAssignedChaining as injected
use Rattle.mini_choices.specs.InjectOptionalChaining as chaining
use Rattle.mini_choices.specs.MinimizeAssignedComparison as comparison
use Rattle.mini_choices.specs.MinimizeAssignedNullishComparison as nullish_assigned
use Rattle.mini_choices.specs.MinimizeConditionalBranches as branches
use Rattle.mini_choices.specs.MinimizeHeldBranches as held
use Rattle.mini_choices.specs.MinimizeLogicalExpression as deciding
use Rattle.mini_choices.specs.MinimizeLogicalSequence as sequence
use Rattle.mini_choices.specs.MinimizeNullishComparison as nullish
use Rattle.mini_fold.specs.FoldKnown.{branch_written}
use Rattle.mini_logic.specs.MinimizeConditionalExpression as turn
use Rattle.mini_logic.specs.MinimizeExpressionInBooleanContext as boolean
use Rattle.mini_laws.specs.Value.{VariableSet}

abbrev pub or_else : Option Tree → Option Tree → Option Tree
or_else (Some t) u = Some t
or_else None u = u

-- ---- 40 to 49, `minimize_conditional_expression`

-- 46 of an assignment: `(x = a) ?? b`, and `(x = a)?.m`
abbrev pub assigned_written : VariableSet → Seat → Tree → Option Tree
assigned_written m s n = or_else (comparison.written m n) (injected.written m s n)

-- and `x?.m`
abbrev pub chained_written : VariableSet → Seat → Tree → Option Tree
chained_written m s n = or_else (chaining.written s n) (assigned_written m s n)

-- 42, 43 and 49, of a branch that stands twice
abbrev pub held_written : VariableSet → Seat → Tree → Option Tree
held_written m s n = or_else (held.written s n) (chained_written m s n)

-- 41, 44, 45 and 46, of what both branches have
abbrev pub branched_written : VariableSet → Seat → Tree → Option Tree
branched_written m s n = or_else (branches.written s n) (held_written m s n)

-- 49 of an effect-free test
abbrev pub idle_written : VariableSet → Seat → Tree → Option Tree
idle_written m s n = or_else (branch_written s n) (branched_written m s n)

-- 47 and 48, of branches that are known, and 26 where only the truth is asked
abbrev pub told_written : VariableSet → Seat → Tree → Option Tree
told_written m s n = or_else (boolean.written s n) (idle_written m s n)

-- 40, of a test that is turned
abbrev pub turned_written : VariableSet → Seat → Tree → Option Tree
turned_written m s n = or_else (turn.written n) (told_written m s n)

abbrev pub conditional_written : VariableSet → Seat → Tree → Option Tree
conditional_written m s n = if is_conditional n then turned_written m s n else None

-- ---- 37 and 38, `minimize_logical_expression`

-- 38: `x ||= b`, and `x ||= (a, b)`
abbrev pub decided_written : Seat → Tree → Option Tree
decided_written s n = or_else (deciding.written n) (sequence.written s n)

-- 37 of an assignment: `(x = a) == null`
abbrev pub nullish_written : VariableSet → Seat → Tree → Option Tree
nullish_written m s n = or_else (nullish_assigned.written m n) (decided_written s n)

-- 37: `x == null`
abbrev pub logical_written : VariableSet → Seat → Tree → Option Tree
logical_written m s n = or_else (nullish.written n) (nullish_written m s n)
