-- 41, 44, 45 and 46, of `minimize_conditional_expression`: `x ? x : b` becomes `x || b`,
-- `x ? b : x` becomes `x && b`, `a ? x = b : x = c` becomes `x = a ? b : c`, where a scope declares
-- x or a has no effect, and so of `+=` where both hold, `x == null ? b : x` becomes `x ?? b`, where
-- a scope declares x, and `a ? f(p, r) : f(q, r)` becomes `f(a ? p : q, r)`, where neither f nor a
-- has an effect.
use Rattle.std.specs.Prelude.{Bool, true, false, Option, Some, None, ◌&&◌, ◌||◌, not, nat_eq, nat_lt, unwrap_or, if◌then◌else◌}
use Rattle.mini_model.specs.declared.operator.AssignmentOperator.{AssignmentOperator}
use Rattle.mini_model.specs.declared.operator.AssignmentOperator.TheVariants.{Assign}
use Rattle.mini_model.specs.declared.operator.BinaryOperator.{BinaryOperator}
use Rattle.mini_model.specs.declared.operator.BinaryOperator.TheVariants.{Equality, Inequality}
use Rattle.mini_model.specs.declared.operator.LogicalOperator.TheVariants.{Or, And, Coalesce}
use Rattle.mini_model.specs.declared.place.Position.TheVariants.{Expr}
use Rattle.mini_model.specs.declared.seat.Seat.{Seat}
use Rattle.mini_model.specs.Tree.{Tree, logical, conditional}
use Rattle.mini_model.specs.Position.{conditional_level}
use Rattle.mini_model.specs.Weight.{weight, capped}
use Rattle.mini_node.specs.Children.{part}
use Rattle.mini_node.specs.Kinds.{assignment, assignment_operator, is_conditional, is_null, binary_operator}
use Rattle.mini_terms.specs.Effects.{ef}
use Rattle.mini_rows.specs.Choices.{may_choose}
use Rattle.mini_choices.specs.Assigning.{is_plain, is_operator, is_same_name, is_same_member, is_same_indexed, is_declared}
use Rattle.mini_choices.specs.Calling.{calls_either, called}

-- ---- 45

-- both are one name, between writes of which by this operator this test may choose after it is
-- read, or one member of a name, which is written after a test without an effect. `this` has one
-- where it is asked of the world
abbrev pub may_take : Bool → AssignmentOperator → Tree → Tree → Tree → Bool
may_take asked o a x y = (is_same_name x y && may_choose o (is_declared x) (ef asked a)) || (is_plain (Some o) && (is_same_member x y && ef asked a))

-- both are assignments to one by this operator
abbrev pub assigns_alike : Bool → Option AssignmentOperator → Tree → Tree → Tree → Bool
assigns_alike asked (Some o) a t u = is_operator o (assignment_operator u) && may_take asked o a (part t 0) (part u 0)
assigns_alike asked None a t u = false

-- `a ? x = b : x = c`, `a ? x += b : x += c`, or `a ? x.k = b : x.k = c`
abbrev pub assigns_either : Bool → Tree → Bool
assigns_either asked t = is_conditional t && assigns_alike asked (assignment_operator (part t 1)) (part t 0) (part t 1) (part t 2)

-- both are assignments to one member of a name by `=`, whose key in brackets has no effect
abbrev pub assigns_indexed : Bool → Tree → Tree → Bool
assigns_indexed asked t u = is_plain (assignment_operator t) && (is_plain (assignment_operator u) && is_same_indexed asked (part t 0) (part u 0))

-- `a ? x[k] = b : x[k] = c`, where evaluating a has no effect
abbrev pub indexes_either : Bool → Tree → Bool
indexes_either asked t = is_conditional t && (assigns_indexed asked (part t 1) (part t 2) && ef asked (part t 0))

-- an assignment stands there as a conditional does
abbrev pub is_seated : Seat → Bool
is_seated s = not (nat_eq s.level conditional_level)

-- `x = a ? b : c`, or `x += a ? b : c`
abbrev pub assigned : Tree → Tree
assigned t = assignment (unwrap_or (assignment_operator (part t 1)) Assign) (part (part t 1) 0) (conditional (part t 0) (part (part t 1) 1) (part (part t 2) 1))

-- ---- 46

-- whether it is an equality, and no inequality
abbrev pub is_equal_in : Option BinaryOperator → Bool
is_equal_in (Some Equality) = true
is_equal_in _ = false

abbrev pub is_unequal_in : Option BinaryOperator → Bool
is_unequal_in (Some Inequality) = true
is_unequal_in _ = false

-- it compares this name, which a scope declares, with null
abbrev pub is_beside_null : Tree → Tree → Bool
is_beside_null t x = is_null (part t 1) && (is_same_name (part t 0) x && is_declared x)

-- `x == null ? b : x`
abbrev pub is_own_if_equal : Tree → Bool
is_own_if_equal t = is_conditional t && (is_equal_in (binary_operator (part t 0)) && is_beside_null (part t 0) (part t 2))

-- `x != null ? x : b`
abbrev pub is_own_if_unequal : Tree → Bool
is_own_if_unequal t = is_conditional t && (is_unequal_in (binary_operator (part t 0)) && is_beside_null (part t 0) (part t 1))

-- ---- 41

abbrev pub is_lighter : Seat → Tree → Tree → Bool
is_lighter s w t = nat_lt (capped (weight (Expr s) w)) (capped (weight (Expr s) t))

-- `x ? x : b`, where `x || b` is lighter
abbrev pub is_own_consequent : Seat → Tree → Bool
is_own_consequent s t = is_conditional t && (is_same_name (part t 0) (part t 1) && is_lighter s (logical Or (part t 0) (part t 2)) t)

-- `x ? b : x`, where `x && b` is lighter
abbrev pub is_own_alternate : Seat → Tree → Bool
is_own_alternate s t = is_conditional t && (is_same_name (part t 0) (part t 2) && is_lighter s (logical And (part t 0) (part t 1)) t)

-- ---- one after another

abbrev pub called_written : Tree → Option Tree
called_written t = if calls_either true t then Some (called t) else None

abbrev pub indexed_written : Seat → Tree → Option Tree
indexed_written s t = if is_seated s && indexes_either true t then Some (assigned t) else called_written t

abbrev pub assignment_written : Seat → Tree → Option Tree
assignment_written s t = if is_seated s && assigns_either true t then Some (assigned t) else indexed_written s t

abbrev pub alternate_written : Seat → Tree → Option Tree
alternate_written s t = if is_own_alternate s t then Some (logical And (part t 0) (part t 1)) else assignment_written s t

abbrev pub consequent_written : Seat → Tree → Option Tree
consequent_written s t = if is_own_consequent s t then Some (logical Or (part t 0) (part t 2)) else alternate_written s t

abbrev pub unequal_written : Seat → Tree → Option Tree
unequal_written s t = if is_own_if_unequal t then Some (logical Coalesce (part t 1) (part t 2)) else consequent_written s t

abbrev pub written : Seat → Tree → Option Tree
written s t = if is_own_if_equal t then Some (logical Coalesce (part t 2) (part t 1)) else unequal_written s t
