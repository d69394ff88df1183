-- 57: `typeof x == "object" && x !== null` becomes `typeof x == "object" && !!x`, and
-- `typeof x != "object" || x === null` becomes `typeof x != "object" || !x`, in any order, and
-- after an equal operator to the left.
use Rattle.std.specs.Prelude.{Bool, true, false, not, List, ℕ, Option, Some, None, ◌&&◌, if◌then◌else◌, codes}
use Rattle.mini_model.specs.declared.operator.BinaryOperator.{BinaryOperator}
use Rattle.mini_model.specs.declared.operator.BinaryOperator.TheVariants.{Equality, Inequality, StrictEquality, StrictInequality}
use Rattle.mini_model.specs.declared.operator.LogicalOperator.{LogicalOperator}
use Rattle.mini_model.specs.declared.operator.LogicalOperator.TheVariants.{Or, And}
use Rattle.mini_model.specs.declared.operator.UnaryOperator.{UnaryOperator}
use Rattle.mini_model.specs.declared.operator.UnaryOperator.TheVariants.{Typeof}
use Rattle.mini_model.specs.Tree.{Tree, negation, logical}
use Rattle.mini_model.specs.Weight.{same_text}
use Rattle.mini_node.specs.Children.{part}
use Rattle.mini_node.specs.Kinds.{binary_operator, unary_operator, logical_operator, string, is_logical, is_null}
use Rattle.mini_rows.specs.Choices.{joining}
use Rattle.mini_choices.specs.Assigning.{is_same_name, is_declared}

-- whether it says that there is an object, or that there is none
abbrev pub says_in : Option LogicalOperator → Option Bool
says_in (Some And) = Some true
says_in (Some Or) = Some false
says_in _ = None

-- `==` or `!=`
abbrev pub is_loose_in : Option BinaryOperator → Bool → Bool
is_loose_in (Some Equality) equal = equal
is_loose_in (Some Inequality) equal = not equal
is_loose_in _ equal = false

-- or strictly
abbrev pub is_equal_in : Option BinaryOperator → Bool → Bool
is_equal_in (Some StrictEquality) equal = equal
is_equal_in (Some StrictInequality) equal = not equal
is_equal_in (Some Equality) equal = equal
is_equal_in (Some Inequality) equal = not equal
is_equal_in _ equal = false

abbrev pub is_typeof_in : Option UnaryOperator → Bool
is_typeof_in (Some Typeof) = true
is_typeof_in _ = false

abbrev pub says_object_in : Option (List ℕ) → Bool
says_object_in (Some s) = same_text s (codes "object")
says_object_in None = false

-- `typeof a == "object"`, or `!=`
abbrev pub asks : Bool → Tree → Bool
asks there t = is_loose_in (binary_operator t) there && (is_typeof_in (unary_operator (part t 0)) && says_object_in (string (part t 1)))

-- a comparison with null
abbrev pub compares : Bool → Tree → Bool
compares equal t = is_equal_in (binary_operator t) equal && is_null (part t 1)

-- both are of one name, which a scope declares
abbrev pub are_both : Bool → Tree → Tree → Bool
are_both there a b = asks there a && (compares (not there) b && (is_same_name (part (part a 0) 0) (part b 0) && is_declared (part b 0)))

abbrev pub negated : Bool → Tree → Tree
negated true t = negation (negation t)
negated false t = negation t

-- of a comparison of x with null, `!!x` or `!x`
abbrev pub held : Bool → Tree → Tree
held there comparison = negated there (part comparison 0)

-- what stands right before the second operand, behind an equal operator or alone
abbrev pub last_of : LogicalOperator → Tree → Tree
last_of o t = if is_logical o t then part t 1 else t

-- that held
abbrev pub last_held : Bool → Tree → Tree
last_held there t = if is_logical (joining (not there)) t then logical (joining (not there)) (part t 0) (held there (part t 1)) else held there t

abbrev pub second_held : Bool → Tree → Tree
second_held there t = logical (joining (not there)) (part t 0) (held there (part t 1))

abbrev pub first_held : Bool → Tree → Tree
first_held there t = logical (joining (not there)) (last_held there (part t 0)) (part t 1)

abbrev pub first_written : Bool → Tree → Option Tree
first_written there t = if are_both there (part t 1) (last_of (joining (not there)) (part t 0)) then Some (first_held there t) else None

abbrev pub written_by : Option Bool → Tree → Option Tree
written_by (Some there) t = if are_both there (last_of (joining (not there)) (part t 0)) (part t 1) then Some (second_held there t) else first_written there t
written_by None t = None

abbrev pub written : Tree → Option Tree
written t = written_by (says_in (logical_operator t)) t
