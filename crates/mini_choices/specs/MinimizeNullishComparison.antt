-- 37, of `minimize_logical_expression`: `x === null || x === undefined` becomes `x == null`, and
-- `x !== null && x !== undefined` becomes `x != null`, in any order, and after an equal operator to
-- the left.
use Rattle.std.specs.Prelude.{Bool, true, false, not, Option, Some, None, ◌&&◌, if◌then◌else◌}
use Rattle.mini_model.specs.declared.operator.BinaryOperator.{BinaryOperator}
use Rattle.mini_model.specs.declared.operator.BinaryOperator.TheVariants.{StrictEquality, StrictInequality}
use Rattle.mini_model.specs.declared.operator.LogicalOperator.{LogicalOperator}
use Rattle.mini_model.specs.declared.operator.LogicalOperator.TheVariants.{Or, And}
use Rattle.mini_model.specs.Tree.{Tree, logical, null_literal}
use Rattle.mini_node.specs.Children.{part}
use Rattle.mini_node.specs.Kinds.{binary, binary_operator, logical_operator, is_logical}
use Rattle.mini_rows.specs.Choices.{loosely, joining}
use Rattle.mini_choices.specs.Assigning.{is_same_name}
use Rattle.mini_choices.specs.Forms.{are_nullish}

-- whether it joins equalities or inequalities
abbrev pub joins_in : Option LogicalOperator → Option Bool
joins_in (Some Or) = Some true
joins_in (Some And) = Some false
joins_in _ = None

-- `===` of equalities, `!==` of inequalities
abbrev pub is_strict_in : Option BinaryOperator → Bool → Bool
is_strict_in (Some StrictEquality) equal = equal
is_strict_in (Some StrictInequality) equal = not equal
is_strict_in _ equal = false

abbrev pub is_strict : Bool → Tree → Bool
is_strict equal t = is_strict_in (binary_operator t) equal

-- both compare one name, with null and with undefined
abbrev pub compares : Bool → Tree → Tree → Bool
compares equal a b = is_strict equal a && (is_strict equal b && (is_same_name (part a 0) (part b 0) && are_nullish (part a 1) (part b 1)))

-- the second of two behind an equal operator, and what follows it
abbrev pub compares_after : Bool → Tree → Bool
compares_after equal t = is_logical (joining equal) (part t 0) && compares equal (part (part t 0) 1) (part t 1)

abbrev pub loose : Bool → Tree → Tree
loose equal comparison = binary (loosely equal) (part comparison 0) null_literal

abbrev pub after : Bool → Tree → Tree
after equal t = logical (joining equal) (part (part t 0) 0) (loose equal (part (part t 0) 1))

abbrev pub after_written : Bool → Tree → Option Tree
after_written equal t = if compares_after equal t then Some (after equal t) else None

abbrev pub written_by : Option Bool → Tree → Option Tree
written_by (Some equal) t = if compares equal (part t 0) (part t 1) then Some (loose equal (part t 0)) else after_written equal t
written_by None t = None

abbrev pub written : Tree → Option Tree
written t = written_by (joins_in (logical_operator t)) t
