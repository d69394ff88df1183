-- 40, `minimize_conditional_expression`: `!a ? b : c` becomes `a ? c : b`, and `a != b ? c : d`
-- becomes `a == b ? d : c`.
use Rattle.std.specs.Prelude.{◌⊎◌, ◌<◌, Bool, ◌&&◌, Option, Some, None, option_map, if◌then◌else◌}
use Rattle.mini_model.specs.declared.operator.BinaryOperator.{BinaryOperator}
use Rattle.mini_model.specs.declared.operator.BinaryOperator.TheVariants.{Equality, Inequality, StrictEquality, StrictInequality}
use Rattle.mini_model.specs.declared.place.Position.{Position}
use Rattle.mini_model.specs.declared.place.Position.TheVariants.{Expr}
use Rattle.mini_model.specs.declared.seat.Seat.{Seat}
use Rattle.mini_model.specs.Tree.{Tree, conditional}
use Rattle.mini_model.specs.Weight.{weight}
use Rattle.mini_model.specs.Redex.{Row40}
use Rattle.mini_node.specs.Children.{part}
use Rattle.mini_node.specs.Kinds.{is_conditional, is_negation, binary_operator, binary}
use Rattle.mini_rows.specs.Turns.{Row40Unequal}

-- `!a ? b : c`
abbrev pub has_negated_test : Tree → Bool
has_negated_test t = is_conditional t && is_negation (part t 0)

-- `a ? c : b`
abbrev pub swapped : Tree → Tree
swapped t = conditional (part (part t 0) 0) (part t 2) (part t 1)

-- of an inequality the operator of the equality
abbrev pub equal_by : Option BinaryOperator → Option BinaryOperator
equal_by (Some Inequality) = Some Equality
equal_by (Some StrictInequality) = Some StrictEquality
equal_by _ = None

-- the operator of `==`, where the test is `a != b`
abbrev pub equal_operator : Tree → Option BinaryOperator
equal_operator t = if is_conditional t then equal_by (binary_operator (part t 0)) else None

-- `a == b ? d : c`
abbrev pub turned : Tree → BinaryOperator → Tree
turned t o = conditional (binary o (part (part t 0) 0) (part (part t 0) 1)) (part t 2) (part t 1)

abbrev pub written : Tree → Option Tree
written t = if has_negated_test t then Some (swapped t) else option_map (turned t) (equal_operator t)

-- one of the forms
abbrev pub IsRow : Tree → Tree → Type 0
IsRow n w = Row40 n w ⊎ Row40Unequal n w

-- what the rule makes
abbrev pub Gives : Position → Tree → Tree → Type 0
Gives (Expr s) n w = IsRow n w × (weight (Expr s) w < weight (Expr s) n)
Gives _ n w = ⊥

-- no form reads it as anything
abbrev pub Rests : Position → Tree → Type 0
Rests (Expr s) n = (w : Tree) → IsRow n w → ⊥
Rests _ n = Unit {0}

-- what the rows write is lighter in every seat
abbrev pub RowLighter : Type 0
RowLighter = (s : Seat) (n w : Tree) → IsRow n w → weight (Expr s) w < weight (Expr s) n
