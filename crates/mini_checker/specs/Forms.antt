-- What forms of rows read of their context.
use Rattle.std.specs.Prelude.{Bool, true, false, List}
use Rattle.mini_model.specs.declared.operator.LogicalOperator.{LogicalOperator}
use Rattle.mini_model.specs.Position.{is_and_or}
use Rattle.mini_laws.specs.Value.{VariableSet, Declared, Global}
use Rattle.mini_context.specs.Tables.{mark_at}
use Rattle.mini_log.specs.KnownRows.{is_coalesce}

-- the operators of row 15, and those of rows 12 and 13
abbrev pub of_rows : Bool → LogicalOperator → Bool
of_rows true = is_coalesce
of_rows false = is_and_or

-- the variables that are marked by their symbols
abbrev pub marked : List Bool → VariableSet
marked marks (Declared k) = mark_at marks k
marked marks (Global s) = false
