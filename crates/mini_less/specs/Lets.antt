-- The rows of a `let` and an assignment after it, and of a lexical declaration that never runs.
use Rattle.mini_laws.specs.Value.{VariableSet}
use Rattle.mini_shrink.specs.Facts.{ReadsLess}
use Rattle.mini_rows.specs.Lets.{LetContracts}

abbrev pub LetsReadLess : Type 0
LetsReadLess = (W : VariableSet) → ReadsLess (LetContracts W)
