-- The row of a guard in the body of a loop that goes on with the next turn.
use Rattle.mini_shrink.specs.Facts.{ReadsLess}
use Rattle.mini_rows.specs.LoopGuards.{LoopGuardContracts}
use Rattle.mini_rows.specs.Switches.{Switches}

abbrev pub LoopGuardsReadLess : Type 0
LoopGuardsReadLess = (o : Switches) → ReadsLess (LoopGuardContracts o)
