-- Rows that drop a name that nothing mentions: that of a function or class expression, and what a
-- `catch` catches.
use Rattle.mini_shrink.specs.Facts.{ReadsLess}
use Rattle.mini_rows.specs.Catches.{CatchContracts}
use Rattle.mini_rows.specs.Names.{NameContracts}
use Rattle.mini_rows.specs.Switches.{Switches}

abbrev pub NamesReadLess : Type 0
NamesReadLess = (o : Switches) → ReadsLess (NameContracts o)

abbrev pub CatchesReadLess : Type 0
CatchesReadLess = ReadsLess CatchContracts
