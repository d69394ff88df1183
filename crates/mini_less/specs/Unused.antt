-- The rows of a name that nothing mentions, and of one that is read once: 71, 72.
use Rattle.mini_shrink.specs.Facts.{ReadsLess}
use Rattle.mini_rows.specs.Switches.{Liberties}
use Rattle.mini_rows.specs.Unused.{UnusedContracts}

abbrev pub UnusedReadLess : Type 0
UnusedReadLess = (W : Liberties) → ReadsLess (UnusedContracts W)
