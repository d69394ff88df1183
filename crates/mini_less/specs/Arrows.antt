-- The row of arrow functions.
use Rattle.mini_shrink.specs.Facts.{ReadsLess}
use Rattle.mini_rows.specs.Arrows.{ArrowContracts}

abbrev pub ArrowsReadLess : Type 0
ArrowsReadLess = ReadsLess ArrowContracts
