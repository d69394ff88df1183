-- Rows on the keys of patterns and of classes.
use Rattle.mini_shrink.specs.Facts.{ReadsLess}
use Rattle.mini_rows.specs.KeyHolders.{HeldKeyContracts}

abbrev pub HeldKeysReadLess : Type 0
HeldKeysReadLess = ReadsLess HeldKeyContracts
