-- All rows by which any program is rewritten.
use Rattle.mini_laws.specs.Value.{VariableSet}
use Rattle.mini_shrink.specs.Facts.{ReadsLess}
use Rattle.mini_rows.specs.Redex.{Contracts, Rewrites}
use Rattle.mini_rows.specs.Switches.{Switches}

-- whatever is known of its names
abbrev pub RowsReadLess : Type 0
RowsReadLess = (o : Switches) → ReadsLess (Contracts o)

-- and those of names that nothing mentions, are read once or may be written
abbrev pub RewritesReadLess : Type 0
RewritesReadLess = (o : Switches) (W : VariableSet) → ReadsLess (Rewrites o W)
