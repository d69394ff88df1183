-- All rows that rest on what is known of a body, wherever it stands.
use Rattle.std.specs.Prelude.{◌⊎◌}
use Rattle.mini_model.specs.declared.place.Position.{Position}
use Rattle.mini_model.specs.Tree.{Tree}
use Rattle.mini_kept.specs.Without.{BodySets}
use Rattle.mini_shrink.specs.Facts.{ReadsLess}
use Rattle.mini_rows.specs.Editions.{SteadyRowsIn}
use Rattle.mini_rows.specs.Inside.{InsideContracts}
use Rattle.mini_rows.specs.OwnArrows.{OwnCode}
use Rattle.mini_rows.specs.OwnParts.{OwnPart}
use Rattle.mini_rows.specs.OwnPrograms.{OwnProgram}
use Rattle.mini_rows.specs.Past.{PastFunction}
use Rattle.mini_rows.specs.PastArrows.{PastArrow}
use Rattle.mini_rows.specs.PastBlocks.{PastBlocks}
use Rattle.mini_rows.specs.PastInside.{PastInside}
use Rattle.mini_rows.specs.PastModules.{PastModule}
use Rattle.mini_rows.specs.PastStatics.{PastStatic}
use Rattle.mini_rows.specs.Steady.{LexicalRows, OwnRows}
use Rattle.mini_rows.specs.Switches.{Liberties}

-- what one relation writes or another
abbrev pub Either : (Position → Tree → Tree → Type 0) → (Position → Tree → Tree → Type 0) → Position → Tree → Tree → Type 0
Either R Q p n w = R p n w ⊎ Q p n w

-- rows of a family in the own code of whatever has a body
abbrev pub AnyCode : OwnRows → BodySets → Position → Tree → Tree → Type 0
AnyCode F S = Either (Either (OwnCode F S) (OwnProgram F S)) (OwnPart F S)

-- 71 past names that keep their value, of whatever has a body, and of a block in its own code
abbrev pub PastCode : BodySets → Liberties → Position → Tree → Tree → Type 0
PastCode S W = Either (Either (Either (PastFunction S W) (PastArrow S W)) (Either (PastModule S W) (PastStatic S W))) (AnyCode (PastBlocks W.switches) S)

-- 71 and 72 of a `var` further inside a body, and 71 past such names
abbrev pub InsideCode : BodySets → Liberties → Position → Tree → Tree → Type 0
InsideCode S W = Either (InsideContracts W) (PastInside S W)

-- all of them
abbrev pub SteadyRewrites : BodySets → Liberties → Position → Tree → Tree → Type 0
SteadyRewrites S W = Either (Either (AnyCode (SteadyRowsIn W.switches.edition) S) (AnyCode LexicalRows S)) (Either (PastCode S W) (InsideCode S W))

abbrev pub SteadyRewritesReadLess : Type 0
SteadyRewritesReadLess = (S : BodySets) (W : Liberties) → ReadsLess (SteadyRewrites S W)
