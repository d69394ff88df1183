-- Which rows rest on what is known of the bodies of a program, S, where W says which variables can
-- be written and what the options let happen: those of the own code of functions, of arrow
-- functions, of the program itself, of static blocks and of inner expressions, over what keeps its
-- value and over lexical names that no event shows, those of a name of a function, an arrow
-- function, a module or a static block that is read once, or of a block in the own code of any of
-- them, and those of a `var` further inside its body, with or without such names before the read.
use Rattle.mini_model.specs.declared.place.Position.{Position}
use Rattle.mini_model.specs.declared.place.Position.TheVariants.{Elsewhere}
use Rattle.mini_model.specs.Tree.{Tree}
use Rattle.mini_model.specs.Rewriting.{Everywhere}
use Rattle.mini_kept.specs.Without.{BodySets}
use Rattle.mini_rows.specs.Editions.{SteadyRowsIn}
use Rattle.mini_rows.specs.Inside.{InsideContracts}
use Rattle.mini_rows.specs.OwnArrows.{OwnCode}
use Rattle.mini_rows.specs.OwnParts.{OwnPart}
use Rattle.mini_rows.specs.OwnPrograms.{OwnProgram}
use Rattle.mini_rows.specs.Past.{PastFunction}
use Rattle.mini_rows.specs.PastArrows.{PastArrow}
use Rattle.mini_rows.specs.PastBlocks.{PastBlocks}
use Rattle.mini_rows.specs.PastInside.{PastInside}
use Rattle.mini_rows.specs.PastModules.{PastModule}
use Rattle.mini_rows.specs.PastStatics.{PastStatic}
use Rattle.mini_rows.specs.Steady.{OwnRows, LexicalRows}
use Rattle.mini_rows.specs.Switches.{Liberties}
use Rattle.mini_tree.specs.declared.options.CompressOptions.{CompressOptions}
use Rattle.mini_tree.specs.Rule.{Either, Both}
use Rattle.mini_steady.specs.Arrows.{ArrowRests}
use Rattle.mini_steady.specs.Functions.{Rests}
use Rattle.mini_steady.specs.Parts.{PartRests}
use Rattle.mini_steady.specs.Programs.{ProgramRests}
use Rattle.mini_steady.specs.Told.{told_in}
use Rattle.mini_past.specs.PastEnds.{RestsPastInside}
use Rattle.mini_past.specs.SubstitutePast.{RestsPast, RestsPastArrow, RestsPastModule, RestsPastStatic}
use Rattle.mini_unused.specs.Allowed.{allowed_in}
use Rattle.mini_inside.specs.Further.{RestsInside}

-- rows of a family in the own code of whatever has a body
abbrev pub AnyCode : OwnRows → BodySets → Position → Tree → Tree → Type 0
AnyCode F S = Either (Either (OwnCode F S) (OwnProgram F S)) (OwnPart F S)

-- 71 past names that keep their value, of whatever has a body, and of a block in its own code
abbrev pub PastCode : BodySets → Liberties → Position → Tree → Tree → Type 0
PastCode S W = Either (Either (Either (PastFunction S W) (PastArrow S W)) (Either (PastModule S W) (PastStatic S W))) (AnyCode (PastBlocks W.switches) S)

-- 71 and 72 of a `var` further inside a body, and 71 past such names
abbrev pub InsideCode : BodySets → Liberties → Position → Tree → Tree → Type 0
InsideCode S W = Either (InsideContracts W) (PastInside S W)

abbrev pub SteadyRewrites : BodySets → Liberties → Position → Tree → Tree → Type 0
SteadyRewrites S W = Either (Either (AnyCode (SteadyRowsIn W.switches.edition) S) (AnyCode LexicalRows S)) (Either (PastCode S W) (InsideCode S W))

-- none of a family reads the own code of it
abbrev pub CodeRests : OwnRows → BodySets → Position → Tree → Type 0
CodeRests F S = Both (Both (Both (Rests F S) (ArrowRests F S)) (ProgramRests F S)) (PartRests F S)

-- none of 71 past names
abbrev pub PastRests : BodySets → Liberties → Position → Tree → Type 0
PastRests S W = Both (Both (Both (RestsPast S W) (RestsPastArrow S W)) (Both (RestsPastModule S W) (RestsPastStatic S W))) (CodeRests (PastBlocks W.switches) S)

-- none reads a node in its place
abbrev pub IsSteadilySettled : BodySets → Liberties → Position → Tree → Type 0
IsSteadilySettled S W = Both (Both (CodeRests (SteadyRowsIn W.switches.edition) S) (CodeRests LexicalRows S)) (Both (PastRests S W) (Both (RestsInside W) (RestsPastInside S W)))

-- and nowhere in a program, by what a look at it tells of its bodies and of what can be written in
-- it, and by the options
abbrev pub IsSteadilyRewritten : CompressOptions → Tree → Type 0
IsSteadilyRewritten o u = Everywhere (IsSteadilySettled (told_in u) (allowed_in o u)) Elsewhere u
