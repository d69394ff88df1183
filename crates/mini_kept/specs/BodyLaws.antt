-- Rewriting keeps the bodies of a program.
use Rattle.std.specs.Prelude.{◌≡◌, Bool, true, Contains}
use Rattle.mini_model.specs.declared.place.Position.{Position}
use Rattle.mini_model.specs.declared.place.Position.TheVariants.{Elsewhere}
use Rattle.mini_model.specs.Tree.{Tree}
use Rattle.mini_model.specs.Redex.{Contracts}
use Rattle.mini_model.specs.Rewriting.{Step, Reaches}
use Rattle.mini_accept.specs.WellShaped.{Slot, fits, IsWellShaped}
use Rattle.mini_laws.specs.Bodies.{Around, Body, bodies, bodies_in}
use Rattle.mini_kept.specs.AlikeBodies.{AlikeBody, BodiesKept}
use Rattle.mini_kept.specs.Placed.{fits_place}
use Rattle.mini_kept.specs.Standing.{Stands}
use Rattle.mini_kept.specs.KeepsBodies.{KeepsBodies}

-- one step, at any place of a tree that fills a slot
abbrev pub StepKeepsBodies : (Position → Tree → Tree → Type 0) → Type 0
StepKeepsBodies R =
    KeepsBodies R → (p : Position) (t u : Tree) → Step R p t u → (strict : Bool) (s : Slot) → fits_place p s ≡ true → fits strict s t ≡ true → (a : Around) → Stands s p a → BodiesKept (bodies a t) (bodies a u)

-- any number of them, where some condition holds of each tree on the way, under which it is well
-- shaped
abbrev pub ReachesKeepsBodies : (Position → Tree → Tree → Type 0) → Type 0
ReachesKeepsBodies R =
    KeepsBodies R → (holds : Tree → Bool) → ((t : Tree) → holds t ≡ true → IsWellShaped t) → ((t u : Tree) → Step R Elsewhere t u → holds t ≡ true → holds u ≡ true) → (t u : Tree) → Reaches R Elsewhere t u → holds t ≡ true → BodiesKept (bodies_in t) (bodies_in u)

-- so each body of the later program stands for one of the earlier
abbrev pub BodiesStand : Type 0
BodiesStand = (t u : Tree) → BodiesKept (bodies_in t) (bodies_in u) → (c : Body) → Contains (bodies_in u) c → (b : Body) × Contains (bodies_in t) b × AlikeBody b c

-- the rows are such a relation
abbrev pub RowsKeepBodies : Type 0
RowsKeepBodies = KeepsBodies Contracts

-- so any number of rewrites keep those of a program
abbrev pub ProgramKeepsBodies : Type 0
ProgramKeepsBodies = (t u : Tree) → Reaches Contracts Elsewhere t u → IsWellShaped t → BodiesKept (bodies_in t) (bodies_in u)
