-- Rewriting keeps the frames of a program.
use Rattle.std.specs.Prelude.{◌≡◌, Bool, true, false, Option, None}
use Rattle.mini_model.specs.declared.kind.PropertyKind.{PropertyKind}
use Rattle.mini_model.specs.declared.place.Position.{Position}
use Rattle.mini_model.specs.declared.place.Position.TheVariants.{Elsewhere}
use Rattle.mini_model.specs.Tree.{Tree}
use Rattle.mini_model.specs.Redex.{Contracts}
use Rattle.mini_model.specs.Rewriting.{Step, Reaches}
use Rattle.mini_accept.specs.WellShaped.{Slot, fits, IsWellShaped}
use Rattle.mini_kept.specs.Placed.{fits_place}
use Rattle.mini_kept.specs.Standing.{is_method_slot}
use Rattle.mini_laws.specs.Value.{nothing}
use Rattle.mini_laws.specs.Bodies.{Around, bodies, bodies_in}
use Rattle.mini_kept.specs.Frames.{frames, frames_in}
use Rattle.mini_kept.specs.ShownFrames.{KeyGiven, none_gone, FramesShown}
use Rattle.mini_kept.specs.KeepsBodies.{KeepsBodies}
use Rattle.mini_kept.specs.KeepsFrames.{KeepsFrames}

-- one step, at any place of a tree that fills a slot; that of a method or an accessor alone has a
-- function of one
abbrev pub StepKeepsFrames : (Position → Tree → Tree → Type 0) → Type 0
StepKeepsFrames R =
    KeepsFrames R → (p : Position) (t u : Tree) → Step R p t u → (strict : Bool) (s : Slot) → fits_place p s ≡ true → fits strict s t ≡ true → (a : Around) (k : Option PropertyKind) → (is_method_slot s ≡ false → k ≡ None) → FramesShown none_gone (KeyGiven nothing (bodies a t)) (frames k t) (frames k u)

-- any number of them, which keep bodies too, where some condition holds of each tree on the way,
-- under which it is well shaped
abbrev pub ReachesKeepsFrames : (Position → Tree → Tree → Type 0) → Type 0
ReachesKeepsFrames R =
    KeepsFrames R → KeepsBodies R → (holds : Tree → Bool) → ((t : Tree) → holds t ≡ true → IsWellShaped t) → ((t u : Tree) → Step R Elsewhere t u → holds t ≡ true → holds u ≡ true) → (t u : Tree) → Reaches R Elsewhere t u → holds t ≡ true → FramesShown none_gone (KeyGiven nothing (bodies_in t)) (frames_in t) (frames_in u)

-- the rows are such a relation
abbrev pub RowsKeepFrames : Type 0
RowsKeepFrames = KeepsFrames Contracts

-- so any number of rewrites keep those of a program
abbrev pub ProgramKeepsFrames : Type 0
ProgramKeepsFrames = (t u : Tree) → Reaches Contracts Elsewhere t u → IsWellShaped t → FramesShown none_gone (KeyGiven nothing (bodies_in t)) (frames_in t) (frames_in u)
