-- A relation of rewriting that keeps all that a program has to keep, and what any number of its
-- steps keep.
use Rattle.std.specs.Prelude.{◌≡◌, ◌⊎◌, Bool, Contains}
use Rattle.mini_model.specs.declared.name.Name.{Name}
use Rattle.mini_model.specs.declared.place.Position.{Position}
use Rattle.mini_model.specs.declared.place.Position.TheVariants.{Elsewhere}
use Rattle.mini_model.specs.Tree.{Tree, children}
use Rattle.mini_model.specs.Redex.{Contracts}
use Rattle.mini_model.specs.Rewriting.{Reaches}
use Rattle.mini_accept.specs.WellShaped.{IsWellShaped}
use Rattle.mini_laws.specs.Value.{Variable, nothing}
use Rattle.mini_laws.specs.Fixity.{fixed_by, fixed_in}
use Rattle.mini_laws.specs.Bodies.{bodies_in}
use Rattle.mini_kept.specs.AlikeBodies.{BodiesKept}
use Rattle.mini_kept.specs.Declaring.{declared}
use Rattle.mini_kept.specs.Frames.{frames_in}
use Rattle.mini_kept.specs.ShownFrames.{KeyGiven, none_gone, FramesShown}
use Rattle.mini_kept.specs.Kept.{over}
use Rattle.mini_kept.specs.KeepsBodies.{KeepsBodies}
use Rattle.mini_kept.specs.KeepsFrames.{KeepsFrames}
use Rattle.mini_kept.specs.KeepsShapes.{KeepsShapes}
use Rattle.mini_kept.specs.Lifted.{ProgramKeeps}

-- It keeps shapes, bodies, names and frames, and what it writes declares each name as what stood
-- there does, and no other
pub record Lawful (R : Position → Tree → Tree → Type 0) : Type 0 where
  pub shapes : KeepsShapes R
  pub bodies : KeepsBodies R
  -- and names
  pub frames : KeepsFrames R
  pub fixed : (p : Position) (n w : Tree) → R p n w → (x : Variable) → fixed_by n x ≡ fixed_by w x
  pub declared : (p : Position) (n w : Tree) → R p n w → (x : Name) → Contains (declared w) x → Contains (declared n) x

-- what any number of steps keep of a program
pub record ProgramIsKept (t u : Tree) : Type 0 where
  pub names : ProgramKeeps t u
  pub bodies : BodiesKept (bodies_in t) (bodies_in u)
  pub frames : FramesShown none_gone (KeyGiven nothing (bodies_in t)) (frames_in t) (frames_in u)
  -- what a write of each variable does
  pub fixities : (strict : Bool) (x : Variable) → fixed_in strict t x ≡ fixed_in strict u x
  pub declared : (x : Name) → Contains (declared u) x → Contains (declared t) x
  pub root : u ≡ over t (children u)

abbrev pub LawfulKeeps : (Position → Tree → Tree → Type 0) → Type 0
LawfulKeeps R = Lawful R → (t u : Tree) → Reaches R Elsewhere t u → IsWellShaped t → ProgramIsKept t u

-- two lawful relations make one
abbrev pub LawfulJoin : (Position → Tree → Tree → Type 0) → (Position → Tree → Tree → Type 0) → Type 0
LawfulJoin R S = Lawful R → Lawful S → Lawful (λ p t u. R p t u ⊎ S p t u)

-- and so is what makes no more than a lawful one
abbrev pub LawfulNarrowed : (Position → Tree → Tree → Type 0) → (Position → Tree → Tree → Type 0) → Type 0
LawfulNarrowed R S = ((p : Position) (t u : Tree) → R p t u → S p t u) → Lawful S → Lawful R

-- the rows are lawful
abbrev pub RowsAreLawful : Type 0
RowsAreLawful = Lawful Contracts
