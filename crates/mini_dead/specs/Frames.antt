-- What stands outside the bodies of a program, once dead items are gone.
use Rattle.std.specs.Prelude.{◌≡◌, ℕ, List, [], Contains, None}
use Rattle.mini_model.specs.Tree.{Tree, node}
use Rattle.mini_accept.specs.WellShaped.{IsWellShaped}
use Rattle.mini_laws.specs.declared.names.Use.TheVariants.{Read}
use Rattle.mini_laws.specs.Scoped.{Scoped}
use Rattle.mini_kept.specs.Frames.{Frame, frame_of, outline, globals, frames_in, FramesKept}
use Rattle.mini_dead.specs.Drops.{DropsAgain}

-- each function and each carried node that is left has the frame that it had
abbrev pub DropsKeepFrames : Type 0
DropsKeepFrames = (t u : Tree) (n : ℕ) → DropsAgain t u n → IsWellShaped t → (f : Frame) → (f.number ≡ 0 → ⊥) → Contains (frames_in u) f → Contains (frames_in t) f

-- the frame of the root
abbrev pub root_frame : Tree → List Frame
root_frame (node h xs n ts) = frame_of None h n (outline h xs n ts) (globals h ts)

-- The program itself has the frame that it had, where its names are resolved: no import and no
-- export goes, and no name that a script gives the global object
abbrev pub DropsKeepProgram : Type 0
DropsKeepProgram = (t u : Tree) (n : ℕ) → DropsAgain t u n → IsWellShaped t → Scoped Read [] t → root_frame t ≡ root_frame u

-- so each frame of the later program, its own among them, is one that the earlier has
abbrev pub DropsKeepAllFrames : Type 0
DropsKeepAllFrames = (t u : Tree) (n : ℕ) → DropsAgain t u n → IsWellShaped t → Scoped Read [] t → FramesKept (frames_in t) (frames_in u)
