-- When an answer that lost its dead items stands for the program that it was made from. Both are
-- compared as those of mini_peephole are: in the numbers and symbols of the earlier program.
use Rattle.std.specs.Prelude.{◌≡◌, ℕ, ◌+◌, ◌≤◌, true, false, List, [], Contains, Some}
use Rattle.serde_json.specs.Data.{Data}
use Rattle.serde_json.specs.Read.{read}
use Rattle.serde_json.specs.View.{view}
use Rattle.mini_model.specs.declared.name.Name.{Name}
use Rattle.mini_model.specs.Tree.{Tree}
use Rattle.mini_model.specs.Weight.{program_weight}
use Rattle.mini_accept.specs.Accept.{Accepts}
use Rattle.mini_laws.specs.Bodies.{bodies_in}
use Rattle.mini_laws.specs.Early.{early_names, early_jumps, no_targets}
use Rattle.mini_laws.specs.Writable.{writable_by}
use Rattle.mini_kept.specs.Declaring.{declared}
use Rattle.mini_kept.specs.Frames.{Frame, frames_in}
use Rattle.mini_kept.specs.Loosely.{undeclared}
use Rattle.mini_kept.specs.ShownFrames.{KeyGivenUnder, gone_from, FramesShown}
use Rattle.mini_rows.specs.Forms.{IsWithinEdition}
use Rattle.mini_rows.specs.Switches.{let_go}
use Rattle.mini_dead.specs.Dead.{dead_count}
use Rattle.mini_dead.specs.Drops.{DropsAgain, BodiesStay}
use Rattle.mini_dead.specs.Frames.{root_frame}
use Rattle.mini_tree.specs.declared.options.CompressOptions.{CompressOptions}
use Rattle.mini_peephole.specs.Environments.{steady_in}
use Rattle.mini_peephole.specs.Faithful.{earlier, later, AreNamed, BodiesAreSame, pass_bound, switches, IsRewritten}
use Rattle.mini_peephole.specs.declared.minify.Minified.{Minified}
use Rattle.mini_shaken.specs.Chain.{Chain}
use Rattle.mini_shaken.specs.Shaking.{IsPass}

-- ---- links

-- The second program is the first one less some dead items
pub record StandsLess (t u : Tree) : Type 0 where
  pub gone : ℕ
  pub drops : DropsAgain t u gone
  -- each body does what the one does that it was, but for the creation of the functions that went
  pub bodies : BodiesStay t u
  -- what stands outside bodies is kept, of each function and carried node that is left and of the
  -- program itself
  pub frames : (f : Frame) → (f.number ≡ 0 → ⊥) → Contains (frames_in u) f → Contains (frames_in t) f
  pub program : root_frame t ≡ root_frame u
  pub weight : program_weight u + gone ≤ program_weight t

-- the second is the first after a pass of rewrites
pub record StandsRewritten (o : CompressOptions) (t u : Tree) : Type 0 where
  pub pass : IsPass o t u
  -- each body does what the one does that it was
  pub bodies : BodiesAreSame t u
  -- what stands outside bodies is kept, but for brackets and names that the options let go
  pub frames : FramesShown (gone_from (let_go (switches o)) (undeclared u)) (KeyGivenUnder (writable_by t) (steady_in u) (undeclared u) (bodies_in t)) (frames_in t) (frames_in u)

-- ---- the whole

-- what is said of the two trees
pub record IsShaken (o : CompressOptions) (m : Minified) (t u : Tree) : Type 0 where
  -- the answer has no early error
  pub names : early_names [] u ≡ []
  pub jumps : early_jumps no_targets [] u ≡ []
  -- which node and which symbol of the input each of its own was
  pub named : AreNamed m.kept m.symbols t u
  -- each name that it declares is one that the input declares, and spelled as there
  pub spelled : (x : Name) → Contains (declared (later m u)) x → Contains (declared (earlier t)) x
  -- links lead from the earlier program to the later one, of which each keeps what programs do
  pub links : Chain StandsLess (StandsRewritten o) m.passes (earlier t) (later m u)
  -- each form newer than the edition that is asked for, which stands in the later program, stands in
  -- the earlier
  pub forms : IsWithinEdition o.edition (earlier t) (later m u)
  -- it is no heavier
  pub weight : program_weight (later m u) ≤ program_weight (earlier t)
  -- no item of it is dead
  pub none_dead : dead_count (later m u) ≡ 0
  -- passes
  pub some_pass : 1 ≤ m.passes
  pub within : m.passes ≤ pass_bound o
  pub settled : m.settled ≡ true → IsRewritten o (later m u) × (program_weight (later m u) + m.passes ≤ program_weight (earlier t) + 1)
  pub unsettled : m.settled ≡ false → (m.passes ≡ pass_bound o) × (program_weight (later m u) + pass_bound o ≤ program_weight (earlier t))

-- the value is a program, the answer's value is one, and the later one stands for the earlier
pub record Shaken (d : Data) (o : CompressOptions) (m : Minified) : Type 0 where
  pub input : Tree
  pub output : Tree
  pub accepted : Accepts d input
  pub answered : Accepts (view m.program) output
  pub shaken : IsShaken o m input output

-- the bytes are JSON, of a program for which this answer stands
pub record HasShaken (o : CompressOptions) (input : List ℕ) (m : Minified) : Type 0 where
  pub value : Data
  pub reads : read input ≡ Some value
  pub shaken : Shaken value o m
