-- What passes of a rule over a program come to. What a pass may make is over the program as that
-- pass began: G says what, and D where nothing is left.
use Rattle.std.specs.Prelude.{◌≡◌, ℕ, zero, suc, ◌+◌, ◌<◌, ◌≤◌, max, Bool, true, false}
use Rattle.mini_model.specs.Tree.{Tree}
use Rattle.mini_model.specs.declared.place.Position.{Position}
use Rattle.mini_model.specs.declared.place.Position.TheVariants.{Elsewhere}
use Rattle.mini_model.specs.Weight.{weight}
use Rattle.mini_model.specs.Rewriting.{Reaches, Everywhere}

-- from one tree to another by so many passes
pub data PassesReach (G : Tree → Position → Tree → Tree → Type 0) : ℕ → Tree → Tree → Type 0 where
  no_pass : (t : Tree) → PassesReach G zero t t
  one_more : (n : ℕ) (t u v : Tree) → PassesReach G n t u → Reaches (G u) Elsewhere u v → PassesReach G (suc n) t v

-- some passes over a program, of at most so many: each but a last one that finds nothing makes it
-- lighter, so where the first is the last the tree is the same
pub record MakesPasses (G : Tree → Position → Tree → Tree → Type 0) (D : Tree → Position → Tree → Type 0) (t u : Tree) (bound passes : ℕ) (settled : Bool) : Type 0 where
  pub reached : PassesReach G passes t u
  pub some_pass : 1 ≤ passes
  pub within : passes ≤ max bound 1
  pub lighter : weight Elsewhere u + passes ≤ weight Elsewhere t + 1
  pub at_once : settled ≡ true → passes ≡ 1 → u ≡ t
  -- by what is to be known of the last tree itself
  pub ended : settled ≡ true → Everywhere (D u) Elsewhere u
  pub stopped : settled ≡ false → (passes ≡ max bound 1) × (weight Elsewhere u + passes ≤ weight Elsewhere t)
  -- the last pass, too, made a program lighter, to which the others led
  pub last : settled ≡ false → (w : Tree) × ((n : ℕ) × PassesReach G n t w) × (weight Elsewhere w + passes ≤ weight Elsewhere t + 1) × (weight Elsewhere u < weight Elsewhere w)
