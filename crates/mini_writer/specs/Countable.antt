-- What is counted of a program in 32 bits.
use Rattle.std.specs.Prelude.{ℕ, ◌≡◌, ◌+◌, ◌<◌, ◌^◌, length, Ok}
use Rattle.serde_json.specs.Data.{Data}
use Rattle.mini_model.specs.Tree.{Tree}
use Rattle.mini_laws.specs.declared.names.Use.TheVariants.{Read}
use Rattle.mini_laws.specs.References as reference
use Rattle.mini_laws.specs.Resolved as resolution
use Rattle.mini_accept.specs.Accept.{program_at}
use Rattle.mini_writer.specs.Fits.{Fits}

-- The symbols of a tree (ECMA-262, "Environment Records"), its references ("ResolveBinding") with
-- one more, and how many of its nodes have a number.
pub record Countable (t : Tree) (n : ℕ) : Type 0 where
  pub symbols : resolution.symbols Read t < 2 ^ 32
  pub references : length (reference.references Read t) + 1 < 2 ^ 32
  pub numbers : n < 2 ^ 32

abbrev pub AcceptedIsCountable : Type 0
AcceptedIsCountable = (d : Data) (k : ℕ) (t : Tree) (n : ℕ) → Fits d → program_at k d ≡ Ok (t, n) → Countable t n
