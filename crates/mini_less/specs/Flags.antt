-- What a tree tells besides its names.
use Rattle.std.specs.Prelude.{ℕ, ◌≡◌, true}
use Rattle.mini_model.specs.Tree.{Tree}
use Rattle.mini_laws.specs.Shared.{names_arguments}
use Rattle.mini_laws.specs.Foreign.{has_number}

-- what is written names `arguments` no more, and has no other number
pub record FlagsLess (n w : Tree) : Type 0 where
  pub arguments : names_arguments w ≡ true → names_arguments n ≡ true
  pub number : (b : ℕ) → has_number b w ≡ true → has_number b n ≡ true
