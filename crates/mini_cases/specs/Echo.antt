-- What is written of a text.
use Rattle.std.specs.Prelude.{◌≡◌, ℕ, List, Some, Ok}
use Rattle.serde_json.specs.Data.{Data}
use Rattle.serde_json.specs.Read.{read}
use Rattle.serde_json.specs.Written.{IsInOrder}
use Rattle.mini_model.specs.Tree.{Tree}
use Rattle.mini_accept.specs.Accept.{program_at}
use Rattle.mini_writer.specs.Written.{program_data}

-- the text is JSON, and the other one has its items and members, each once and in order
pub record IsSameJson (input output : List ℕ) : Type 0 where
  pub value : Data
  pub reads : read input ≡ Some value
  pub written : IsInOrder output value

-- the text is JSON of a program that is read, and the other one has the items and members of what
-- is written for its tree
pub record IsEcho (input output : List ℕ) : Type 0 where
  pub value : Data
  pub reads : read input ≡ Some value
  pub tree : Tree
  pub numbers : ℕ
  pub accepted : program_at 1000 value ≡ Ok (tree, numbers)
  pub written : IsInOrder output (program_data tree)
