-- What is written for a tree, read again.
use Rattle.std.specs.Prelude.{◌≡◌}
use Rattle.serde_json.specs.Data.{Data}
use Rattle.mini_model.specs.Tree.{Tree}
use Rattle.mini_accept.specs.WellShaped.{IsWellShaped}
use Rattle.mini_accept.specs.Accept.{Accepts}
use Rattle.mini_writer.specs.Written.{program_data}
use Rattle.mini_writer.specs.Bare.{bare}

-- what is written for a well-shaped tree is accepted as this tree, but for its numbers and symbols
abbrev pub WrittenIsAccepted : Type 0
WrittenIsAccepted = (t : Tree) → IsWellShaped t → (u : Tree) × Accepts (program_data t) u × (bare u ≡ bare t)

-- so is what is written for a tree that a value was accepted as
abbrev pub ReadIsWritten : Type 0
ReadIsWritten = (d : Data) (t : Tree) → Accepts d t → (u : Tree) × Accepts (program_data t) u × (bare u ≡ bare t)
