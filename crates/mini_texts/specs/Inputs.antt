-- Inputs that are programs with a text.
use Rattle.std.specs.Prelude.{◌≡◌, ℕ, ◌≤◌, true, List, length, Option, Some, None, Ok, IsUtf8}
use Rattle.serde_json.specs.Data.{Data}
use Rattle.serde_json.specs.Read.{read}
use Rattle.mini_model.specs.Tree.{Tree}
use Rattle.mini_accept.specs.Accept.{program_at}
use Rattle.mini_print.specs.Unprintable.{first_fault}
use Rattle.mini_faults.specs.Depth.{may_print}
use Rattle.mini_texts.specs.Texts.{program_data_in}

-- The source tells its bytes, which aren't too many; and they are JSON of a value that is or has a
-- program. No node of that is a fault, and it doesn't nest too deep.
pub record IsPrintableInput (max_depth : ℕ) (before : Option (List ℕ)) : Type 0 where
  pub input : List ℕ
  pub there : before ≡ Some input
  pub short : length input ≤ 16777216
  pub utf8 : IsUtf8 input
  pub value : Data
  pub reads : read input ≡ Some value
  pub program : Tree
  pub numbers : ℕ
  pub accepted : program_at max_depth (program_data_in value) ≡ Ok (program, numbers)
  pub plain : first_fault program ≡ None
  pub shallow : may_print program ≡ true
