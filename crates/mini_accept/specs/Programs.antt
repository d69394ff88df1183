-- What well-shaped trees are at their root.
use Rattle.std.specs.Prelude.{◌≡◌, ℕ, Bool, List, []}
use Rattle.mini_model.specs.declared.shape.Shape.TheVariants.{Program}
use Rattle.mini_model.specs.Tree.{Tree, Trees, node, none, ◌▸◌, listed}
use Rattle.mini_accept.specs.WellShaped.{IsWellShaped}

-- a well-shaped tree is a program of statements
abbrev pub WellShapedIsProgram : Type 0
WellShapedIsProgram = (t : Tree) → IsWellShaped t → (is_module : Bool) × (directives : List (List ℕ)) × (number : ℕ) × (body : Trees) × (t ≡ node (Program is_module directives) [] number (listed body ▸ none))
