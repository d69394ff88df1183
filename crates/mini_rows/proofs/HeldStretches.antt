-- What holds statements that lose a name: an arrow function, any other function, a module and a static block.
use Rattle.std.specs.Prelude.{ℕ, ◌≡◌, refl, Bool, true, List}
use Rattle.mini_model.specs.Tree.{Tree, Trees, none, ◌▸◌, listed, program}
use Rattle.mini_laws.specs.Value.{VariableSet}
use Rattle.mini_rows.specs.Unused.{arrow_with, function_with, static_block, ArrowBodyRow, FunctionBodyRow, ModuleRow, StaticBlockRow}
use Rattle.mini_rows.specs.Switches.{Liberties}
use Rattle.mini_rows.proofs.UnusedStretches.{Stretch, row_stretch}

pub record ArrowStretch (W : VariableSet) (n w : Tree) : Type 0 where
  pub directives : List (List ℕ)
  pub number : ℕ
  pub parameters : Trees
  pub before : Trees
  pub after : Trees
  pub there : Stretch W (listed parameters) before after
  pub shape : n ≡ arrow_with directives number parameters before
  pub written : w ≡ arrow_with directives number parameters after

pub record FunctionStretch (W : VariableSet) (n w : Tree) : Type 0 where
  pub is_declared : Bool
  pub is_generator : Bool
  pub directives : List (List ℕ)
  pub number : ℕ
  pub name : Tree
  pub parameters : Trees
  pub before : Trees
  pub after : Trees
  pub there : Stretch W (listed (name ▸ parameters)) before after
  pub shape : n ≡ function_with is_declared is_generator directives number name parameters before
  pub written : w ≡ function_with is_declared is_generator directives number name parameters after

pub record ModuleStretch (W : VariableSet) (n w : Tree) : Type 0 where
  pub directives : List (List ℕ)
  pub before : Trees
  pub after : Trees
  pub there : Stretch W (listed none) before after
  pub shape : n ≡ program true directives before
  pub written : w ≡ program true directives after

pub record StaticStretch (W : VariableSet) (n w : Tree) : Type 0 where
  pub number : ℕ
  pub before : Trees
  pub after : Trees
  pub there : Stretch W (listed none) before after
  pub shape : n ≡ static_block number before
  pub written : w ≡ static_block number after

-- ---- those of the rows of their statements

pub arrow_stretch : (W : Liberties) (n w : Tree) → ArrowBodyRow W n w → ArrowStretch W.writable n w
arrow_stretch W n w r = record { directives = r.directives; number = r.number; parameters = r.parameters; before = r.before; after = r.after; there = row_stretch W (listed r.parameters) r.before r.after refl r.row; shape = r.shape; written = r.written }

pub function_stretch : (W : Liberties) (n w : Tree) → FunctionBodyRow W n w → FunctionStretch W.writable n w
function_stretch W n w r = record {
  is_declared = r.is_declared;
  is_generator = r.is_generator;
  directives = r.directives;
  number = r.number;
  name = r.name;
  parameters = r.parameters;
  before = r.before;
  after = r.after;
  there = row_stretch W (listed (r.name ▸ r.parameters)) r.before r.after refl r.row;
  shape = r.shape;
  written = r.written;
}

pub module_stretch : (W : Liberties) (n w : Tree) → ModuleRow W n w → ModuleStretch W.writable n w
module_stretch W n w r = record { directives = r.directives; before = r.before; after = r.after; there = row_stretch W (listed none) r.before r.after refl r.row; shape = r.shape; written = r.written }

pub static_stretch : (W : Liberties) (n w : Tree) → StaticBlockRow W n w → StaticStretch W.writable n w
static_stretch W n w r = record { number = r.number; before = r.before; after = r.after; there = row_stretch W (listed none) r.before r.after refl r.row; shape = r.shape; written = r.written }
