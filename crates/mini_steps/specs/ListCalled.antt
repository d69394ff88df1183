-- One call at the list of statements that a node holds.
use Rattle.std.specs.Prelude.{ℕ, ◌≡◌, ◌<◌, ◌≤◌, Bool, false, Some}
use Rattle.mini_model.specs.Tree.{Tree, count, children, shape_of}
use Rattle.mini_node.specs.Children.{part, with_part}
use Rattle.mini_rows.specs.Switches.{Switches}
use Rattle.mini_stmt.specs.MinimizeStatements.{MinimizesList}
use Rattle.mini_steps.specs.Rows.{list_index}

pub data ListCalled (o : Switches) (t : Tree) : Tree → Bool → Type 0 where
  in_list : (k : ℕ) (v : Tree) (b : Bool) → list_index (shape_of t) ≡ Some k → k < count (children t) → MinimizesList o (part t k) v b → ListCalled o t (with_part t k v) b
  no_list : ((k : ℕ) → list_index (shape_of t) ≡ Some k → count (children t) ≤ k) → ListCalled o t t false
