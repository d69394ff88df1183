-- A part is smaller than the whole.
use Rattle.std.specs.Prelude.{ℕ, ◌+◌, ◌≤◌, List, [], ◌∷◌}
use Rattle.std.proofs.Common.{arith}
use denote.Param.Weighed.{most}
use Rattle.mini_model.specs.Tree.{Tree, Trees, node}
use Rattle.mini_model.specs.declared.name.Name.{Name}
use Rattle.mini_model.specs.declared.shape.Shape.{Shape}
use Rattle.mini_node.specs.Children.{trees_of, node_size, nodes_size}

pub within-Node : (h : Shape) (xs : List Name) (n : ℕ) (ts : Trees) → nodes_size ts + 1 ≤ node_size (node h xs n ts)
within-Node h xs n ts = omega arith

pub within-Nodes : (ts : List Tree) → most (λ t. node_size t + 1) ts ≤ nodes_size (trees_of ts)
within-Nodes [] = omega arith
within-Nodes (t ∷ ts) = omega (arith, within-Nodes ts)
