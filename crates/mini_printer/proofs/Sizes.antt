-- How many nodes there are in the parts of a list.
use Rattle.std.proofs.Common.{◌≡◌, ℕ, zero, suc, ◌<◌, ◌≤◌, List, [], ◌∷◌, length, get_or, arith}
use Rattle.mini_model.specs.Tree.{Tree, node_count, node_counts}
use Rattle.mini_node.specs.Children.{trees_of}

pub node_within : (xs : List Tree) (i : ℕ) (x : Tree) → i < length xs → x ≡ get_or xs i x → node_count x ≤ node_counts (trees_of xs)
node_within [] i x h is = absurd (omega (arith, h))
node_within (y ∷ ys) zero x h is = rw is (omega arith)
node_within (y ∷ ys) (suc i) x h is = let less : i < length ys = omega (arith, h) in omega (arith, node_within ys i x less is)
