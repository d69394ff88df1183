-- What paths lead to.
use Rattle.std.specs.Prelude.{◌≡◌, ℕ, true, ◌∷◌, ◌++◌, Some, is_some, option_and_then}
use Rattle.mini_model.specs.Tree.{Tree}
use Rattle.mini_model.specs.Paths.{is_node, Path, node_at, replace_at}

-- below the root, to nodes of ESTree
abbrev pub NodeFound : Type 0
NodeFound = (i : ℕ) (p : Path) (t c : Tree) → node_at (i ∷ p) t ≡ Some c → is_node c ≡ true

-- a node is found just where one can be replaced
abbrev pub FoundWhereReplaced : Type 0
FoundWhereReplaced = (p : Path) (w t : Tree) → is_some (replace_at p w t) ≡ is_some (node_at p t)

-- one path after another is the second in the node that the first leads to
abbrev pub FoundFurther : Type 0
FoundFurther = (p q : Path) (t : Tree) → node_at (p ++ q) t ≡ option_and_then (node_at q) (node_at p t)
