-- All nodes of a tree, and their paths.
use Rattle.std.specs.Prelude.{◌≡◌, nat_eq, Bool, true, false, ◌&&◌, if◌then◌else◌, List, [], ◌∷◌, map, count_by, Option, Some, is_some}
use Rattle.mini_model.specs.Tree.{Tree, Trees, none, ◌▸◌}
use Rattle.mini_model.specs.Paths.{Path, node_at, nodes_of, paths_of}

-- as what paths find
abbrev pub as_found : Trees → List (Option Tree)
as_found none = []
as_found (t ▸ ts) = Some t ∷ as_found ts

-- the paths lead to the nodes, each to its own
abbrev pub PathsFound : Type 0
PathsFound = (t : Tree) → map (λ p. node_at p t) (paths_of t) ≡ as_found (nodes_of t)

abbrev pub path_eq : Path → Path → Bool
path_eq [] [] = true
path_eq (i ∷ p) (j ∷ q) = nat_eq i j && path_eq p q
path_eq _ _ = false

-- and each path that leads somewhere is one of them, once
abbrev pub PathsOnce : Type 0
PathsOnce = (p : Path) (t : Tree) → count_by (path_eq p) (paths_of t) ≡ (if is_some (node_at p t) then 1 else 0)
