-- A test of every node of a tree.
use Rattle.std.specs.Prelude.{ℕ, Bool, true, ◌&&◌, List}
use Rattle.mini_model.specs.declared.name.Name.{Name}
use Rattle.mini_model.specs.declared.shape.Shape.{Shape}
use Rattle.mini_model.specs.Tree.{Tree, Trees, node, none, ◌▸◌}

-- a test of a node, by its shape, its names and its number
abbrev pub Test : Type 0
Test = Shape → List Name → ℕ → Bool

abbrev mutual
  pub each_node : Test → Tree → Bool
  each_node f (node h xs n ts) = f h xs n && each_nodes f ts

  pub each_nodes : Test → Trees → Bool
  each_nodes f none = true
  each_nodes f (t ▸ ts) = each_node f t && each_nodes f ts
