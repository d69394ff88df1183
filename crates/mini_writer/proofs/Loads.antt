-- What a tree weighs, with one for each node and three for each name.
use Rattle.std.proofs.Common.{ℕ, ◌+◌, ◌*◌, length}
use Rattle.mini_model.specs.Tree.{Tree, node, Trees, none, ◌▸◌, node_count, node_counts}
use Rattle.mini_model.specs.declared.place.Position.{Position}
use Rattle.mini_model.specs.Weight.{weight, weights}

-- how many names stand in the nodes of a tree
abbrev mutual
  pub name_count : Tree → ℕ
  name_count (node h xs n ts) = length xs + name_counts ts

  pub name_counts : Trees → ℕ
  name_counts none = 0
  name_counts (t ▸ ts) = name_count t + name_counts ts

abbrev pub load : Position → Tree → ℕ
load π t = weight π t + node_count t + 3 * name_count t

abbrev pub loads : (ℕ → Position) → Trees → ℕ
loads ω ts = weights ω ts + node_counts ts + 3 * name_counts ts
