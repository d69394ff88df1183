-- A tree without its numbers, its symbols and the names of declarators, which aren't written.
use Rattle.mini_model.specs.Tree.{Tree, node, Trees, none, ◌▸◌}
use Rattle.mini_laws.specs.Symbols.{bare_names}

abbrev mutual
  pub bare : Tree → Tree
  bare (node h xs n ts) = node h (bare_names h xs) 0 (bares ts)

  pub bares : Trees → Trees
  bares none = none
  bares (t ▸ ts) = bare t ▸ bares ts
