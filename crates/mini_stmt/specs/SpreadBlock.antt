-- 79: `{ a; b; }` becomes `a; b;`.
use Rattle.std.specs.Prelude.{Bool, ◌&&◌}
use Rattle.mini_model.specs.Tree.{Tree, Trees, children}
use Rattle.mini_node.specs.Children.{part}
use Rattle.mini_node.specs.Kinds.{is_block}
use Rattle.mini_rows.specs.Lists.{are_unscoped}

-- the statements of a block
abbrev pub body_of : Tree → Trees
body_of t = children (part t 0)

abbrev pub spreads : Tree → Bool
spreads t = is_block t && are_unscoped (body_of t)
