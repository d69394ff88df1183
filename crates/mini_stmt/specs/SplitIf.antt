-- 76: `if (a) s; else u` becomes `if (a) s; u`, where s ends in a jump.
use Rattle.std.specs.Prelude.{Bool, ◌&&◌}
use Rattle.mini_model.specs.Tree.{Tree, if_alone}
use Rattle.mini_node.specs.Children.{part}
use Rattle.mini_node.specs.Kinds.{is_if_statement}
use Rattle.mini_rows.specs.Lists.{is_unscoped, is_terminated}

abbrev pub splits : Tree → Bool
splits t = is_if_statement t && (is_terminated (part t 1) && is_unscoped (part t 2))

-- `if (a) s`, and u follows
abbrev pub without_alternate : Tree → Tree
without_alternate t = if_alone (part t 0) (part t 1)
