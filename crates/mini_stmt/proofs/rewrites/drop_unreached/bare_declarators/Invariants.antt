use Rattle.std.proofs.Common.{◌≡◌}
use Rattle.std.specs.Vec.Iter.{into_iter_items}
use Rattle.mini_model.specs.Paths.{append}
use Rattle.mini_rows.specs.Lists.{bare_declarators}
use Rattle.mini_stmt.proofs.rewrites.drop_unreached.bare_declarators.Given as goal

abbrev pub invariant-loop-name : goal.invariant-loop-name
invariant-loop-name l = append l.made (bare_declarators (into_iter_items l.name-iterator)) ≡ bare_declarators l.fn.names.items
