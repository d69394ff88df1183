use Rattle.std.proofs.Common.{◌≡◌}
use Rattle.std.specs.Vec.Iter.{into_iter_items}
use Rattle.mini_model.specs.Paths.{append}
use Rattle.mini_rows.specs.DeadLexicals.{declarators}
use Rattle.mini_stmt.proofs.rewrites.fading.declarators.Given as goal

abbrev pub invariant-loop-name : goal.invariant-loop-name
invariant-loop-name l = append l.made (declarators l.kind (into_iter_items l.name-iterator)) ≡ declarators l.kind l.fn.names.items
