use Rattle.std.proofs.Common.{◌≡◌}
use Rattle.std.specs.Prelude.{◌||◌}
use Rattle.mini_model.specs.Tree.{count}
use Rattle.mini_model.specs.Paths.{append}
use Rattle.mini_stmt.specs.MinimizeStatements.{reversed}
use Rattle.mini_stmt.specs.DropUnreached.{all_left, some_go}
use Rattle.mini_stmt.proofs.rewrites.drop_unreached.leave_all.Given as goal

abbrev pub invariant-statements : goal.invariant-statements
invariant-statements l = record {
  is : append l.list (all_left l.fn.going (reversed l.rest)) ≡ all_left l.fn.going l.fn.list;
  said : (l.changed || some_go l.fn.going (reversed l.rest)) ≡ some_go l.fn.going l.fn.list;
}

abbrev pub decreases-statements : goal.decreases-statements
decreases-statements l = count l.rest
