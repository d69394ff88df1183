use Rattle.std.proofs.Common.{◌≡◌, true, false}
use Rattle.mini_model.specs.Tree.{node_counts}
use Rattle.mini_model.specs.Paths.{append}
use Rattle.mini_stmt.specs.MinimizeStatements.{switches_of, Changes, reversed}
use Rattle.mini_stmt.specs.JoinAssignments.{are_entered}
use Rattle.mini_stmt.proofs.rewrites.join_assignments.enter_all.Given as goal

abbrev pub invariant-statements : goal.invariant-statements
invariant-statements l = record {
  changes : Changes (switches_of l.options) l.fn.list (append l.list (reversed l.rest)) l.changed;
  entered : l.changed ≡ false → are_entered (switches_of l.options) l.list ≡ true;
}

abbrev pub decreases-statements : goal.decreases-statements
decreases-statements l = node_counts l.rest
