use Rattle.std.proofs.Common.{◌≡◌, true, false}
use Rattle.mini_model.specs.Tree.{node_counts}
use Rattle.mini_model.specs.Paths.{append}
use Rattle.mini_stmt.specs.MinimizeStatements.{reversed}
use Rattle.mini_stmt.specs.JoinLets.{marked, Changes, are_joined}
use Rattle.mini_stmt.proofs.rewrites.join_lets.join_all.Given as goal

abbrev pub invariant-statements : goal.invariant-statements
invariant-statements l = record {
  changes : Changes (marked l.scopes) l.fn.list (append l.list (reversed l.rest)) l.changed;
  joined : l.changed ≡ false → are_joined (marked l.scopes) l.list ≡ true;
}

abbrev pub decreases-statements : goal.decreases-statements
decreases-statements l = node_counts l.rest
