use Rattle.std.proofs.Common.{◌≡◌, true}
use Rattle.mini_model.specs.Tree.{node_counts}
use Rattle.mini_model.specs.Paths.{append}
use Rattle.mini_stmt.specs.MinimizeStatements.{switches_of, Changes, is_quiet, reversed}
use Rattle.mini_stmt.proofs.statements.minimize_all.Given as goal

abbrev pub invariant-statements : goal.invariant-statements
invariant-statements l = record {
  changes : Changes (switches_of l.options) l.fn.list (append l.list (reversed l.rest)) l.changed;
  quiet : is_quiet (switches_of l.options) l.list ≡ true;
}

abbrev pub decreases-statements : goal.decreases-statements
decreases-statements l = node_counts l.rest
