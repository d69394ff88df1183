use Rattle.std.proofs.Common.{◌≡◌, true, false}
use Rattle.mini_model.specs.Tree.{count}
use Rattle.mini_model.specs.Paths.{append}
use Rattle.mini_stmt.specs.MinimizeStatements.{reversed}
use Rattle.mini_stmt.specs.JoinGuards.{Changed, are_apart}
use Rattle.mini_stmt.proofs.rewrites.join_guards.join_all.Given as goal

abbrev pub invariant-statements : goal.invariant-statements
invariant-statements l = record {
  changes : Changed l.fn.list (append l.list (reversed l.rest)) l.changed;
  apart : l.changed ≡ false → are_apart l.list ≡ true;
}

abbrev pub decreases-statements : goal.decreases-statements
decreases-statements l = count l.rest
