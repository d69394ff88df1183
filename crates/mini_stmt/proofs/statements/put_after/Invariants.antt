use Rattle.mini_model.specs.Tree.{count}
use Rattle.mini_stmt.specs.MinimizeStatements.{switches_of}
use Rattle.mini_stmt.proofs.Stepping.{Joining}
use Rattle.mini_stmt.proofs.statements.put_after.Given as goal

abbrev pub invariant-joining : goal.invariant-joining
invariant-joining l = Joining (switches_of l.options) l.fn.before l.fn.statement l.before l.current l.lead l.changed

abbrev pub decreases-joining : goal.decreases-joining
decreases-joining l = count l.before
