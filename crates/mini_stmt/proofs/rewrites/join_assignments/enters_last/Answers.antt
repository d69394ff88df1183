use Rattle.std.proofs.Common.{◌-◌, ◌∙◌, sym, subst, arith}
use Rattle.mini_stmt.specs.JoinAssignments.{EntersAt}
use Rattle.mini_stmt.proofs.Assignments.{no_last, last_enters}
use Rattle.mini_stmt.proofs.rewrites.join_assignments.enters_last.Goals as goal

pub returns-then-count-eq0 : goal.returns-then-count-eq0
returns-then-count-eq0 c = no_last c.args.before.now c.args.statement.now (sym c.len-count.ensures ∙ c.if-count-eq0.true)

pub returns : goal.returns
returns c = last_enters c.args.before.now c.args.statement.now (c.len-count.result - 1) c.enters_at.result (grind (arith, c.len-count.ensures, c.if-count-eq0.false)) (subst (λ t. EntersAt t c.args.statement.now c.enters_at.result) c.child.ensures.value c.enters_at.ensures)
