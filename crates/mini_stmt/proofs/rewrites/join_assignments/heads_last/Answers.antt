use Rattle.std.proofs.Common.{◌-◌, ◌∙◌, ap, sym, arith}
use Rattle.mini_stmt.specs.MinimizeStatements.{switches_of}
use Rattle.mini_stmt.specs.JoinAssignments.{heads}
use Rattle.mini_stmt.proofs.Assignments.{heads_there, no_heads}
use Rattle.mini_stmt.proofs.rewrites.join_assignments.heads_last.Goals as goal

pub returns-then-count-eq0-clause-kind : goal.returns-then-count-eq0-clause-kind
returns-then-count-eq0-clause-kind c = sym (no_heads (switches_of c.args.options) c.args.before.now c.args.statement.now (sym c.len-count.ensures ∙ c.if-count-eq0.true))

pub returns-clause-kind : goal.returns-clause-kind
returns-clause-kind c =
    c.heads.ensures.kind ∙ ap (λ t. heads (switches_of c.args.options) t c.args.statement.now) c.child.ensures.value
    ∙ heads_there (switches_of c.args.options) c.args.before.now c.args.statement.now (c.len-count.result - 1) (grind (arith, c.len-count.ensures, c.if-count-eq0.false))
