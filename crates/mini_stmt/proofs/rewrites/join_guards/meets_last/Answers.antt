use Rattle.std.proofs.Common.{◌-◌, ◌∙◌, sym, ap, arith}
use Rattle.mini_model.specs.Tree.{absent}
use Rattle.mini_stmt.specs.JoinGuards.{meets}
use Rattle.mini_stmt.proofs.Guards.{last_is, no_last}
use Rattle.mini_stmt.proofs.rewrites.join_guards.meets_last.Goals as goal

pub returns-then-count-eq0 : goal.returns-then-count-eq0
returns-then-count-eq0 c = sym (no_last c.args.before.now c.args.statement.now (sym c.len-count.ensures ∙ c.if-count-eq0.true))

pub returns : goal.returns
returns c = c.meets.ensures ∙ ap (λ t. meets t c.args.statement.now) (c.child.ensures.value ∙ sym (last_is absent c.args.before.now (c.len-count.result - 1) (grind (arith, c.len-count.ensures, c.if-count-eq0.false))))
