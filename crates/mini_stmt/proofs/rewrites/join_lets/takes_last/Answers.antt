use Rattle.std.proofs.Common.{◌-◌, ◌∙◌, ap, sym, arith}
use Rattle.mini_stmt.specs.JoinAssignments.{declares_bare}
use Rattle.mini_stmt.proofs.LetJoins.{takes_there, takes_none}
use Rattle.mini_stmt.proofs.rewrites.join_lets.takes_last.Goals as goal

pub returns-then-count-eq0 : goal.returns-then-count-eq0
returns-then-count-eq0 c = sym (takes_none c.args.target.now c.args.list.now (sym c.len-count.ensures ∙ c.if-count-eq0.true))

pub returns : goal.returns
returns c =
    c.declares_bare.ensures ∙ ap (λ d. declares_bare d c.args.target.now) c.child.ensures.value
    ∙ takes_there c.args.target.now c.args.list.now (c.len-count.result - 1) (grind (arith, c.len-count.ensures, c.if-count-eq0.false))
