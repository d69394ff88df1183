use Rattle.std.proofs.Common.{◌-◌, ◌∙◌, ap, sym, arith}
use Rattle.mini_stmt.specs.JoinLets.{marked, joins_let}
use Rattle.mini_stmt.proofs.LetJoins.{joins_there, no_joins}
use Rattle.mini_stmt.proofs.rewrites.join_lets.joins_last.Goals as goal

pub returns-then-count-eq0 : goal.returns-then-count-eq0
returns-then-count-eq0 c = sym (no_joins (marked c.args.scopes.now) c.args.before.now c.args.statement.now (sym c.len-count.ensures ∙ c.if-count-eq0.true))

pub returns : goal.returns
returns c =
    c.joins_let.ensures ∙ ap (λ t. joins_let (marked c.args.scopes.now) t c.args.statement.now) c.child.ensures.value
    ∙ joins_there (marked c.args.scopes.now) c.args.before.now c.args.statement.now (c.len-count.result - 1) (grind (arith, c.len-count.ensures, c.if-count-eq0.false))
