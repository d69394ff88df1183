use Rattle.std.proofs.Common.{◌∙◌, ap, sym}
use Rattle.mini_logic.specs.MinimizeForStatement.{is_leading_for, with_test}
use Rattle.mini_lexical.proofs.LoopRows.{leads_on, tested, not_tested}
use Rattle.mini_lexical.proofs.loops.minimize_lexical_for_statement.Goals as goal

pub returns-then-not-leaves : goal.returns-then-not-leaves
returns-then-not-leaves g c = not_tested (g.S.SteadyNames.sets c.args.steady.now c.args.body).unshared c.args.node.now (sym c.leaves.ensures ∙ c.if-not-leaves.true)

pub with_test-requires : goal.with_test-requires
with_test-requires g c = ap is_leading_for c.taken.ensures.value ∙ leads_on (g.S.SteadyNames.sets c.args.steady.now c.args.body).unshared c.args.node.now (sym c.leaves.ensures ∙ c.if-not-leaves.false)

pub returns : goal.returns
returns g c =
    tested (g.S.SteadyNames.sets c.args.steady.now c.args.body).unshared c.args.node.now c.in_ok-node.field-0 (sym c.leaves.ensures ∙ c.if-not-leaves.false)
    (c.in_ok-node.ensures ∙ ap with_test c.taken.ensures.value)
