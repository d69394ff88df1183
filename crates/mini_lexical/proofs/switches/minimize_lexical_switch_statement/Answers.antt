use Rattle.std.proofs.Common.{◌∙◌, ap, sym}
use Rattle.mini_switch.specs.MinimizeSwitchStatements.{inlined}
use Rattle.mini_lexical.proofs.SwitchRows.{switched, not_switched}
use Rattle.mini_lexical.proofs.switches.minimize_lexical_switch_statement.Goals as goal

pub returns-then-not-inlines : goal.returns-then-not-inlines
returns-then-not-inlines g c = not_switched (g.S.SteadyNames.sets c.args.steady.now c.args.body).unshared c.args.node.now (sym c.inlines.ensures ∙ c.if-not-inlines.true)

pub returns : goal.returns
returns g c =
    switched (g.S.SteadyNames.sets c.args.steady.now c.args.body).unshared c.args.node.now c.in_ok-node.field-0 (sym c.inlines.ensures ∙ c.if-not-inlines.false)
    (c.in_ok-node.ensures ∙ ap inlined c.taken.ensures.value)
