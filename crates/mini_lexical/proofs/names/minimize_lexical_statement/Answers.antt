use Rattle.mini_lexical.proofs.Joined.{first_applied, second_applied}
use Rattle.mini_lexical.proofs.names.minimize_lexical_statement.Goals as goal

pub returns-then-branch : goal.returns-then-branch
returns-then-branch g c = first_applied (g.S.SteadyNames.sets c.args.steady.now c.args.body).unshared _ _ _ c.in_ok-minimize_lexical_switch_statement.ensures c.if-branch.true

pub returns : goal.returns
returns g c = second_applied (g.S.SteadyNames.sets c.args.steady.now c.args.body).unshared _ _ _ _ _ c.in_ok-minimize_lexical_switch_statement.ensures c.if-branch.false c.in_ok-second.ensures
