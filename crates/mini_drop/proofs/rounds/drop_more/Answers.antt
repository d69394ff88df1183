use Rattle.mini_drop.proofs.Losing.{round_fewer, round_shaped, round_more, round_none, positive, not_positive}
use Rattle.mini_drop.proofs.rounds.drop_more.Goals as goal

pub returns-clause-again : goal.returns-clause-again
returns-clause-again c = λ first a. round_more first c.args.program.now c.drop_once.new.program c.args.total.now c.in_ok-gone.gone c.in_ok-total.field-0 c.in_ok-total.ensures a c.in_ok-gone.ensures.drops

pub returns-clause-shaped : goal.returns-clause-shaped
returns-clause-shaped c = round_shaped c.args.program.now c.drop_once.new.program c.in_ok-gone.gone c.in_ok-gone.ensures.drops c.requires.shaped

pub returns-clause-fewer : goal.returns-clause-fewer
returns-clause-fewer c = λ e. round_fewer c.args.program.now c.drop_once.new.program c.in_ok-gone.gone c.in_ok-gone.ensures.drops (positive c.in_ok-gone.gone e)

pub returns-clause-none : goal.returns-clause-none
returns-clause-none c = λ e. round_none c.args.program.now c.drop_once.new.program c.in_ok-gone.gone c.in_ok-gone.ensures.drops c.in_ok-gone.ensures.number (not_positive c.in_ok-gone.gone e)
