use Rattle.mini_dead.specs.Drops.{nothing_goes}
use Rattle.mini_dead.proofs.Counting.{none_goes}
use Rattle.mini_dead.proofs.DeadDropped.{dead_is_dropped}
use Rattle.mini_drop.proofs.Symbols.{counted_anew}
use Rattle.mini_drop.proofs.rounds.drop_dead.Goals as goal

pub rounds-init : goal.rounds-init
rounds-init c = record {
  again = nothing_goes c.args.program.now;
  shaped = c.requires.shaped;
  known = λ o k. k;
}

pub returns-clause-unchanged : goal.returns-clause-unchanged
returns-clause-unchanged c = λ e. none_goes c.args.program.now c.drop_more.new.program c.drop_more.new.total (c.in_ok-drop_more.ensures.again c.args.program.now c.rounds.invariant.again) e

pub returns-clause-all : goal.returns-clause-all
returns-clause-all c = dead_is_dropped c.args.program.now c.drop_more.new.program c.drop_more.new.total c.requires.shaped (c.in_ok-drop_more.ensures.again c.args.program.now c.rounds.invariant.again) (c.in_ok-drop_more.ensures.none c.if-branch.false)

pub returns-clause-counts : goal.returns-clause-counts
returns-clause-counts c = let (o, k) = c.requires.known in counted_anew c.drop_more.new.context c.drop_more.new.program (o, c.in_ok-drop_more.ensures.known o (c.rounds.invariant.known o k))
