use Rattle.mini_rows.proofs.LoopGuardWeights.{loop_guards_lighter, loop_guards_lighten}
use Rattle.mini_rows.proofs.loop_guards.loop_guards_lighten.Goals as goal

pub returns-clause-lighter : goal.returns-clause-lighter
returns-clause-lighter c = loop_guards_lighter

pub returns-clause-anywhere : goal.returns-clause-anywhere
returns-clause-anywhere c = loop_guards_lighten
