use Rattle.mini_rows.proofs.LoopGuards.{loop_guards_same}
use Rattle.mini_rows.proofs.loop_guards.loop_guards_mean_the_same.Goals as goal

pub returns : goal.returns
returns c = loop_guards_same
