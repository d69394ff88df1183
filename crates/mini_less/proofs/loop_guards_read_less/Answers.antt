use Rattle.mini_less.proofs.LoopGuardsLess as law
use Rattle.mini_less.proofs.loop_guards_read_less.Goals as goal

pub returns : goal.returns
returns c = law.loop_guards_read_less
