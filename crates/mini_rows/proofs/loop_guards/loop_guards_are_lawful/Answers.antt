use Rattle.mini_rows.proofs.LoopGuardsKept.{loop_guards_lawful}
use Rattle.mini_rows.proofs.loop_guards.loop_guards_are_lawful.Goals as goal

pub returns : goal.returns
returns c = loop_guards_lawful
