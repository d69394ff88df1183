use Rattle.mini_context.proofs.Passing.{nameless_passes, noted_passes}
use Rattle.mini_context.proofs.early.pass_name.Goals as goal

pub returns-in-Some : goal.returns-in-Some
returns-in-Some c = noted_passes c.args.name.now c.args.around c.in-Some.symbol.0 c.args.moments.now c.note_read.new.moments c.in-Some.is c.note_read.result c.note_read.ensures.ended c.note_read.ensures.lists c.note_read.ensures.reads

pub returns-in-None : goal.returns-in-None
returns-in-None c = nameless_passes c.args.name.now c.args.around c.args.moments.now c.in-None.is
