use Rattle.std.proofs.Common.{sym}
use Rattle.mini_unused.proofs.Looks.{unnamed}
use Rattle.mini_unused.proofs.first_reads.is_first.Goals as goal

pub returns-in-Some : goal.returns-in-Some
returns-in-Some c = c.in-Some.ensures.1

pub returns-in-None : goal.returns-in-None
returns-in-None c = sym (unnamed c.args.name.now c.args.in_list c.args.node.now c.in-None.ensures)
