use Rattle.mini_laws.specs.References.{reads, writes}
use Rattle.mini_context.proofs.Numbers.{counted_out}
use Rattle.mini_context.proofs.count.count_out.Goals as goal

pub returns-clause-reads : goal.returns-clause-reads
returns-clause-reads g c = counted_out reads _ _ _ c.requires.reads c.tally_node.ensures.reads

pub returns-clause-writes : goal.returns-clause-writes
returns-clause-writes g c = counted_out writes _ _ _ c.requires.writes c.tally_node.ensures.writes
