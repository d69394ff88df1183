use Rattle.mini_laws.specs.References.{reads, writes}
use Rattle.mini_context.proofs.Numbers.{fresh}
use Rattle.mini_context.proofs.count.fresh_counts.Goals as goal

pub returns-clause-reads : goal.returns-clause-reads
returns-clause-reads g c = fresh reads c.args.symbols c.args.program.now _ _ c.requires c.in_ok-zeros.ensures c.tally_node.ensures.reads

pub returns-clause-writes : goal.returns-clause-writes
returns-clause-writes g c = fresh writes c.args.symbols c.args.program.now _ _ c.requires c.in_ok-zeros-2.ensures c.tally_node.ensures.writes
