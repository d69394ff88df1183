use Rattle.std.proofs.Common.{◌∙◌, sym}
use Rattle.mini_laws.specs.References.{reads, writes}
use Rattle.mini_context.proofs.Counting.{own_none, own_nameless, own_named}
use Rattle.mini_context.proofs.count.tally_own.Goals as goal

pub returns-then-not-is_reference-clause-reads : goal.returns-then-not-is_reference-clause-reads
returns-then-not-is_reference-clause-reads g c = own_none c.args.tally reads c.args.usage c.args.shape.now c.args.name.now _ (sym c.is_reference.ensures ∙ c.if-not-is_reference.true)

pub returns-then-not-is_reference-clause-writes : goal.returns-then-not-is_reference-clause-writes
returns-then-not-is_reference-clause-writes g c = own_none c.args.tally writes c.args.usage c.args.shape.now c.args.name.now _ (sym c.is_reference.ensures ∙ c.if-not-is_reference.true)

pub returns-in-Some-clause-reads : goal.returns-in-Some-clause-reads
returns-in-Some-clause-reads g c = own_named c.args.tally reads c.args.usage c.args.shape.now c.args.name.now c.in-Some.name c.is_read.result _ _ (sym c.is_reference.ensures ∙ c.if-not-is_reference.false) c.in-Some.is c.is_read.ensures c.tally_use.ensures

pub returns-in-Some-clause-writes : goal.returns-in-Some-clause-writes
returns-in-Some-clause-writes g c = own_named c.args.tally writes c.args.usage c.args.shape.now c.args.name.now c.in-Some.name c.is_write.result _ _ (sym c.is_reference.ensures ∙ c.if-not-is_reference.false) c.in-Some.is c.is_write.ensures c.tally_use-in-Some.ensures

pub returns-in_default-clause-reads : goal.returns-in_default-clause-reads
returns-in_default-clause-reads g c = own_nameless c.args.tally reads c.args.usage c.args.shape.now c.args.name.now _ c.in_default.is

pub returns-in_default-clause-writes : goal.returns-in_default-clause-writes
returns-in_default-clause-writes g c = own_nameless c.args.tally writes c.args.usage c.args.shape.now c.args.name.now _ c.in_default.is
