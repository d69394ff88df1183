use Rattle.std.proofs.Common.{sym}
use Rattle.mini_logic.proofs.SequenceEnds.{end_alone}
use Rattle.mini_logic.proofs.sequences.+end_of.Goals as goal

pub returns-then-not-has_parts : goal.returns-then-not-has_parts
returns-then-not-has_parts t c = sym (end_alone c.args.node.now (cc (c.if-not-has_parts.true, c.has_parts.ensures.kind)))
