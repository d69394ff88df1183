use Rattle.std.proofs.Common.{ap, arith}
use Rattle.mini_model.specs.Tree.{children, count}
use Rattle.mini_logic.proofs.SequenceEnds.{ends_then}
use Rattle.mini_logic.proofs.sequences.+ends_in_not.Goals as goal

pub returns-then-len-gt1 : goal.returns-then-len-gt1
returns-then-len-gt1 t c = cc (c.ends_in_not.ensures, c.child-then-len-gt1.ensures.value, c.children-parts.ensures, c.child.ensures.value, c.len-then-len-gt1.ensures, ends_then c.args.expression.now (cc (c.if-not-is_sequence.false, c.is_sequence.ensures.kind)) (omega (arith, c.if-len-gt1.true, c.len.ensures, ap count c.children-parts.ensures, ap (λ x. count (children x)) c.child.ensures.value)))
