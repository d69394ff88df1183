use Rattle.std.proofs.Common.{[], refl, arith}
use Rattle.std.proofs.lemmas.List.{ext_get_or}
use Rattle.mini_node.proofs.equal.are_same_texts.Goals as goal

pub returns : goal.returns
returns c = (λ e. ext_get_or [] c.args.first.now c.args.second.now c.if-first-second.false (λ k h. c.loop-at.invariant k (omega arith)), λ e. refl)
