use Rattle.mini_peephole.proofs.AnswerFloats.{answer_has_none}
use Rattle.mini_peephole.proofs.running.answer.Goals as goal

pub line-requires : goal.line-requires
line-requires c = rw c.in_ok-value.ensures (answer_has_none c.args.minified c.requires)
