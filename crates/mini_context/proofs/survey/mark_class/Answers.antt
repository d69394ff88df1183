use Rattle.mini_context.proofs.Marking.{few_names}
use Rattle.mini_context.proofs.survey.mark_class.Goals as goal

pub returns-in_default : goal.returns-in_default
returns-in_default c e = few_names c.args.node.now c.parts.result.now c.args.marks.now.items c.parts.ensures.value c.in_default.len_below e
