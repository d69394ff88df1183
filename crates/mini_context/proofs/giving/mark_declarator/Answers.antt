use Rattle.mini_context.proofs.Values.{few_marked}
use Rattle.mini_context.proofs.giving.mark_declarator.Goals as goal

pub returns-in_default : goal.returns-in_default
returns-in_default c = few_marked c.args.usage c.args.environment.now c.args.nodes.now c.args.marks.now.items c.in_default.len_below
