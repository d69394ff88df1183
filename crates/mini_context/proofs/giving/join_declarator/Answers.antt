use Rattle.mini_context.proofs.Values.{few_joined}
use Rattle.mini_context.proofs.giving.join_declarator.Goals as goal

pub returns-in_default : goal.returns-in_default
returns-in_default c = few_joined c.args.standing.usage c.args.standing.around c.args.node.now c.parts.result.now c.args.given.now.items c.parts.ensures.value c.in_default.len_below
