use Rattle.std.proofs.lemmas.Result.{on_ok_weaker}
use Rattle.mini_context.proofs.Values.{declarator_joined, other_joined}
use Rattle.mini_context.proofs.giving.join_values.Goals as goal

pub returns-then-is_declarator : goal.returns-then-is_declarator
returns-then-is_declarator c = on_ok_weaker c.join_declarator.result (declarator_joined c.args.standing.usage c.args.standing.around c.args.node.now c.is_declarator.result c.args.given.now.items c.join_declarator.new.given.items c.is_declarator.ensures c.if-is_declarator.true) c.join_declarator.ensures

pub returns-else-is_declarator : goal.returns-else-is_declarator
returns-else-is_declarator c = other_joined c.args.standing.usage c.args.standing.around c.args.node.now c.is_declarator.result c.args.given.now.items c.is_declarator.ensures c.if-is_declarator.false
