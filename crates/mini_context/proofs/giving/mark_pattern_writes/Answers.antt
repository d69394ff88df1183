use Rattle.std.proofs.lemmas.Result.{on_ok_weaker}
use Rattle.mini_context.proofs.Values.{declarator_marked, other_marked}
use Rattle.mini_context.proofs.giving.mark_pattern_writes.Goals as goal

pub returns-then-is_declarator : goal.returns-then-is_declarator
returns-then-is_declarator c = on_ok_weaker c.mark_declarator.result (declarator_marked c.args.usage c.args.environment.now c.args.node.now c.is_declarator.result c.parts.result.now c.args.marks.now.items c.mark_declarator.new.marks.items c.is_declarator.ensures c.if-is_declarator.true c.parts.ensures.value) c.mark_declarator.ensures

pub returns-else-is_declarator : goal.returns-else-is_declarator
returns-else-is_declarator c = other_marked c.args.usage c.args.environment.now c.args.node.now c.is_declarator.result c.args.marks.now.items c.is_declarator.ensures c.if-is_declarator.false
