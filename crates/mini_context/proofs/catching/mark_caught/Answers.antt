use Rattle.mini_context.proofs.Spellings.{uncaught}
use Rattle.mini_context.proofs.catching.mark_caught.Goals as goal

pub returns-then-not-is_catch : goal.returns-then-not-is_catch
returns-then-not-is_catch c = uncaught c.args.node.now c.shape.result.now c.is_catch.result c.args.marks.now.items c.shape.ensures c.is_catch.ensures c.if-not-is_catch.true
