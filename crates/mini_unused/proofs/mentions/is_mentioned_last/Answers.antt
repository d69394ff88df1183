use Rattle.std.proofs.Common.{refl}
use Rattle.mini_model.specs.Tree.{children}
use Rattle.mini_unused.proofs.Standing.{part_mentioned}
use Rattle.mini_unused.proofs.mentions.is_mentioned_last.Goals as goal

pub returns : goal.returns
returns c = part_mentioned c.args.name.now c.args.node.now c.child.result.now (children c.args.node.now) _ c.is_mentioned.result refl c.child.ensures.value c.is_mentioned.ensures
