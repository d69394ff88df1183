use Rattle.std.proofs.Common.{◌∙◌, ap}
use Rattle.mini_model.specs.Tree.{count}
use Rattle.mini_unused.proofs.Looks.{passed_whole}
use Rattle.mini_unused.proofs.passing.are_all_passed.Goals as goal

pub returns : goal.returns
returns c = c.may_reach.ensures ∙ passed_whole c.args.name.now c.args.gathered c.args.init.now c.args.node.now c.len.result c.requires (c.len.ensures ∙ ap count c.children.ensures)
