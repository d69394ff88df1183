use Rattle.mini_model.specs.Tree.{absent}
use Rattle.mini_recorded.proofs.DeclarationForms.{with_part_is}
use Rattle.mini_recorded.proofs.declarations.bare.Goals as goal

pub returns : goal.returns
returns c = with_part_is c.args.node.now c.children_mut-children.result.now c.take.new.self 1 absent c.children_mut-children.ensures.value c.take.ensures.rest
