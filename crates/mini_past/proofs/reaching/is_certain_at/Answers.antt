use Rattle.mini_model.specs.Tree.{children}
use Rattle.mini_past.proofs.Looks.{first_in}
use Rattle.mini_past.proofs.reaching.is_certain_at.Goals as goal

pub begins_at-requires : goal.begins_at-requires
begins_at-requires c = first_in c.args.name.now (children c.args.node.now) c.children.result.now c.args.place c.children.ensures c.requires
