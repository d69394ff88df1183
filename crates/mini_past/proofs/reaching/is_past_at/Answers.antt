use Rattle.mini_model.specs.Tree.{children}
use Rattle.mini_past.proofs.Looks.{first_within}
use Rattle.mini_past.proofs.reaching.is_past_at.Goals as goal

pub all_pass_before-requires-clause-end : goal.all_pass_before-requires-clause-end
all_pass_before-requires-clause-end g c = first_within c.args.name.now (children c.args.node.now) c.children.result.now c.args.place c.children.ensures c.requires.first
