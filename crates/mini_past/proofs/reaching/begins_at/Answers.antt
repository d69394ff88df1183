use Rattle.mini_past.proofs.Looks.{begins_first}
use Rattle.mini_past.proofs.reaching.begins_at.Goals as goal

pub returns : goal.returns
returns c = begins_first c.args._name.now c.args._nodes.now c.args.place c.requires
