use Rattle.mini_choices.proofs.Names.{operators_told}
use Rattle.mini_choices.proofs.assigning.is_same_operator.Goals as goal

pub returns : goal.returns
returns c = operators_told c.args.first c.args.second c.are_equal.result c.are_equal.ensures
