use Rattle.mini_node.specs.Children.{names}
use Rattle.mini_node.proofs.Equality.{names_told}
use Rattle.mini_node.proofs.equal.is_same_name.Goals as goal

pub returns : goal.returns
returns c = names_told (names c.args.first.now) (names c.args.second.now) c.is_equal_name.result c.is_equal_name.ensures
