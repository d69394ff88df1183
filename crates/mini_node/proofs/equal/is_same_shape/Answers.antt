use Rattle.mini_node.proofs.Equality.{shape_told}
use Rattle.mini_node.proofs.equal.is_same_shape.Goals as goal

pub returns : goal.returns
returns c = shape_told c.args.first.now c.args.second.now c.is_equal_shape.result c.is_equal_shape.ensures
