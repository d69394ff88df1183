use Rattle.std.proofs.Common.{◌<◌, ap, arith}
use Rattle.mini_model.specs.Tree.{children, count}
use Rattle.mini_unused.proofs.Looks.{put_anyway}
use Rattle.mini_unused.proofs.single_uses.put_unmentioned.Goals as goal

pub returns : goal.returns
returns c =
    let some : 0 < count (children c.args.node) = omega (arith, ap count c.children.ensures) in
    put_anyway c.args._name.now c.args.value c.args.node c.in_full.result some c.requires c.in_full.ensures
