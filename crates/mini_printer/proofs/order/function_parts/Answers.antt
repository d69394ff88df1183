use Rattle.std.proofs.Common.{ap, ◌∙◌, arith}
use Rattle.mini_model.specs.Tree.{absent, count}
use Rattle.mini_node.specs.Walks.{count_with}
use Rattle.mini_printer.proofs.order.function_parts.Goals as goal

pub replace-requires : goal.replace-requires
replace-requires c =
    let left = ap count c.take.ensures.rest ∙ count_with c.args.parts c.args.at absent in
    omega (arith, left, c.requires)
