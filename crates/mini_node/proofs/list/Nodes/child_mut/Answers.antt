use Rattle.std.proofs.Common.{◌∙◌, ap, refl, arith}
use Rattle.mini_model.specs.Tree.{count, child_or_absent}
use Rattle.mini_node.specs.Children.{with_child}
use Rattle.mini_node.proofs.Lists.{set, read, counted}
use Rattle.mini_node.proofs.list.Nodes.child_mut.Goals as goal

pub returns : goal.returns
returns c =
    let items = c.self.inside.items.items in (
      (refl, λ w. set items c.args.at w ∙ ap (λ ts. with_child ts c.args.at w) c.self.view_is),
      record { writes_back = tt; value = c.index_mut.ensures.value ∙ read items c.args.at c.index_mut.result.now (omega (arith, counted items, ap count c.self.view_is)) ∙ ap (λ z. child_or_absent z c.args.at) c.self.view_is },
    )
