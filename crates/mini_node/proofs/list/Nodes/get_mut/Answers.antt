use Rattle.std.proofs.Common.{◌∙◌, ap}
use Rattle.std.specs.Option.{ghost_name_of}
use borrow.Follows.Closed.{read_of}
use Rattle.mini_model.specs.Paths.{child_at}
use Rattle.mini_node.specs.Children.{with_child}
use Rattle.mini_node.proofs.Lists.{set, lent_at}
use Rattle.mini_node.proofs.list.Nodes.get_mut.Goals as goal

pub returns : goal.returns
returns c =
    let items = c.self.inside.items.items in (
      λ i. read_of (ghost_name_of c.get_mut.result) (λ w. (set items c.args.at w ∙ ap (λ z. with_child z c.args.at w) c.self.view_is) i) (c.self.view_is i),
      record { writes_back = tt; value = lent_at items c.args.at c.get_mut.result c.get_mut.ensures.item ∙ ap (λ z. child_at z c.args.at) c.self.view_is },
    )
