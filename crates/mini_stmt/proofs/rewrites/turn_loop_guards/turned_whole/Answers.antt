use Rattle.std.proofs.Common.{true, ◌∙◌, ap, subst, arith}
use Rattle.mini_model.specs.Tree.{none, count, child_or_absent, absent}
use Rattle.mini_node.specs.Children.{like, with_child}
use Rattle.mini_node.specs.Walks.{count_with}
use Rattle.mini_stmt.specs.MinimizeBody.{may_nest, Turned}
use Rattle.mini_stmt.proofs.LoopGuards.{nothing_nests, like_twice, put_whole}
use Rattle.mini_stmt.proofs.rewrites.turn_loop_guards.turned_whole.Goals as goal

pub turned-requires-clause-rest : goal.turned-requires-clause-rest
turned-requires-clause-rest c = ap may_nest c.new.ensures ∙ nothing_nests

pub replace-requires : goal.replace-requires
replace-requires c =
    let same = ap count c.take.ensures.rest ∙ count_with c.take_children-children.result c.args.at absent in
    let is = ap count c.take_children-children.ensures.children in
    omega (arith, same, is, c.requires.place)

pub returns : goal.returns
returns c =
    let guard = c.take.ensures.value ∙ ap (λ ts. child_or_absent ts c.args.at) c.take_children-children.ensures.children in
    record {
      made = c.in_ok-made.made;
      turned = subst (λ g. Turned true g none c.in_ok-made.made) guard (subst (λ ts. Turned true c.take.result ts c.in_ok-made.made) c.new.ensures c.in_ok-made.ensures);
      is =
          put_whole c.args.node c.over.result c.in_ok-made.made c.args.at c.take.new.self c.replace.new.self
          (c.take.ensures.rest ∙ ap (λ ts. with_child ts c.args.at absent) c.take_children-children.ensures.children)
          c.replace.ensures.rest
          (c.over.ensures ∙ ap (λ t. like t c.replace.new.self) c.take_children-children.ensures.rest ∙ like_twice c.args.node none c.replace.new.self);
    }
