use Rattle.std.proofs.Common.{true, ◌∙◌, ap, subst, arith}
use Rattle.mini_model.specs.Tree.{none, count, child_or_absent, absent}
use Rattle.mini_node.specs.Children.{like, with_child}
use Rattle.mini_node.specs.Walks.{count_with}
use Rattle.mini_stmt.specs.MinimizeBody.{TurnedAt}
use Rattle.mini_stmt.specs.SpreadBlock.{body_of}
use Rattle.mini_stmt.proofs.LoopGuards.{like_twice, put_back}
use Rattle.mini_stmt.proofs.rewrites.turn_loop_guards.turned_in.Goals as goal

pub replace-requires : goal.replace-requires
replace-requires c =
    let same = ap count c.take.ensures.rest ∙ count_with c.take_children-children.result c.args.at absent in
    let is = ap count c.take_children-children.ensures.children in
    omega (arith, same, is, c.requires.place)

pub returns : goal.returns
returns c =
    let body = c.body_of-list.ensures ∙ ap body_of (c.take.ensures.value ∙ ap (λ ts. child_or_absent ts c.args.at) c.take_children-children.ensures.children) in
    record {
      list = c.turn_at.new.list;
      turned = subst (λ ts. TurnedAt true ts c.args.guard c.turn_at.new.list) body c.in_ok-turn_at.ensures;
      is =
          put_back c.args.node c.over.result c.in_ok-made.made c.args.at c.take.new.self c.replace.new.self c.turn_at.new.list
          (c.take.ensures.rest ∙ ap (λ ts. with_child ts c.args.at absent) c.take_children-children.ensures.children)
          c.replace.ensures.rest c.in_ok-made.ensures
          (c.over.ensures ∙ ap (λ t. like t c.replace.new.self) c.take_children-children.ensures.rest ∙ like_twice c.args.node none c.replace.new.self);
    }
