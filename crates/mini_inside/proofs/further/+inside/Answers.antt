use Rattle.std.proofs.Common.{◌<◌, ◌∙◌, ap, sym, subst, arith}
use Rattle.mini_model.specs.Tree.{children, count, absent, node_count}
use Rattle.mini_node.specs.Children.{with_part}
use Rattle.mini_node.specs.Kinds.{is_listed}
use Rattle.mini_rows.specs.Inside.{way_in}
use Rattle.mini_unused.proofs.Unused.{same_parts}
use Rattle.mini_inside.proofs.Holders.{where_ok}
use Rattle.mini_inside.specs.Further.{ChildWalked, WalkedAt, HereWalked}
use Rattle.mini_inside.proofs.FurtherSteps.{walked, at_some, at_none, pushed_listed, child_walked}
use Rattle.mini_inside.proofs.FurtherWalks.{walked_next, walked_all, child_smaller}
use Rattle.mini_inside.proofs.further.+inside.Goals as goal

pub remove_at-remove_in_child-requires : goal.remove_at-remove_in_child-requires
remove_at-remove_in_child-requires g t c κs within = (omega (arith, c.decreases), (within, (c.requires.child, c.requires.list)))

pub remove_at-returns-in-Some-clause-walked : goal.remove_at-returns-in-Some-clause-walked
remove_at-returns-in-Some-clause-walked g t c =
    let W = g.E.EndRewrites.ends c.args.ends.now in
    let a = children c.args.above.now in
    let n = c.args.node.now in
    let u = c.remove_in_child.new.node in
    let r = c.in-Some.next in
    where_ok c.remove_in_child.result (λ changed. ChildWalked W a r n c.args.at u changed) (λ changed. WalkedAt W a c.args.way n c.args.at u changed)
    (λ changed w. at_some W a c.args.way n c.args.at u r changed c.requires.bare c.requires.child (ap (λ h. way_in c.args.way h c.args.at) (sym c.shape.ensures) ∙ sym c.way_in.ensures ∙ c.in-Some.is) w) c.remove_in_child.ensures.walked

pub remove_at-returns-in-None-clause-walked : goal.remove_at-returns-in-None-clause-walked
remove_at-returns-in-None-clause-walked g t c =
    at_none (g.E.EndRewrites.ends c.args.ends.now) (children c.args.above.now) c.args.way c.args.node.now c.args.at c.requires.bare (ap (λ h. way_in c.args.way h c.args.at) (sym c.shape.ensures) ∙ sym c.way_in.ensures ∙ c.in-None.is)

pub remove_below-remove_at-requires : goal.remove_below-remove_at-requires
remove_below-remove_at-requires g t c κs lives =
    let walk = c.loop-at.invariant.walk in
    let within : c.loop-at.at < count (children c.args.node.now) = omega (arith, ap count c.children.ensures) in
    let small = child_smaller (g.E.EndRewrites.ends c.args.ends.now) (children c.args.above.now) c.args.way c.loop-at.at c.args.node.now c.loop-at.node c.loop-at.changed walk within in
    (omega (arith, c.decreases, small), (lives, (omega (arith, within, walk.counted), (walk.bare, ap is_listed c.loop-at.invariant.back ∙ c.requires))))

pub remove_below-loop-at-preserved : goal.remove_below-loop-at-preserved
remove_below-loop-at-preserved g t c =
    let W = g.E.EndRewrites.ends c.args.ends.now in
    let back = c.loop-at.invariant.back in
    let this = subst (λ z. WalkedAt W (children z) c.args.way c.loop-at.node c.loop-at.at c.remove_at.new.node c.in_ok-part.part) back c.in_ok-part.ensures.walked in
    record {
      walk = walked_next W (children c.args.above.now) c.args.way c.loop-at.at c.args.node.now c.loop-at.node c.remove_at.new.node c.loop-at.changed c.in_ok-part.part c.loop-at.invariant.walk this;
      back = c.in_ok-part.ensures.back ∙ back;
    }

pub remove_below-returns-clause-walked : goal.remove_below-returns-clause-walked
remove_below-returns-clause-walked g t c = walked_all (g.E.EndRewrites.ends c.args.ends.now) (children c.args.above.now) c.args.way c.loop-at.at c.args.node.now c.loop-at.node c.loop-at.changed (omega (arith, ap count c.children.ensures)) c.loop-at.invariant.walk

pub remove_in-remove_below-requires : goal.remove_in-remove_below-requires
remove_in-remove_below-requires g t c κs within = (omega (arith, c.decreases), (within, c.requires))

pub remove_in-rewrite_end-requires : goal.remove_in-rewrite_end-requires
remove_in-rewrite_end-requires g t c = ap is_listed c.in_ok-below.ensures.back ∙ c.requires

pub remove_in-returns-clause-walked : goal.remove_in-returns-clause-walked
remove_in-returns-clause-walked g t c =
    let W = g.E.EndRewrites.ends c.args.ends.now in
    let here = subst (λ z. HereWalked W (children z) c.args.way c.remove_below.new.node c.rewrite_end.new.node c.in_ok-here.here) c.in_ok-below.ensures.back c.in_ok-here.ensures in
    walked W (children c.args.above.now) c.args.way c.args.node.now c.remove_below.new.node c.rewrite_end.new.node c.in_ok-below.below c.in_ok-here.here c.in_ok-below.ensures.walked here

pub remove_in_child-remove_in-requires : goal.remove_in_child-remove_in-requires
remove_in_child-remove_in-requires g t c κs within = (omega (arith, c.decreases, ap node_count c.take_child-child.ensures.child), (within, ap is_listed c.in_ok-push_above.ensures ∙ pushed_listed c.args.above.now c.take_child-child.new.node c.requires.list))

pub remove_in_child-put_child-requires : goal.remove_in_child-put_child-requires
remove_in_child-put_child-requires g t c =
    let popped = c.pop_above.ensures.node c.args.above.now c.take_child-child.new.node (c.in_ok-changed.ensures.back ∙ c.in_ok-push_above.ensures) in
    let same = ap (λ u. count (children u)) (popped ∙ c.take_child-child.ensures.left) ∙ same_parts c.args.node.now c.args.at absent in
    omega (arith, same, c.requires.child)

pub remove_in_child-returns-clause-walked : goal.remove_in_child-returns-clause-walked
remove_in_child-returns-clause-walked g t c =
    let popped = c.pop_above.ensures.node c.args.above.now c.take_child-child.new.node (c.in_ok-changed.ensures.back ∙ c.in_ok-push_above.ensures) in
    child_walked (g.E.EndRewrites.ends c.args.ends.now) c.args.above.now c.args.next c.args.node.now c.args.at c.put_child.new.node c.remove_in.new.node c.take_child-child.new.node c.push_above.new.above c.take_child-child.result c.in_ok-changed.changed
    c.take_child-child.ensures.left c.in_ok-push_above.ensures c.take_child-child.ensures.child c.in_ok-changed.ensures.walked (c.put_child.ensures ∙ ap (λ z. with_part z c.args.at c.remove_in.new.node) popped)
