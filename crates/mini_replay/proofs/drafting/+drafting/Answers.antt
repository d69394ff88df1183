use Rattle.std.proofs.Common.{◌<◌, ap, arith}
use Rattle.mini_model.specs.Tree.{count, node_count}
use Rattle.mini_replay.proofs.Drafts.{kept_next, next_smaller}
use Rattle.mini_replay.proofs.drafting.+drafting.Goals as goal

pub draft_below-draft_in-requires : goal.draft_below-draft_in-requires
draft_below-draft_in-requires g t c κs within =
    let small : node_count c.child_mut-child.result.now < node_count c.args.node.now =
    next_smaller c.loop-at.at c.args.node.now c.loop-at.node c.child_mut-child.result.now c.children_mut.result.now c.children_mut.ensures.value c.child_mut-child.ensures.value c.loop-at.invariant
    (omega (arith, c.len-count.ensures, ap count c.children.ensures, c.loop-at-test.true)) in
    (omega (arith, c.decreases, small), within)

pub draft_below-child-requires : goal.draft_below-child-requires
draft_below-child-requires g t c =
    let next = kept_next c.loop-at.at c.args.node.now c.loop-at.node c.draft_in.new.node c.children_mut.result.now c.children_mut.ensures.value c.loop-at.invariant in
    let same = next.counted in
    omega (arith, same, c.len-count.ensures, ap count c.children.ensures, c.loop-at-test.true)

pub draft_below-loop-at-preserved : goal.draft_below-loop-at-preserved
draft_below-loop-at-preserved g t c = kept_next c.loop-at.at c.args.node.now c.loop-at.node c.draft_in.new.node c.children_mut.result.now c.children_mut.ensures.value c.loop-at.invariant
