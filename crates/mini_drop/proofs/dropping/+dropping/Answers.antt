use Rattle.std.proofs.Common.{◌-◌, ◌≤◌, arith}
use Rattle.std.proofs.lemmas.Result.{IfOk-weaker}
use Rattle.mini_model.specs.Tree.{node_counts}
use Rattle.mini_context.specs.Tables.{mark_at}
use Rattle.mini_drop.specs.Asked.{role_in, spot_in}
use Rattle.mini_drop.proofs.Walks.{begins, next, there, smaller, whole}
use Rattle.mini_drop.proofs.dropping.+dropping.Goals as goal

pub drop_below-loop-passed-init : goal.drop_below-loop-passed-init
drop_below-loop-passed-init t c = begins (mark_at c.args.set.now) (role_in c.args.role) (c.len-count.result - 0) c.args.nodes.now (omega arith)

pub drop_below-drop_at-requires : goal.drop_below-drop_at-requires
drop_below-drop_at-requires t c =
    let S = mark_at c.args.set.now in
    let r = role_in c.args.role in
    let k = c.len-count.result - 1 - c.loop-passed.passed in
    let less : node_counts c.loop-passed.nodes ≤ node_counts c.args.nodes.now = smaller S r _ c.args.nodes.now c.loop-passed.nodes _ c.loop-passed.invariant in
    (omega (arith, c.decreases, less), there S r k (c.len-count.result - c.loop-passed.passed) c.args.nodes.now c.loop-passed.nodes _ (omega arith) (omega arith) c.loop-passed.invariant)

pub drop_below-loop-passed-preserved : goal.drop_below-loop-passed-preserved
drop_below-loop-passed-preserved t c =
    next (mark_at c.args.set.now) (role_in c.args.role) (c.len-count.result - 1 - c.loop-passed.passed) (c.len-count.result - c.loop-passed.passed) _ c.args.nodes.now c.loop-passed.nodes c.drop_at.new.nodes _ _ _ (omega arith) (omega arith) c.in_ok-gone.ensures (omega arith) c.loop-passed.invariant c.in_ok-here.ensures

pub drop_items-returns : goal.drop_items-returns
drop_items-returns t c = IfOk-weaker c.drop_below.result _ _ (λ n w. whole (mark_at c.args.set.now) (spot_in c.args.spot) c.args.node.now _ _ _ _ n c.shape.ensures c.role_of-role.ensures c.children_mut.ensures.value w) c.drop_below.ensures
