use Rattle.std.proofs.Common.{◌<◌, ◌≤◌, ◌++◌, ap, subst, arith}
use Rattle.std.proofs.lemmas.Result.{on_ok_weaker}
use Rattle.mini_model.specs.Tree.{count, children, child_or_absent, shape_of}
use Rattle.mini_node.specs.Children.{names_of, number_of, rest_children}
use Rattle.mini_laws.specs.Foreign.{ended_by, ends_at, in_order, moments, moments_from, reads_at}
use Rattle.mini_laws.specs.Mentions.{around_child, own_mentions}
use Rattle.mini_laws.specs.Scopes.{use_of}
use Rattle.mini_context.specs.Early.{Passed}
use Rattle.mini_context.specs.declared.early.Order.TheVariants as order
use Rattle.mini_context.proofs.Passing.{opens, passed_add, passes_in_order, rest_begins, rest_ends, rest_of, rest_turns}
use Rattle.mini_context.proofs.early.+moments.Goals as goal

pub pass_rest-loop-at-init : goal.pass_rest-loop-at-init
pass_rest-loop-at-init t c = rest_begins (use_of (shape_of c.args.node.now) c.args.reading.usage) (around_child (shape_of c.args.node.now) c.args.reading.around (number_of c.args.node.now)) (children c.args.node.now) c.args.from c.args.moments.now

pub pass_rest-loop-at-preserved : goal.pass_rest-loop-at-preserved
pass_rest-loop-at-preserved t c =
    let n = c.args.node.now in
    let a = c.args.reading.around in
    let uses = use_of (shape_of n) c.args.reading.usage in
    let arounds = around_child (shape_of n) a (number_of n) in
    let inside : c.loop-at.at < count (children n) = omega (arith, ap count c.children.ensures) in
    rest_turns uses arounds (children n) c.args.from c.loop-at.at _ _ _ inside c.in_ok-pass_child.ensures c.loop-at.invariant

pub pass_rest-returns : goal.pass_rest-returns
pass_rest-returns t c =
    let n = c.args.node.now in
    let a = c.args.reading.around in
    let uses = use_of (shape_of n) c.args.reading.usage in
    let arounds = around_child (shape_of n) a (number_of n) in
    let over : count (children n) ≤ c.loop-at.at = omega (arith, ap count c.children.ensures) in
    rest_ends uses arounds (children n) c.args.from c.loop-at.at _ _ over c.loop-at.invariant

pub pass_node-returns : goal.pass_node-returns
pass_node-returns t c =
    let n = c.args.node.now in
    let u = c.args.reading.usage in
    let a = c.args.reading.around in
    let own = reads_at (own_mentions u a (shape_of n) (names_of n)) in
    let rest = in_order (shape_of n) (moments_from (use_of (shape_of n) u) (around_child (shape_of n) a (number_of n)) 0 (children n)) (ends_at a (ended_by (shape_of n) (children n))) in
    on_ok_weaker _ (λ p. subst (λ ms. Passed ms c.args.moments.now c.pass_below.new.moments) (opens u a n) (passed_add.both own rest _ _ _ c.in_ok-pass_own.ensures p)) c.pass_below.ensures

pub pass_below-returns-in-InOrder : goal.pass_below-returns-in-InOrder
pass_below-returns-in-InOrder t c =
    let n = c.args.node.now in
    let a = c.args.reading.around in
    let uses = use_of (shape_of n) c.args.reading.usage in
    let arounds = around_child (shape_of n) a (number_of n) in
    let e = ends_at a (ended_by (shape_of n) (children n)) in
    on_ok_weaker c.pass_rest-passed.result (λ p. passes_in_order a uses arounds n order.InOrder c.shape.result.now c.len.result c.children.result.now e _ _ c.in-InOrder.ensures c.shape.ensures c.len.ensures c.children.ensures
    (passed_add.both (rest_of uses arounds 0 (rest_children 0 (children n))) e _ _ _ p c.pass_ends.ensures)) c.pass_rest-passed.ensures

pub pass_below-returns-in_ok-pass_child-in-RightFirst-2 : goal.pass_below-returns-in_ok-pass_child-in-RightFirst-2
pass_below-returns-in_ok-pass_child-in-RightFirst-2 t c =
    let n = c.args.node.now in
    let a = c.args.reading.around in
    let uses = use_of (shape_of n) c.args.reading.usage in
    let arounds = around_child (shape_of n) a (number_of n) in
    let right = moments (uses 1) (arounds 1) (child_or_absent (children n) 1) in
    let left = moments (uses 0) (arounds 0) (child_or_absent (children n) 0) in
    let rest = rest_of uses arounds 2 (rest_children 2 (children n)) in
    let e = ends_at a (ended_by (shape_of n) (children n)) in
    on_ok_weaker c.pass_rest-passed-in-RightFirst.result (λ p. passes_in_order a uses arounds n order.RightFirst c.shape.result.now c.len.result c.children.result.now e _ _ c.in-RightFirst.ensures c.shape.ensures c.len.ensures c.children.ensures
    (passed_add.both ((right ++ left) ++ rest) e _ _ _ (passed_add.both (right ++ left) rest _ _ _ (passed_add.both right left _ _ _ c.in_ok-pass_child-in-RightFirst.ensures c.in_ok-pass_child-in-RightFirst-2.ensures) p) c.pass_ends-in-RightFirst.ensures)) c.pass_rest-passed-in-RightFirst.ensures

pub pass_below-returns-in_ok-pass_child-in-ParamFirst : goal.pass_below-returns-in_ok-pass_child-in-ParamFirst
pass_below-returns-in_ok-pass_child-in-ParamFirst t c =
    let n = c.args.node.now in
    let a = c.args.reading.around in
    let uses = use_of (shape_of n) c.args.reading.usage in
    let arounds = around_child (shape_of n) a (number_of n) in
    let param = moments (uses 0) (arounds 0) (child_or_absent (children n) 0) in
    let rest = rest_of uses arounds 1 (rest_children 1 (children n)) in
    let e = ends_at a (ended_by (shape_of n) (children n)) in
    on_ok_weaker c.pass_rest.result (λ p. passes_in_order a uses arounds n order.ParamFirst c.shape.result.now c.len.result c.children.result.now e _ _ c.in-ParamFirst.ensures c.shape.ensures c.len.ensures c.children.ensures
    (passed_add.both (param ++ e) rest _ _ _ (passed_add.both param e _ _ _ c.in_ok-pass_child-in-ParamFirst.ensures c.pass_ends-in-ParamFirst.ensures) p)) c.pass_rest.ensures
