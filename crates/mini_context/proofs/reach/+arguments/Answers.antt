use Rattle.std.proofs.Common.{◌<◌, ◌≤◌, ◌+◌, ◌∙◌, ◌||◌, sym, ap, arith}
use Rattle.mini_model.specs.Tree.{count, shape_of}
use Rattle.mini_node.specs.Children.{rest_children}
use Rattle.mini_laws.specs.Shared.{any_names_arguments, is_of_function}
use Rattle.mini_context.proofs.Reached.{begins, step, ends, own_first}
use Rattle.mini_context.proofs.reach.+arguments.Goals as goal

pub any_names_arguments-loop-at-init : goal.any_names_arguments-loop-at-init
any_names_arguments-loop-at-init t c = begins (is_of_function c.args.shape.now) c.args.nodes.now

pub any_names_arguments-returns-then-child_names_arguments : goal.any_names_arguments-returns-then-child_names_arguments
any_names_arguments-returns-then-child_names_arguments t c =
    let inside : c.loop-at.at < count c.args.nodes.now = omega arith in
    let f = is_of_function c.args.shape.now in
    sym (c.loop-at.invariant ∙ step f c.args.nodes.now c.loop-at.at c.child.result.now inside c.child.ensures.value ∙ ap (λ b. b || any_names_arguments f (c.loop-at.at + 1) (rest_children (c.loop-at.at + 1) c.args.nodes.now)) (sym c.if-child_names_arguments.ensures))

pub any_names_arguments-loop-at-preserved : goal.any_names_arguments-loop-at-preserved
any_names_arguments-loop-at-preserved t c =
    let inside : c.loop-at.at < count c.args.nodes.now = omega arith in
    let f = is_of_function c.args.shape.now in
    c.loop-at.invariant ∙ step f c.args.nodes.now c.loop-at.at c.child.result.now inside c.child.ensures.value ∙ ap (λ b. b || any_names_arguments f (c.loop-at.at + 1) (rest_children (c.loop-at.at + 1) c.args.nodes.now)) (sym c.if-child_names_arguments.ensures)

pub any_names_arguments-returns : goal.any_names_arguments-returns
any_names_arguments-returns t c =
    let over : count c.args.nodes.now ≤ c.loop-at.at = omega arith in
    sym (c.loop-at.invariant ∙ ends (is_of_function c.args.shape.now) c.args.nodes.now c.loop-at.at over)

pub names_arguments-returns-then-is_own_arguments : goal.names_arguments-returns-then-is_own_arguments
names_arguments-returns-then-is_own_arguments t c = c.if-is_own_arguments.true ∙ sym (own_first c.args.node.now _ _ c.is_own_arguments.ensures c.if-is_own_arguments.true)

pub names_arguments-returns-else-is_own_arguments : goal.names_arguments-returns-else-is_own_arguments
names_arguments-returns-else-is_own_arguments t c =
    c.any_names_arguments.ensures ∙ ap (λ h. any_names_arguments (is_of_function h) 0 c.children.result.now) c.shape.ensures ∙ ap (any_names_arguments (is_of_function (shape_of c.args.node.now)) 0) c.children.ensures
    ∙ sym (own_first c.args.node.now _ _ c.is_own_arguments.ensures c.if-is_own_arguments.false)
