use Rattle.std.proofs.Common.{◌<◌, ◌≤◌, ◌+◌, ◌∙◌, ◌||◌, sym, ap, arith}
use Rattle.mini_model.specs.Tree.{count}
use Rattle.mini_node.specs.Children.{rest_children}
use Rattle.mini_rows.specs.Loops.{any_may_leap}
use Rattle.mini_node.specs.Walks.{from_first}
use Rattle.mini_logic.proofs.MinimizeForStatement.{leaps_below, leaps_step, leaps_end}
use Rattle.mini_logic.proofs.rewrites.minimize_for_statement.+leaping.Goals as goal

pub any_may_leap-returns-then-may_leap : goal.any_may_leap-returns-then-may_leap
any_may_leap-returns-then-may_leap t c =
    let inside : c.loop-at.at < count c.args.nodes.now = omega arith in
    sym (c.loop-at.invariant ∙ leaps_step c.args.nodes.now c.loop-at.at c.child.result.now inside c.child.ensures.value ∙ ap (λ b. b || any_may_leap (rest_children (c.loop-at.at + 1) c.args.nodes.now)) (sym c.if-may_leap.ensures))

pub any_may_leap-loop-at-preserved : goal.any_may_leap-loop-at-preserved
any_may_leap-loop-at-preserved t c =
    let inside : c.loop-at.at < count c.args.nodes.now = omega arith in
    c.loop-at.invariant ∙ leaps_step c.args.nodes.now c.loop-at.at c.child.result.now inside c.child.ensures.value ∙ ap (λ b. b || any_may_leap (rest_children (c.loop-at.at + 1) c.args.nodes.now)) (sym c.if-may_leap.ensures)

pub any_may_leap-returns : goal.any_may_leap-returns
any_may_leap-returns t c =
    let over : count c.args.nodes.now ≤ c.loop-at.at = omega arith in
    sym (c.loop-at.invariant ∙ leaps_end c.args.nodes.now c.loop-at.at over)

pub may_leap-returns-in_default : goal.may_leap-returns-in_default
may_leap-returns-in_default t c =
    c.any_may_leap.ensures ∙ ap any_may_leap (from_first c.children.result.now ∙ c.children.ensures)
    ∙ sym (leaps_below c.args.node.now (λ e. c.in_default.not-BreakStatement (c.shape.ensures ∙ e)) (λ e. c.in_default.not-ContinueStatement (c.shape.ensures ∙ e)) (λ d g ds e. c.in_default.not-Function d g ds (c.shape.ensures ∙ e)) (λ ds e. c.in_default.not-ArrowFunctionExpression ds (c.shape.ensures ∙ e)) (λ e. c.in_default.not-StaticBlock (c.shape.ensures ∙ e)))
