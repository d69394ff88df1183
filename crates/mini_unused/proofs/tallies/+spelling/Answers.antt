use Rattle.std.proofs.Common.{◌<◌, ◌≤◌, ◌+◌, ◌∙◌, sym, ap, arith}
use Rattle.std.specs.Prelude.{◌||◌}
use Rattle.mini_model.specs.Tree.{count}
use Rattle.mini_node.specs.Children.{rest_children}
use Rattle.mini_node.specs.Walks.{from_first}
use Rattle.mini_unused.specs.Tallies.{is_any_spelled}
use Rattle.mini_unused.proofs.Spelled.{spelled_first, spelled_step, spelled_end}
use Rattle.mini_unused.proofs.tallies.+spelling.Goals as goal

pub is_any_spelled-returns-then-is_spelled_in : goal.is_any_spelled-returns-then-is_spelled_in
is_any_spelled-returns-then-is_spelled_in t c =
    let inside : c.loop-at.at < count c.args.nodes.now = omega arith in
    sym (c.loop-at.invariant ∙ spelled_step c.args.name.now c.args.nodes.now c.loop-at.at c.child.result.now inside c.child.ensures.value ∙ ap (λ b. b || is_any_spelled c.args.name.now (rest_children (c.loop-at.at + 1) c.args.nodes.now)) (sym c.if-is_spelled_in.ensures))

pub is_any_spelled-loop-at-preserved : goal.is_any_spelled-loop-at-preserved
is_any_spelled-loop-at-preserved t c =
    let inside : c.loop-at.at < count c.args.nodes.now = omega arith in
    c.loop-at.invariant ∙ spelled_step c.args.name.now c.args.nodes.now c.loop-at.at c.child.result.now inside c.child.ensures.value ∙ ap (λ b. b || is_any_spelled c.args.name.now (rest_children (c.loop-at.at + 1) c.args.nodes.now)) (sym c.if-is_spelled_in.ensures)

pub is_any_spelled-returns : goal.is_any_spelled-returns
is_any_spelled-returns t c =
    let over : count c.args.nodes.now ≤ c.loop-at.at = omega arith in
    sym (c.loop-at.invariant ∙ spelled_end c.args.name.now c.args.nodes.now c.loop-at.at over)

pub is_spelled_in-returns-else-is_spelled : goal.is_spelled_in-returns-else-is_spelled
is_spelled_in-returns-else-is_spelled t c =
    c.is_any_spelled.ensures
    ∙ ap (is_any_spelled c.args.name.now) (from_first c.children.result.now ∙ c.children.ensures)
    ∙ sym (spelled_first c.args.name.now c.args.node.now _ _ c.name.ensures c.is_spelled.ensures.told c.if-is_spelled.false)
