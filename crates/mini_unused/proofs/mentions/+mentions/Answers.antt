use Rattle.std.proofs.Common.{◌<◌, ◌≤◌, ◌+◌, ◌∙◌, sym, ap, arith}
use Rattle.std.specs.Prelude.{◌||◌}
use Rattle.mini_model.specs.Tree.{count}
use Rattle.mini_node.specs.Children.{rest_children}
use Rattle.mini_node.specs.Walks.{from_first}
use Rattle.mini_rows.specs.Unused.{any_names}
use Rattle.mini_unused.proofs.Standing.{like_first, mention_step, mention_end}
use Rattle.mini_unused.proofs.mentions.+mentions.Goals as goal

pub is_mentioned_from-returns-then-is_mentioned : goal.is_mentioned_from-returns-then-is_mentioned
is_mentioned_from-returns-then-is_mentioned t c =
    let inside : c.loop-at.at < count c.args.nodes.now = omega arith in
    sym (c.loop-at.invariant ∙ mention_step c.args.name.now c.args.nodes.now c.loop-at.at c.child.result.now inside c.child.ensures.value ∙ ap (λ b. b || any_names c.args.name.now (rest_children (c.loop-at.at + 1) c.args.nodes.now)) (sym c.if-is_mentioned.ensures))

pub is_mentioned_from-loop-at-preserved : goal.is_mentioned_from-loop-at-preserved
is_mentioned_from-loop-at-preserved t c =
    let inside : c.loop-at.at < count c.args.nodes.now = omega arith in
    c.loop-at.invariant ∙ mention_step c.args.name.now c.args.nodes.now c.loop-at.at c.child.result.now inside c.child.ensures.value ∙ ap (λ b. b || any_names c.args.name.now (rest_children (c.loop-at.at + 1) c.args.nodes.now)) (sym c.if-is_mentioned.ensures)

pub is_mentioned_from-returns : goal.is_mentioned_from-returns
is_mentioned_from-returns t c =
    let over : count c.args.nodes.now ≤ c.loop-at.at = omega arith in
    sym (c.loop-at.invariant ∙ mention_end c.args.name.now c.args.nodes.now c.loop-at.at over)

pub is_mentioned-returns-else-is_like : goal.is_mentioned-returns-else-is_like
is_mentioned-returns-else-is_like t c =
    c.is_mentioned_from.ensures
    ∙ ap (any_names c.args.name.now) (from_first c.children.result.now ∙ c.children.ensures)
    ∙ sym (like_first c.args.name.now c.args.node.now _ _ c.name.ensures c.is_like.ensures c.if-is_like.false)
