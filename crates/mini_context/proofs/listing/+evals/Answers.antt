use Rattle.std.proofs.Common.{◌<◌, ◌≤◌, ◌+◌, ◌∙◌, ◌||◌, sym, ap, arith}
use Rattle.mini_model.specs.Tree.{count}
use Rattle.mini_node.specs.Children.{rest_children}
use Rattle.mini_node.specs.Walks.{from_first}
use Rattle.mini_laws.specs.ScopeList.{any_has_eval}
use Rattle.mini_context.proofs.Evals.{evals_step, evals_end, call_first}
use Rattle.mini_context.proofs.listing.+evals.Goals as goal

pub any_has_eval-returns-then-has_eval : goal.any_has_eval-returns-then-has_eval
any_has_eval-returns-then-has_eval t c =
    let inside : c.loop-at.at < count c.args.nodes.now = omega arith in
    sym (c.loop-at.invariant ∙ evals_step c.args.nodes.now c.loop-at.at c.child.result.now inside c.child.ensures.value ∙ ap (λ b. b || any_has_eval (rest_children (c.loop-at.at + 1) c.args.nodes.now)) (sym c.if-has_eval.ensures))

pub any_has_eval-loop-at-preserved : goal.any_has_eval-loop-at-preserved
any_has_eval-loop-at-preserved t c =
    let inside : c.loop-at.at < count c.args.nodes.now = omega arith in
    c.loop-at.invariant ∙ evals_step c.args.nodes.now c.loop-at.at c.child.result.now inside c.child.ensures.value ∙ ap (λ b. b || any_has_eval (rest_children (c.loop-at.at + 1) c.args.nodes.now)) (sym c.if-has_eval.ensures)

pub any_has_eval-returns : goal.any_has_eval-returns
any_has_eval-returns t c =
    let over : count c.args.nodes.now ≤ c.loop-at.at = omega arith in
    sym (c.loop-at.invariant ∙ evals_end c.args.nodes.now c.loop-at.at over)

pub has_eval-returns-then-is_eval_call : goal.has_eval-returns-then-is_eval_call
has_eval-returns-then-is_eval_call t c = c.if-is_eval_call.true ∙ sym (call_first c.args.node.now c.shape.result.now c.parts.result.now _ _ c.is_eval_call.ensures c.shape.ensures c.parts.ensures.value c.if-is_eval_call.true)

pub has_eval-returns-else-is_eval_call : goal.has_eval-returns-else-is_eval_call
has_eval-returns-else-is_eval_call t c =
    c.any_has_eval.ensures ∙ ap any_has_eval (from_first c.children.result.now ∙ c.children.ensures)
    ∙ sym (call_first c.args.node.now c.shape.result.now c.parts.result.now _ _ c.is_eval_call.ensures c.shape.ensures c.parts.ensures.value c.if-is_eval_call.false)
