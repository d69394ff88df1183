use Rattle.std.proofs.Common.{◌≡◌, ◌-◌, ◌+◌, ◌∙◌, sym, ap, subst, arith}
use Rattle.std.specs.Prelude.{not}
use Rattle.mini_model.specs.Tree.{count, child_or_absent}
use Rattle.mini_rows.specs.Lists.{is_unscoped}
use Rattle.mini_stmt.specs.MinimizeBody.{is_guard}
use Rattle.mini_stmt.proofs.Parts.{not_true, not_false}
use Rattle.mini_stmt.proofs.Bodies.{Passed, passed_start, passed_early, passed_deep, passed_on, passed_stops, passed_all}
use Rattle.mini_stmt.proofs.rewrites.minimize_body.early_at.Goals as goal

pub loop-back-init : goal.loop-back-init
loop-back-init c = passed_start c.args.in_loop c.args.list.now (count c.args.list.now - 0) (omega arith)

pub returns-then-may_all_sink : goal.returns-then-may_all_sink
returns-then-may_all_sink c =
    passed_early c.args.in_loop c.args.list.now (c.len-count.result - 1 - c.loop-back.back) (count c.args.list.now - c.loop-back.back) (c.len-count.result - 1 - c.loop-back.back + 1) (omega (arith, c.len-count.ensures)) (omega (arith, c.len-count.ensures)) (omega arith)
    (sym (c.is_guard.ensures ∙ ap (is_guard c.args.in_loop) c.child-node.ensures.value) ∙ c.if-is_guard.true) (sym c.may_all_sink.ensures ∙ c.if-may_all_sink.true) c.loop-back.invariant

pub returns-else-may_all_sink : goal.returns-else-may_all_sink
returns-else-may_all_sink c =
    passed_deep c.args.in_loop c.args.list.now (c.len-count.result - 1 - c.loop-back.back) (count c.args.list.now - c.loop-back.back) (c.len-count.result - 1 - c.loop-back.back + 1) (omega (arith, c.len-count.ensures)) (omega arith)
    (sym c.may_all_sink.ensures ∙ c.if-may_all_sink.false) c.loop-back.invariant

pub returns-then-statement_cares_about_scope : goal.returns-then-statement_cares_about_scope
returns-then-statement_cares_about_scope c =
    passed_stops c.args.in_loop c.args.list.now (c.len-count.result - 1 - c.loop-back.back) (count c.args.list.now - c.loop-back.back) (omega (arith, c.len-count.ensures)) (omega (arith, c.len-count.ensures))
    (not_true (is_unscoped (child_or_absent c.args.list.now (c.len-count.result - 1 - c.loop-back.back))) (sym (c.statement_cares_about_scope.ensures ∙ ap (λ t. not (is_unscoped t)) c.child-node.ensures.value) ∙ c.if-statement_cares_about_scope.true))
    (sym (c.is_guard.ensures ∙ ap (is_guard c.args.in_loop) c.child-node.ensures.value) ∙ c.if-is_guard.false) c.loop-back.invariant

pub loop-back-preserved : goal.loop-back-preserved
loop-back-preserved c =
    subst (Passed c.args.in_loop c.args.list.now) next
    (passed_on c.args.in_loop c.args.list.now (c.len-count.result - 1 - c.loop-back.back) (count c.args.list.now - c.loop-back.back) (omega (arith, c.len-count.ensures)) (omega (arith, c.len-count.ensures))
    (not_false (is_unscoped (child_or_absent c.args.list.now (c.len-count.result - 1 - c.loop-back.back))) (sym (c.statement_cares_about_scope.ensures ∙ ap (λ t. not (is_unscoped t)) c.child-node.ensures.value) ∙ c.if-statement_cares_about_scope.false))
    (sym (c.is_guard.ensures ∙ ap (is_guard c.args.in_loop) c.child-node.ensures.value) ∙ c.if-is_guard.false) c.loop-back.invariant)
  where
    next : c.len-count.result - 1 - c.loop-back.back ≡ count c.args.list.now - (c.loop-back.back + 1)
    next = omega (arith, c.len-count.ensures)

pub returns : goal.returns
returns c = passed_all c.args.in_loop c.args.list.now (count c.args.list.now - c.loop-back.back) (omega (arith, c.len-count.ensures)) c.loop-back.invariant
