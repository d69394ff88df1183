use Rattle.std.proofs.Common.{◌≡◌, ◌-◌, ◌+◌, ◌∙◌, sym, ap, subst, arith}
use Rattle.mini_model.specs.Tree.{count}
use Rattle.mini_rows.specs.Lists.{is_bare_declarator}
use Rattle.mini_stmt.specs.JoinAssignments.{declares_bare}
use Rattle.mini_stmt.proofs.Assignments.{Passed, passed_start, passed_on, passed_found, passed_stops, passed_all}
use Rattle.mini_stmt.proofs.rewrites.join_assignments.takes_at.Goals as goal

pub loop-back-init : goal.loop-back-init
loop-back-init c = passed_start c.args.target.now c.args.list.now (count c.args.list.now - 0) (omega arith)

pub returns-then-declares_bare : goal.returns-then-declares_bare
returns-then-declares_bare c =
    passed_found c.args.target.now c.args.list.now (c.len-count.result - 1 - c.loop-back.back) (count c.args.list.now - c.loop-back.back) (omega (arith, c.len-count.ensures)) (omega (arith, c.len-count.ensures))
    (sym (c.declares_bare.ensures ∙ ap (λ d. declares_bare d c.args.target.now) c.child-node.ensures.value) ∙ c.if-declares_bare.true) c.loop-back.invariant

pub returns-then-not-is_bare_declarator : goal.returns-then-not-is_bare_declarator
returns-then-not-is_bare_declarator c =
    passed_stops c.args.target.now c.args.list.now (c.len-count.result - 1 - c.loop-back.back) (count c.args.list.now - c.loop-back.back) (omega (arith, c.len-count.ensures)) (omega (arith, c.len-count.ensures))
    (sym (c.is_bare_declarator.ensures ∙ ap is_bare_declarator c.child-node.ensures.value) ∙ c.if-not-is_bare_declarator.true)
    (sym (c.declares_bare.ensures ∙ ap (λ d. declares_bare d c.args.target.now) c.child-node.ensures.value) ∙ c.if-declares_bare.false) c.loop-back.invariant

pub loop-back-preserved : goal.loop-back-preserved
loop-back-preserved c =
    subst (Passed c.args.target.now c.args.list.now) next
    (passed_on c.args.target.now c.args.list.now (c.len-count.result - 1 - c.loop-back.back) (count c.args.list.now - c.loop-back.back) (omega (arith, c.len-count.ensures)) (omega (arith, c.len-count.ensures))
    (sym (c.is_bare_declarator.ensures ∙ ap is_bare_declarator c.child-node.ensures.value) ∙ c.if-not-is_bare_declarator.false)
    (sym (c.declares_bare.ensures ∙ ap (λ d. declares_bare d c.args.target.now) c.child-node.ensures.value) ∙ c.if-declares_bare.false) c.loop-back.invariant)
  where
    next : c.len-count.result - 1 - c.loop-back.back ≡ count c.args.list.now - (c.loop-back.back + 1)
    next = omega (arith, c.len-count.ensures)

pub returns : goal.returns
returns c = passed_all c.args.target.now c.args.list.now (count c.args.list.now - c.loop-back.back) (omega (arith, c.len-count.ensures)) c.loop-back.invariant
