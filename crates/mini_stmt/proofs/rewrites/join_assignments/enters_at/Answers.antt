use Rattle.std.proofs.Common.{◌∙◌, ap, sym, arith}
use Rattle.mini_model.specs.Tree.{count, children}
use Rattle.mini_stmt.proofs.Assignments.{askable}
use Rattle.mini_stmt.proofs.rewrites.join_assignments.enters_at.Goals as goal

pub child-requires : goal.child-requires
child-requires c = (askable c.args.first.now c.args.next.now (sym c.may_enter.ensures ∙ c.if-not-may_enter.false)).list

pub beginning_of-requires : goal.beginning_of-requires
beginning_of-requires c = (askable c.args.first.now c.args.next.now (sym c.may_enter.ensures ∙ c.if-not-may_enter.false)).some

pub child-requires-2 : goal.child-requires-2
child-requires-2 c =
    let target = (askable c.args.first.now c.args.next.now (sym c.may_enter.ensures ∙ c.if-not-may_enter.false)).target in
    let same = ap (λ t. count (children t)) c.beginning_of.ensures in
    omega (arith, target, same)
