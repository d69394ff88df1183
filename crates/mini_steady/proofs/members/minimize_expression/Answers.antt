use Rattle.std.proofs.Common.{sym, subst, ◌∙◌}
use Rattle.mini_steady.specs.Declarations.{known_of}
use Rattle.mini_steady.specs.Idle.{LosesIn}
use Rattle.mini_steady.proofs.IdleRows.{idle_applied, member_applied}
use Rattle.mini_steady.proofs.StillRows.{still_applied}
use Rattle.mini_steady.proofs.members.minimize_expression.Goals as goal

pub returns-then-branch : goal.returns-then-branch
returns-then-branch g c =
    let made = c.in_ok-minimize_members in
    member_applied (g.S.SteadyNames.orders c.args.steady.now).edition (known_of (g.S.SteadyNames.sets c.args.steady.now) c.args.body.now) c.args.seat c.args.node.now _ made.ensures.tree (sym c.if-branch.true ∙ made.ensures.said)

pub returns-then-branch-2 : goal.returns-then-branch-2
returns-then-branch-2 g c =
    let made = c.in_ok-minimize_members in
    let V = known_of (g.S.SteadyNames.sets c.args.steady.now) c.args.body.now in
    idle_applied (g.S.SteadyNames.orders c.args.steady.now).edition V c.args.seat c.args.node.now _ _ made.ensures.tree (sym c.if-branch.false ∙ made.ensures.said) (subst (LosesIn V c.args.seat _ _) c.if-branch-2.true c.in_ok-drop_idle_parts.ensures)

pub returns : goal.returns
returns g c =
    let made = c.in_ok-minimize_members in
    let V = known_of (g.S.SteadyNames.sets c.args.steady.now) c.args.body.now in
    still_applied (g.S.SteadyNames.orders c.args.steady.now).edition V c.args.seat c.args.node.now _ _ _ _ made.ensures.tree (sym c.if-branch.false ∙ made.ensures.said) (subst (LosesIn V c.args.seat _ _) c.if-branch-2.false c.in_ok-drop_idle_parts.ensures) c.in_ok-shortened.ensures.tree c.in_ok-shortened.ensures.said
