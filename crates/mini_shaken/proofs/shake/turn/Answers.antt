use Rattle.std.proofs.Common.{sym, subst}
use Rattle.mini_accept.specs.WellShaped.{IsWellShaped}
use Rattle.mini_context.specs.Known.{Knows}
use Rattle.mini_shaken.proofs.Turning.{turn_changes, unchanged, turn_drops}
use Rattle.mini_shaken.proofs.shake.turn.Goals as goal

pub rewrite_once-requires : goal.rewrite_once-requires
rewrite_once-requires c = (c.requires.known.0, c.args.tree.now, c.requires.known.1)

pub returns-then-branch-clause-turns : goal.returns-then-branch-clause-turns
returns-then-branch-clause-turns c = λ o k. turn_changes o _ _ _ (c.in_ok-rewrite_once.ensures.walked o c.args.tree.now k) c.in_ok-rewrite_once.ensures.lighter c.if-branch.true

pub returns-then-branch-clause-known : goal.returns-then-branch-clause-known
returns-then-branch-clause-known c = λ o k. c.in_ok-refresh.ensures o _ (c.in_ok-rewrite_once.ensures.known o _ k)

pub drop_dead-requires-clause-known : goal.drop_dead-requires-clause-known
drop_dead-requires-clause-known c =
    let (o, k) = c.requires.known in
    let (same, rests) = unchanged o _ _ _ (c.in_ok-rewrite_once.ensures.walked o c.args.tree.now k) c.if-branch.false in
    (o, subst (Knows c.rewrite_once.new.context o) (sym same) (c.in_ok-rewrite_once.ensures.known o _ k))

pub drop_dead-requires-clause-shaped : goal.drop_dead-requires-clause-shaped
drop_dead-requires-clause-shaped c =
    let (o, k) = c.requires.known in
    let (same, rests) = unchanged o _ _ _ (c.in_ok-rewrite_once.ensures.walked o c.args.tree.now k) c.if-branch.false in
    subst IsWellShaped (sym same) c.requires.once.shaped

pub returns-clause-turns : goal.returns-clause-turns
returns-clause-turns c = λ o k.
    turn_drops o _ _ _ c.in_ok-gone.gone (unchanged o _ _ _ (c.in_ok-rewrite_once.ensures.walked o c.args.tree.now k) c.if-branch.false) c.in_ok-gone.ensures.drops c.in_ok-gone.ensures.unchanged c.in_ok-gone.ensures.none_left

pub returns-clause-known : goal.returns-clause-known
returns-clause-known c = λ o k.
    let (same, rests) = unchanged o _ _ _ (c.in_ok-rewrite_once.ensures.walked o c.args.tree.now k) c.if-branch.false in
    c.in_ok-gone.ensures.known o (subst (Knows c.rewrite_once.new.context o) (sym same) (c.in_ok-rewrite_once.ensures.known o _ k))
