use Rattle.std.proofs.Common.{arith}
use Rattle.mini_shaken.proofs.Turning.{so_far_first, so_far_more, settled_shakes, stopped_shakes, turn_once}
use Rattle.mini_shaken.proofs.shake.shake.Goals as goal

pub drop_dead-requires-clause-known : goal.drop_dead-requires-clause-known
drop_dead-requires-clause-known c = (c.args.options.now, c.requires.known)

pub drop_dead-requires-clause-shaped : goal.drop_dead-requires-clause-shaped
drop_dead-requires-clause-shaped c = c.requires.once.shaped

pub turns-init : goal.turns-init
turns-init c = record {
  known = c.in_ok-drop_dead.ensures.known c.args.options.now c.requires.known;
  so_far = so_far_first c.args.options.now _ _ _ c.requires.once c.in_ok-drop_dead.ensures.drops;
  within = omega arith;
}

pub turn-requires-clause-known : goal.turn-requires-clause-known
turn-requires-clause-known c = (c.args.options.now, c.turns.invariant.known)

pub turn-requires-clause-once : goal.turn-requires-clause-once
turn-requires-clause-once c = c.turns.invariant.so_far.once

pub drop_dead-requires-then-passes-bound-clause-known : goal.drop_dead-requires-then-passes-bound-clause-known
drop_dead-requires-then-passes-bound-clause-known c = (c.args.options.now, c.in_ok-turn.ensures.known c.args.options.now c.turns.invariant.known)

pub drop_dead-requires-then-passes-bound-clause-shaped : goal.drop_dead-requires-then-passes-bound-clause-shaped
drop_dead-requires-then-passes-bound-clause-shaped c = (turn_once c.args.options.now _ _ _ (c.in_ok-turn.ensures.turns c.args.options.now c.turns.invariant.known) c.turns.invariant.so_far.once).shaped

pub turns-preserved : goal.turns-preserved
turns-preserved c = record {
  known = c.in_ok-turn.ensures.known c.args.options.now c.turns.invariant.known;
  so_far = so_far_more c.args.options.now _ _ _ _ _ c.turns.invariant.so_far (c.in_ok-turn.ensures.turns c.args.options.now c.turns.invariant.known) c.if-branch.true;
  within = omega arith;
}

pub returns-then-passes-bound : goal.returns-then-passes-bound
returns-then-passes-bound c =
    stopped_shakes c.args.options.now _ _ _ _ _ _ _ _ c.turns.invariant.so_far (omega (arith, c.turns.invariant.within)) (omega arith) (c.in_ok-turn.ensures.turns c.args.options.now c.turns.invariant.known) c.if-branch.true c.in_ok-drop_dead-2.ensures.drops c.in_ok-drop_dead-2.ensures.none_left

pub returns : goal.returns
returns c = settled_shakes c.args.options.now _ _ _ _ _ _ c.turns.invariant.so_far (omega (arith, c.turns.invariant.within)) (c.in_ok-turn.ensures.turns c.args.options.now c.turns.invariant.known) c.if-branch.false
