use Rattle.std.proofs.Common.{refl, ◌<◌, ◌≤◌, arith}
use Rattle.std.specs.Prelude.{slice_index}
use Rattle.mini_model.specs.Tree.{count}
use Rattle.mini_context.specs.Tables.{mark_at}
use Rattle.mini_drop.specs.Going.{declarator_later, declarators_later}
use Rattle.mini_drop.proofs.Every.{next, finished}
use Rattle.mini_drop.proofs.Later.{declarators_every}
use Rattle.mini_drop.proofs.going.declarators_later.Goals as goal

pub loop-at-init : goal.loop-at-init
loop-at-init c = refl

pub loop-at-preserved : goal.loop-at-preserved
loop-at-preserved c =
    let inside : c.loop-at.at < count c.args.nodes.now = omega arith in
    next (λ i t. declarator_later (mark_at c.args.set.now) (slice_index c.args.rounds.now) t) (λ i ts. declarators_later (mark_at c.args.set.now) (slice_index c.args.rounds.now) ts) (declarators_every (mark_at c.args.set.now) (slice_index c.args.rounds.now)) c.args.nodes.now 0 c.loop-at.at c.loop-at.all _ c.child.result.now inside c.child.ensures.value c.declarator_later-all.ensures c.loop-at.invariant

pub returns : goal.returns
returns c =
    let over : count c.args.nodes.now ≤ c.loop-at.at = omega arith in
    finished (λ i t. declarator_later (mark_at c.args.set.now) (slice_index c.args.rounds.now) t) (λ i ts. declarators_later (mark_at c.args.set.now) (slice_index c.args.rounds.now) ts) (declarators_every (mark_at c.args.set.now) (slice_index c.args.rounds.now)) c.args.nodes.now 0 c.loop-at.at c.loop-at.all over c.loop-at.invariant
