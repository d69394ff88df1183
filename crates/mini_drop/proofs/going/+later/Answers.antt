use Rattle.std.proofs.Common.{ap, ◌∙◌, refl, ◌<◌, ◌≤◌, arith}
use Rattle.std.specs.Prelude.{slice_index, ◌&&◌}
use Rattle.mini_model.specs.Tree.{count}
use Rattle.mini_context.specs.Tables.{mark_at}
use Rattle.mini_drop.specs.Going.{own_later, later_in, all_later}
use Rattle.mini_node.specs.Children.{names}
use Rattle.mini_drop.proofs.Every.{next, finished}
use Rattle.mini_drop.proofs.Later.{later_every, node_is}
use Rattle.mini_drop.proofs.going.+later.Goals as goal

pub all_later-loop-at-init : goal.all_later-loop-at-init
all_later-loop-at-init t c = refl

pub all_later-loop-at-preserved : goal.all_later-loop-at-preserved
all_later-loop-at-preserved t c =
    let inside : c.loop-at.at < count c.args.nodes.now = omega arith in
    next (λ i t. later_in (mark_at c.args.set.now) (slice_index c.args.rounds.now) c.args.round t) (λ i ts. all_later (mark_at c.args.set.now) (slice_index c.args.rounds.now) c.args.round ts) (later_every (mark_at c.args.set.now) (slice_index c.args.rounds.now) c.args.round) c.args.nodes.now c.args.from c.loop-at.at c.loop-at.all _ c.child.result.now inside c.child.ensures.value c.later_in-all.ensures c.loop-at.invariant

pub all_later-returns : goal.all_later-returns
all_later-returns t c =
    let over : count c.args.nodes.now ≤ c.loop-at.at = omega arith in
    finished (λ i t. later_in (mark_at c.args.set.now) (slice_index c.args.rounds.now) c.args.round t) (λ i ts. all_later (mark_at c.args.set.now) (slice_index c.args.rounds.now) c.args.round ts) (later_every (mark_at c.args.set.now) (slice_index c.args.rounds.now) c.args.round) c.args.nodes.now c.args.from c.loop-at.at c.loop-at.all over c.loop-at.invariant

pub later_in-returns : goal.later_in-returns
later_in-returns t c =
    ap (λ b. b && c.all_later.result) c.own_later.ensures
    ∙ ap (λ b. own_later (mark_at c.args.set.now) (slice_index c.args.rounds.now) c.args.round c.shape.result.now (names c.name.result.now) && b) c.all_later.ensures
    ∙ node_is (mark_at c.args.set.now) (slice_index c.args.rounds.now) c.args.round c.args.node.now c.shape.result.now (names c.name.result.now) c.children.result.now c.shape.ensures c.name.ensures c.children.ensures
