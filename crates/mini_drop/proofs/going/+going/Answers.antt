use Rattle.std.proofs.Common.{ap, ◌∙◌, refl, ◌<◌, ◌≤◌, arith}
use Rattle.std.specs.Prelude.{slice_index, not, ◌&&◌}
use Rattle.std.specs.List.{list_any}
use Rattle.mini_node.specs.Children.{names}
use Rattle.mini_dead.specs.Dead.{has_name}
use Rattle.mini_model.specs.Tree.{count}
use Rattle.mini_context.specs.Tables.{mark_at}
use Rattle.mini_dead.specs.Marked.{all_may_go}
use Rattle.mini_drop.specs.Asked.{role_in, spot_in}
use Rattle.mini_drop.specs.Going.{part_goes}
use Rattle.mini_drop.proofs.Every.{next, finished}
use Rattle.mini_drop.proofs.Later.{parts_every, whole_is}
use Rattle.mini_drop.proofs.going.+going.Goals as goal

pub parts_may_go-loop-at-init : goal.parts_may_go-loop-at-init
parts_may_go-loop-at-init t c = refl

pub parts_may_go-loop-at-preserved : goal.parts_may_go-loop-at-preserved
parts_may_go-loop-at-preserved t c =
    let inside : c.loop-at.at < count c.args.nodes.now = omega arith in
    next (part_goes (mark_at c.args.set.now) (slice_index c.args.rounds.now) (role_in c.args.role)) (all_may_go (mark_at c.args.set.now) (slice_index c.args.rounds.now) (role_in c.args.role)) (parts_every (mark_at c.args.set.now) (slice_index c.args.rounds.now) (role_in c.args.role)) c.args.nodes.now 0 c.loop-at.at c.loop-at.all _ c.child.result.now inside c.child.ensures.value c.part_may_go-all.ensures c.loop-at.invariant

pub parts_may_go-returns : goal.parts_may_go-returns
parts_may_go-returns t c =
    let over : count c.args.nodes.now ≤ c.loop-at.at = omega arith in
    finished (part_goes (mark_at c.args.set.now) (slice_index c.args.rounds.now) (role_in c.args.role)) (all_may_go (mark_at c.args.set.now) (slice_index c.args.rounds.now) (role_in c.args.role)) (parts_every (mark_at c.args.set.now) (slice_index c.args.rounds.now) (role_in c.args.role)) c.args.nodes.now 0 c.loop-at.at c.loop-at.all over c.loop-at.invariant

pub may_go-returns : goal.may_go-returns
may_go-returns t c =
    ap (λ b. b && c.parts_may_go.result) c.has_none.ensures
    ∙ ap (λ b. not (list_any (has_name (mark_at c.args.set.now)) (names c.name.result.now)) && b) c.parts_may_go.ensures
    ∙ whole_is (mark_at c.args.set.now) (slice_index c.args.rounds.now) (spot_in c.args.spot) c.args.node.now c.shape.result.now (names c.name.result.now) (role_in c.role_of.result) c.children.result.now c.name.ensures c.role_of.ensures c.shape.ensures c.children.ensures
