use Rattle.std.proofs.Common.{◌≡◌, ◌≤◌, false, subst, arith}
use Rattle.mini_model.specs.Tree.{count}
use Rattle.mini_node.specs.Walks.{all_first}
use Rattle.mini_rows.specs.Past.{are_past_in}
use Rattle.mini_rows.specs.Unused.{any_names}
use Rattle.mini_unused.proofs.SingleUses.{place_start}
use Rattle.mini_unused.proofs.Standing.{before_step}
use Rattle.mini_past.specs.SubstitutePast.{held_at}
use Rattle.mini_past.proofs.Looks.{none_named, looked_some, looked_none}
use Rattle.mini_past.proofs.reaching.+looks.Goals as goal

pub look-returns-in-Some : goal.look-returns-in-Some
look-returns-in-Some g t c =
    let H = held_at (g.S.SteadyNames.sets c.args.steady.now c.args.body) c.args.statements.now c.args.at c.args.declarators.now c.args.which in
    looked_some H c.args.name.now c.args.gathered c.args.init.now c.args.node.now c.shape.result.now c.children.result.now c.in-Some.place c.in-Some.passes c.is_past_at.result (none_named c.name.result.now c.args.node.now c.if-is_some.ensures c.name.ensures) c.shape.ensures c.children.ensures c.in-Some.ensures.0 c.in-Some.ensures.1 c.is_past_at.ensures

pub look-returns-in-None : goal.look-returns-in-None
look-returns-in-None g t c =
    let H = held_at (g.S.SteadyNames.sets c.args.steady.now c.args.body) c.args.statements.now c.args.at c.args.declarators.now c.args.which in
    looked_none H c.args.name.now c.args.gathered c.args.init.now c.args.node.now c.children.result.now (are_past_in H c.args.name.now c.args.gathered c.args.init.now c.args.node.now) (none_named c.name.result.now c.args.node.now c.if-is_some.ensures c.name.ensures) c.children.ensures c.in-None.ensures

pub look_along-loop-place-init : goal.look_along-loop-place-init
look_along-loop-place-init g t c = place_start c.args.name.now c.args.nodes.now

pub look_along-loop-place-preserved : goal.look_along-loop-place-preserved
look_along-loop-place-preserved g t c = before_step c.args.name.now c.args.nodes.now c.loop-place.place _ c.child-part.result.now (omega arith) (omega arith) c.child-part.ensures.value c.in_default.ensures c.loop-place.invariant

pub look_along-returns : goal.look_along-returns
look_along-returns g t c =
    let over : count c.args.nodes.now ≤ c.loop-place.place = omega arith in
    subst (λ ts. any_names c.args.name.now ts ≡ false) (all_first c.args.nodes.now c.loop-place.place over) c.loop-place.invariant
