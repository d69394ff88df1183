use Rattle.std.proofs.Common.{◌∙◌, sym, ap}
use Rattle.mini_model.specs.declared.place.Position.TheVariants.{Elsewhere}
use Rattle.mini_model.specs.Position.{child_position}
use Rattle.mini_steady.specs.Declarations.{declared_in}
use Rattle.mini_unused.specs.Allowed.{switches_of}
use Rattle.mini_steady.proofs.ArrowSteps.{stands_there, walked_arrow}
use Rattle.mini_steady.proofs.arrows.minimize_in_arrow.Goals as goal

pub returns : goal.returns
returns g c =
    let o = switches_of (g.S.SteadyNames.orders c.args.steady.now) in
    let here = sym c.is_arrow.ensures.kind ∙ c.if-not-is_arrow.false in
    walked_arrow (g.W.OwnRewrites.rows o) (g.met.W.OwnRewrites.keeps o) (g.met.W.OwnRewrites.more o) (g.S.SteadyNames.sets c.args.steady.now) c.args.node.now _ _ c.child_place-place.result c.in_ok-code.code _ _
    here (c.child_place-place.ensures ∙ ap (λ h. child_position h Elsewhere 2 1) c.shape.ensures ∙ stands_there c.args.node.now here) (c.in_ok-code.ensures.number ∙ c.number-number.ensures) (c.in_ok-code.ensures.declared ∙ ap declared_in c.child.ensures.value) c.in_ok-code.ensures.begun c.children_mut.ensures.value c.child_mut-body.ensures.value c.in_ok-minimize_own_code.ensures.walked
