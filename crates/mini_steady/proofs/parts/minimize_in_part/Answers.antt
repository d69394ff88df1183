use Rattle.std.proofs.Common.{◌∙◌, sym, ap}
use Rattle.mini_model.specs.Position.{child_position}
use Rattle.mini_steady.specs.Declarations.{declared_in}
use Rattle.mini_unused.specs.Allowed.{switches_of}
use Rattle.mini_steady.proofs.PartSteps.{walked_part}
use Rattle.mini_steady.proofs.parts.minimize_in_part.Goals as goal

pub returns : goal.returns
returns g c =
    let o = switches_of (g.S.SteadyNames.orders c.args.steady.now) in
    walked_part (g.W.OwnRewrites.rows o) (g.met.W.OwnRewrites.keeps o) (g.met.W.OwnRewrites.more o) (g.S.SteadyNames.sets c.args.steady.now) c.args.place c.args.node.now _ _ c.child_place-inside.result c.in_ok-code.code _ _
    (sym c.is_part.ensures.kind ∙ c.if-not-is_part.false) (c.child_place-inside.ensures ∙ ap (λ h. child_position h c.args.place 1 0) c.shape.ensures) (c.in_ok-code.ensures.number ∙ c.number-number.ensures) (c.in_ok-code.ensures.declared ∙ ap declared_in c.child.ensures.value) c.in_ok-code.ensures.begun c.children_mut.ensures.value c.child_mut-held.ensures.value c.in_ok-minimize_own_code.ensures.walked
