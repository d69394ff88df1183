use Rattle.std.proofs.Common.{◌∙◌, sym, ap}
use Rattle.mini_steady.specs.Declarations.{declared_in}
use Rattle.mini_unused.specs.Allowed.{switches_of}
use Rattle.mini_steady.proofs.FunctionSteps.{walked_function}
use Rattle.mini_steady.proofs.functions.minimize_in_function.Goals as goal

pub returns : goal.returns
returns g c =
    let o = switches_of (g.S.SteadyNames.orders c.args.steady.now) in
    walked_function (g.W.OwnRewrites.rows o) (g.met.W.OwnRewrites.keeps o) (g.met.W.OwnRewrites.more o) (g.S.SteadyNames.sets c.args.steady.now) c.args.node.now _ _ c.in_ok-code.code _ _
    (sym c.is_function.ensures.kind ∙ c.if-not-is_function.false) (c.in_ok-code.ensures.number ∙ c.number-number.ensures) (c.in_ok-code.ensures.declared ∙ ap declared_in c.child.ensures.value) c.in_ok-code.ensures.begun c.children_mut.ensures.value c.child_mut-body.ensures.value c.in_ok-minimize_own_code.ensures.walked
