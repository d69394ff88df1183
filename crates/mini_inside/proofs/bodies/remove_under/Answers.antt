use Rattle.std.proofs.Common.{◌∙◌, ap}
use Rattle.mini_model.specs.Tree.{listed}
use Rattle.mini_inside.proofs.FurtherBodies.{above_listed, under_walked}
use Rattle.mini_inside.proofs.bodies.remove_under.Goals as goal

pub remove_below-requires : goal.remove_below-requires
remove_below-requires g c = above_listed c.listed-above.result c.args.outside.now c.push_above.new.above (c.listed-above.ensures ∙ ap listed c.new.ensures) c.in_ok-push_above.ensures

pub returns : goal.returns
returns g c =
    let back = c.pop_above.ensures.node c.listed-above.result c.args.outside.now (c.in_ok-changed.ensures.back ∙ c.in_ok-push_above.ensures) in
    under_walked (g.E.EndRewrites.ends c.args.ends.now) c.args.outside.now c.pop_above.new.node c.args.list.now c.remove_below.new.node c.listed-above.result c.push_above.new.above _ (c.listed-above.ensures ∙ ap listed c.new.ensures) c.in_ok-push_above.ensures back c.in_ok-changed.ensures.walked
