use Rattle.std.proofs.Common.{sym}
use Rattle.mini_inside.proofs.Holders.{where_ok}
use Rattle.mini_inside.specs.Further.{UnderBody, InFunction}
use Rattle.mini_inside.proofs.FurtherHolders.{of_function, no_function_here}
use Rattle.mini_inside.proofs.bodies.remove_inside_function.Goals as goal

pub returns-then-not-is_function : goal.returns-then-not-is_function
returns-then-not-is_function g c = no_function_here (g.E.EndRewrites.ends c.args.ends.now) c.args.node.now (sym c.if-not-is_function.ensures.kind)

pub returns : goal.returns
returns g c =
    let W = g.E.EndRewrites.ends c.args.ends.now in
    let t = c.args.node.now in
    let u = c.remove_in_body.new.node in
    where_ok c.remove_in_body.result (λ changed. UnderBody W t 2 u changed) (λ changed. InFunction W t u changed) (λ changed r. of_function W t u changed (sym c.if-not-is_function.ensures.kind) r) c.remove_in_body.ensures
