use Rattle.std.proofs.Common.{sym}
use Rattle.mini_model.specs.declared.place.Position.TheVariants.{Expr}
use Rattle.mini_model.specs.declared.seat.Seat.{Seat}
use Rattle.mini_inside.proofs.Holders.{where_ok}
use Rattle.mini_inside.specs.Further.{UnderBody, InFunction, AppliedAt}
use Rattle.mini_inside.proofs.FurtherHolders.{of_arrow, as_expression}
use Rattle.mini_inside.proofs.bodies.remove_inside_arrow.Goals as goal

pub returns : goal.returns
returns g c =
    let W = g.E.EndRewrites.ends c.args.ends.now in
    let t = c.args.node.now in
    let u = c.remove_in_body.new.node in
    where_ok c.remove_in_body.result (λ changed. UnderBody W t 1 u changed) (λ changed. (s : Seat) → AppliedAt W (Expr s) t u changed) (λ changed r. of_arrow W (g.met.E.EndRewrites.lighter c.args.ends.now) t u changed (sym c.if-not-has_statements.ensures.kind) r) c.remove_in_body.ensures

pub returns-then-not-has_statements : goal.returns-then-not-has_statements
returns-then-not-has_statements g c =
    let W = g.E.EndRewrites.ends c.args.ends.now in
    let t = c.args.node.now in
    let u = c.remove_inside_function.new.node in
    where_ok c.remove_inside_function.result (λ changed. InFunction W t u changed) (λ changed. (s : Seat) → AppliedAt W (Expr s) t u changed) (λ changed r. as_expression W (g.met.E.EndRewrites.lighter c.args.ends.now) t u changed (sym c.if-not-has_statements.ensures.kind) r) c.remove_inside_function.ensures
