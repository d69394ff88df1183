use Rattle.std.proofs.Common.{sym}
use Rattle.mini_model.specs.declared.place.Position.TheVariants.{Elsewhere}
use Rattle.mini_inside.proofs.Holders.{where_ok}
use Rattle.mini_inside.specs.Further.{UnderList, InFunction, AppliedAt}
use Rattle.mini_inside.proofs.FurtherHolders.{of_holder, as_exported}
use Rattle.mini_inside.proofs.bodies.remove_inside_module.Goals as goal

pub returns : goal.returns
returns g c =
    let W = g.E.EndRewrites.ends c.args.ends.now in
    let t = c.args.node.now in
    let u = c.remove_in_holder.new.node in
    where_ok c.remove_in_holder.result (λ changed. UnderList W t u changed) (λ changed. AppliedAt W Elsewhere t u changed) (λ changed r. of_holder W (g.met.E.EndRewrites.lighter c.args.ends.now) t u changed (sym c.if-not-holds_list.ensures.kind) r) c.remove_in_holder.ensures

pub returns-then-not-holds_list : goal.returns-then-not-holds_list
returns-then-not-holds_list g c =
    let W = g.E.EndRewrites.ends c.args.ends.now in
    let t = c.args.node.now in
    let u = c.remove_inside_function.new.node in
    where_ok c.remove_inside_function.result (λ changed. InFunction W t u changed) (λ changed. AppliedAt W Elsewhere t u changed) (λ changed r. as_exported W (g.met.E.EndRewrites.lighter c.args.ends.now) t u changed (sym c.if-not-holds_list.ensures.kind) r) c.remove_inside_function.ensures
