use Rattle.std.proofs.Common.{sym, subst}
use Rattle.std.specs.Prelude.{IfOk}
use Rattle.mini_model.specs.declared.seat.Seat.{Seat}
use Rattle.mini_model.specs.declared.place.Position.TheVariants.{Expr}
use Rattle.mini_inside.proofs.Holders.{where_ok}
use Rattle.mini_inside.specs.Further.{InFunction, AppliedAt}
use Rattle.mini_inside.proofs.FurtherHolders.{as_statement, as_method}
use Rattle.mini_inside.proofs.inside.remove_inside.Goals as goal

pub returns-in-Stmt : goal.returns-in-Stmt
returns-in-Stmt g c =
    let W = g.E.EndRewrites.ends c.args.ends.now in
    let t = c.args.node.now in
    let u = c.remove_inside_function.new.node in
    where_ok c.remove_inside_function.result (λ changed. InFunction W t u changed) (λ changed. AppliedAt W c.args.place t u changed)
    (λ changed r. subst (λ p. AppliedAt W p t u changed) (sym c.in-Stmt.is) (as_statement W (g.met.E.EndRewrites.lighter c.args.ends.now) t u changed r c.in-Stmt.field-0)) c.remove_inside_function.ensures

pub returns-in-Expr : goal.returns-in-Expr
returns-in-Expr g c =
    let W = g.E.EndRewrites.ends c.args.ends.now in
    let t = c.args.node.now in
    let u = c.remove_inside_arrow.new.node in
    where_ok c.remove_inside_arrow.result (λ changed. (s : Seat) → AppliedAt W (Expr s) t u changed) (λ changed. AppliedAt W c.args.place t u changed) (λ changed r. subst (λ p. AppliedAt W p t u changed) (sym c.in-Expr.is) (r c.in-Expr.field-0)) c.remove_inside_arrow.ensures

pub returns-in-Method : goal.returns-in-Method
returns-in-Method g c =
    let W = g.E.EndRewrites.ends c.args.ends.now in
    let t = c.args.node.now in
    let u = c.remove_inside_function-in-Method.new.node in
    where_ok c.remove_inside_function-in-Method.result (λ changed. InFunction W t u changed) (λ changed. AppliedAt W c.args.place t u changed)
    (λ changed r. subst (λ p. AppliedAt W p t u changed) (sym c.in-Method.is) (as_method W (g.met.E.EndRewrites.lighter c.args.ends.now) t u changed r)) c.remove_inside_function-in-Method.ensures

pub returns-in-Elsewhere : goal.returns-in-Elsewhere
returns-in-Elsewhere g c = subst (λ p. IfOk c.remove_inside_module.result (λ changed. AppliedAt (g.E.EndRewrites.ends c.args.ends.now) p c.args.node.now c.remove_inside_module.new.node changed)) (sym c.in-Elsewhere.is) c.remove_inside_module.ensures
