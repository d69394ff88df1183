use Rattle.std.proofs.Common.{subst₂}
use Rattle.mini_rows.specs.PastInside.{PastInside, past_ends}
use Rattle.mini_tree.specs.Context.{ByKnown}
use Rattle.mini_tree.specs.Rule.{Applied}
use Rattle.mini_inside.proofs.Holders.{where_ok}
use Rattle.mini_inside.specs.Further.{AppliedAt}
use Rattle.mini_past.specs.PastEnds.{RestsPastInside}
use Rattle.mini_past.proofs.inside.SubstitutePastInsideRule.apply.Goals as goal

pub returns-clause-applied : goal.returns-clause-applied
returns-clause-applied g c =
    let made = c.remove_inside in
    let k = c.args.context.now in
    let t = c.args.node.now in
    let u = made.new.node in
    where_ok made.result (λ changed. AppliedAt (past_ends (g.C.SteadyNames.sets k) (g.C.PastNames.lets k)) c.args.place t u changed)
    (λ changed. ByKnown g.C.Context.knows k (λ o q. Applied (PastInside (g.C.SteadyContext.steady q) (g.C.PastContext.lets_in o q)) (RestsPastInside (g.C.SteadyContext.steady q) (g.C.PastContext.lets_in o q)) c.args.place t u changed))
    (λ changed r. λ o q known. subst₂ (λ S W. Applied (PastInside S W) (RestsPastInside S W) c.args.place t u changed) (g.met.C.SteadyContext.told k o q known) (g.met.C.PastContext.says k o q known) r) made.ensures
