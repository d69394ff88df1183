use Rattle.mini_rows.specs.Inside.{unused_ends}
use Rattle.mini_tree.specs.Context.{ByKnown}
use Rattle.mini_tree.specs.Rule.{Applied}
use Rattle.mini_context.specs.Known.{Knows}
use Rattle.mini_unused.specs.RemoveUnusedDeclaration.{allowed}
use Rattle.mini_inside.proofs.Holders.{where_ok}
use Rattle.mini_inside.specs.Further.{AppliedAt, Gives, Rests}
use Rattle.mini_inside.proofs.FurtherHolders.{known}
use Rattle.mini_inside.proofs.inside.RemoveInsideRuleTraverseCtx.apply.Goals as goal

pub returns-clause-applied : goal.returns-clause-applied
returns-clause-applied c =
    let made = c.remove_inside in
    let t = c.args.node.now in
    let u = made.new.node in
    where_ok made.result (λ changed. AppliedAt (unused_ends (allowed c.args.context.now)) c.args.place t u changed) (λ changed. ByKnown Knows c.args.context.now (λ o q. Applied (Gives o q) (Rests o q) c.args.place t u changed)) (λ changed r. known c.args.context.now c.args.place t u changed r) made.ensures
