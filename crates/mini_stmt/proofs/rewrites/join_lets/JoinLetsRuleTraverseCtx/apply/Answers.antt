use Rattle.std.proofs.Common.{sym}
use Rattle.mini_stmt.proofs.LetJoins.{applied, elsewhere}
use Rattle.mini_stmt.proofs.rewrites.join_lets.JoinLetsRuleTraverseCtx.apply.Goals as goal

pub returns-then-not-is_list_place-clause-applied : goal.returns-then-not-is_list_place-clause-applied
returns-then-not-is_list_place-clause-applied c = λ o q k. elsewhere c.args.place c.args.node.now (sym c.if-not-is_list_place.ensures) o q

pub returns-clause-applied : goal.returns-clause-applied
returns-clause-applied c = applied c.args.context.now c.args.place (sym c.if-not-is_list_place.ensures) c.args.node.now c.minimize_lets.new.node c.in_ok-minimize_lets.field-0 c.in_ok-minimize_lets.ensures
