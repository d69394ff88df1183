use Rattle.std.proofs.Common.{subst}
use Rattle.mini_stmt.specs.JoinLets.{marked, JoinsValues}
use Rattle.mini_stmt.proofs.LetJoins.{values_joined, then_dropped}
use Rattle.mini_stmt.proofs.rewrites.join_lets.minimize_lets.Goals as goal

pub returns-then-branch : goal.returns-then-branch
returns-then-branch c =
    let W = marked c.args.scopes.now in
    values_joined W c.args.node.now c.join_lets.new.node (subst (JoinsValues W c.args.node.now c.join_lets.new.node) c.if-branch.true c.in_ok-join_lets.ensures)

pub returns : goal.returns
returns c =
    let W = marked c.args.scopes.now in
    then_dropped W c.args.node.now c.join_lets.new.node c.drop_lexicals.new.node c.drop_lexicals.result (subst (JoinsValues W c.args.node.now c.join_lets.new.node) c.if-branch.false c.in_ok-join_lets.ensures) c.drop_lexicals.ensures
