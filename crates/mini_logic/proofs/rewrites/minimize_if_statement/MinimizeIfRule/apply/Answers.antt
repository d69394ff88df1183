use Rattle.std.proofs.Common.{subst, sym}
use Rattle.mini_tree.specs.Rule.{Applied}
use Rattle.mini_logic.specs.MinimizeIfStatement.{Gives, Rests}
use Rattle.mini_logic.proofs.MinimizeIfStatement.{applied}
use Rattle.mini_logic.proofs.rewrites.minimize_if_statement.MinimizeIfRule.apply.Goals as goal

pub returns-in_ok-try_minimize_if-in-Stmt-clause-applied : goal.returns-in_ok-try_minimize_if-in-Stmt-clause-applied
returns-in_ok-try_minimize_if-in-Stmt-clause-applied g c = λ o p k.
    subst (λ p. Applied Gives Rests p c.args.node.now c.try_minimize_if.new.node c.in_ok-try_minimize_if-in-Stmt.field-0) (sym c.in-Stmt.is) (applied c.in-Stmt.field-0 c.args.node.now c.try_minimize_if.new.node c.in_ok-try_minimize_if-in-Stmt.field-0 c.in_ok-try_minimize_if-in-Stmt.ensures.tree c.in_ok-try_minimize_if-in-Stmt.ensures.said)
