use Rattle.mini_calls.proofs.OwnBodies.{if_own, cases_own, block_own, for_own}
use Rattle.mini_model.specs.declared.place.Position.TheVariants.{Stmt}
use Rattle.mini_steps.proofs.Called.{own, fitting, told_if_ok, left, turned, returning}
use Rattle.mini_steps.proofs.Held.{held_statement}
use Rattle.std.proofs.lemmas.Result.{IfOk-weaker}
use Rattle.mini_steps.proofs.Families as falls
use Rattle.mini_steps.proofs.Families.{any}
use Rattle.mini_steps.proofs.Others.{no_statement}
use Rattle.mini_stmt.specs.MinimizeStatements.{switches_of}
use Rattle.mini_steps.specs.declared.names.RuleName.TheVariants as name
use Rattle.mini_steps.proofs.calling.call_on_statement.Goals as goal

pub returns-in-TryMinimizeIf : goal.returns-in-TryMinimizeIf
returns-in-TryMinimizeIf c W q = told_if_ok (switches_of c.args.options) W c.args.rule name.TryMinimizeIf (Stmt q) _ c.args.node.now c.try_minimize_if.new.node c.in-TryMinimizeIf.is (fitting if_own q) c.try_minimize_if.result c.try_minimize_if.ensures.tree c.try_minimize_if.ensures.said

pub returns-in-DropUnreachableSwitchCases : goal.returns-in-DropUnreachableSwitchCases
returns-in-DropUnreachableSwitchCases c W q = told_if_ok (switches_of c.args.options) W c.args.rule name.DropUnreachableSwitchCases (Stmt q) _ c.args.node.now c.drop_unreachable_switch_cases.new.node c.in-DropUnreachableSwitchCases.is (own (Stmt q) cases_own (λ n w r. (falls.dead_cases any W q n w r).lighter)) c.drop_unreachable_switch_cases.result c.drop_unreachable_switch_cases.ensures.tree c.drop_unreachable_switch_cases.ensures.said

pub returns-in-UnwrapBlock : goal.returns-in-UnwrapBlock
returns-in-UnwrapBlock c W q = told_if_ok (switches_of c.args.options) W c.args.rule name.UnwrapBlock (Stmt q) _ c.args.node.now c.unwrap_block.new.node c.in-UnwrapBlock.is (own (Stmt q) block_own (λ n w r. (falls.block any W q n w r).lighter)) c.unwrap_block.result c.unwrap_block.ensures.tree c.unwrap_block.ensures.said

pub returns-in-MinimizeForStatement : goal.returns-in-MinimizeForStatement
returns-in-MinimizeForStatement c W q = told_if_ok (switches_of c.args.options) W c.args.rule name.MinimizeForStatement (Stmt q) _ c.args.node.now c.minimize_for_statement.new.node c.in-MinimizeForStatement.is (own (Stmt q) for_own (λ n w r. (falls.leaving any W q n w r).lighter)) c.minimize_for_statement.result c.minimize_for_statement.ensures.tree c.minimize_for_statement.ensures.said

pub returns-in_default : goal.returns-in_default
returns-in_default c W q = left (switches_of c.args.options) W c.args.rule (Stmt q) c.args.node.now (λ small w r l. no_statement (switches_of c.args.options) c.args.rule c.args.node.now w c.in_default.not-DeMorganForVoidExpr c.in_default.not-SubstituteReturnStatement c.in_default.not-TryMinimizeIf c.in_default.not-DropUnreachableSwitchCases c.in_default.not-UnwrapBlock c.in_default.not-MinimizeForStatement c.in_default.not-MinimizeStatements r)

pub returns-in-DeMorganForVoidExpr : goal.returns-in-DeMorganForVoidExpr
returns-in-DeMorganForVoidExpr c W q = told_if_ok (switches_of c.args.options) W c.args.rule name.DeMorganForVoidExpr (Stmt q) _ c.args.node.now c.de_morgan_for_void_expr.new.node c.in-DeMorganForVoidExpr.is (turned q) c.de_morgan_for_void_expr.result c.de_morgan_for_void_expr.ensures.tree c.de_morgan_for_void_expr.ensures.said

pub returns-in-SubstituteReturnStatement : goal.returns-in-SubstituteReturnStatement
returns-in-SubstituteReturnStatement c W q = told_if_ok (switches_of c.args.options) W c.args.rule name.SubstituteReturnStatement (Stmt q) _ c.args.node.now c.substitute_return_statement.new.node c.in-SubstituteReturnStatement.is (returning q (λ n w r. (falls.returning any W q n w r).lighter)) c.substitute_return_statement.result c.substitute_return_statement.ensures.tree c.substitute_return_statement.ensures.said

pub returns-in-MinimizeStatements : goal.returns-in-MinimizeStatements
returns-in-MinimizeStatements c W q = IfOk-weaker c.call_on_list.result _ _ (held_statement (switches_of c.args.options) W c.args.rule q c.args.node.now c.call_on_list.new.node c.in-MinimizeStatements.is) c.call_on_list.ensures
