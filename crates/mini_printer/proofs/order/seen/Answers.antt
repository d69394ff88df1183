use Rattle.std.proofs.Common.{sym, ◌∙◌}
use Rattle.std.proofs.lemmas.Result.{IfOk-weaker}
use Rattle.mini_printer.proofs.Orders.{inner_seen, function_seen, arrow_seen, declarator_seen, parts_seen}
use Rattle.mini_printer.proofs.order.seen.Goals as goal

pub returns-in-InnerExpression : goal.returns-in-InnerExpression
returns-in-InnerExpression c = c.inner.ensures ∙ inner_seen c.args.node (sym c.shape.ensures ∙ c.in-InnerExpression.is)

pub returns-in-Function : goal.returns-in-Function
returns-in-Function c = IfOk-weaker c.function.result _ _ (λ k p. p ∙ function_seen c.args.node _ _ _ (sym c.shape.ensures ∙ c.in-Function.is)) c.function.ensures

pub returns-in-ArrowFunctionExpression : goal.returns-in-ArrowFunctionExpression
returns-in-ArrowFunctionExpression c = IfOk-weaker c.arrow.result _ _ (λ k p. p ∙ arrow_seen c.args.node _ (sym c.shape.ensures ∙ c.in-ArrowFunctionExpression.is)) c.arrow.ensures

pub returns-in-VariableDeclarator : goal.returns-in-VariableDeclarator
returns-in-VariableDeclarator c = c.nameless.ensures ∙ declarator_seen c.args.node (sym c.shape.ensures ∙ c.in-VariableDeclarator.is)

pub returns-in_default : goal.returns-in_default
returns-in_default c = IfOk-weaker c.over_parts.result _ _ (λ k p. p ∙ parts_seen c.args.node (λ e. c.in_default.not-InnerExpression (c.shape.ensures ∙ e)) (λ d g ds e. c.in_default.not-Function d g ds (c.shape.ensures ∙ e)) (λ ds e. c.in_default.not-ArrowFunctionExpression ds (c.shape.ensures ∙ e)) (λ e. c.in_default.not-VariableDeclarator (c.shape.ensures ∙ e))) c.over_parts.ensures
