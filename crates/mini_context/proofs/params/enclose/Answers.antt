use Rattle.std.proofs.Common.{◌∙◌, sym}
use Rattle.mini_context.proofs.Enclosing.{arrow_enclosed, few_arrow_params, few_params, function_enclosed, unenclosed}
use Rattle.mini_context.proofs.params.enclose.Goals as goal

pub returns-in_default : goal.returns-in_default
returns-in_default c = unenclosed c.args.node.now c.shape.result.now c.args.params.now c.shape.ensures c.in_default.not-Function c.in_default.not-ArrowFunctionExpression

pub returns-in_default-parts : goal.returns-in_default-parts
returns-in_default-parts c = few_params c.args.node.now c.in-Function.field-0 c.in-Function.field-1 _ c.parts.result.now c.args.params.now (sym c.shape.ensures ∙ c.in-Function.is) c.parts.ensures.value c.in_default-parts.len_below

pub returns-in-len2-up : goal.returns-in-len2-up
returns-in-len2-up c = function_enclosed c.args.node.now c.in-Function.field-0 c.in-Function.field-1 _ c.parts.result.now c.list-item.result c.args.params.now c.add_params.new.params (sym c.shape.ensures ∙ c.in-Function.is) c.parts.ensures.value c.in-len2-up.len_at_least c.list-item.is c.add_params.result c.add_params.ensures

pub returns-in-empty : goal.returns-in-empty
returns-in-empty c = few_arrow_params c.args.node.now _ c.parts-in-ArrowFunctionExpression.result.now c.args.params.now (sym c.shape.ensures ∙ c.in-ArrowFunctionExpression.is) c.parts-in-ArrowFunctionExpression.ensures.value c.in-empty.len_below

pub returns-in-len1-up : goal.returns-in-len1-up
returns-in-len1-up c = arrow_enclosed c.args.node.now _ c.parts-in-ArrowFunctionExpression.result.now c.list-item-in-ArrowFunctionExpression.result c.args.params.now c.add_params-in-len1-up.new.params (sym c.shape.ensures ∙ c.in-ArrowFunctionExpression.is) c.parts-in-ArrowFunctionExpression.ensures.value c.in-len1-up.len_at_least c.list-item-in-ArrowFunctionExpression.is c.add_params-in-len1-up.result c.add_params-in-len1-up.ensures
