use Rattle.mini_calls.proofs.OwnBodies.{negated_own}
use Rattle.mini_calls.proofs.OwnChoices as choices
use Rattle.mini_calls.proofs.OwnConstants as constants
use Rattle.mini_calls.proofs.OwnJoined as joined
use Rattle.mini_calls.proofs.OwnLogical as logicals
use Rattle.mini_calls.proofs.OwnOperators as operators
use Rattle.mini_calls.proofs.OwnSpellings as spellings
use Rattle.mini_calls.specs.OwnRows.{negated}
use Rattle.mini_choices.specs.MinimizeNormalAssignmentToCombinedLogicalAssignment.{marked}
use Rattle.mini_model.specs.declared.place.Position.TheVariants.{Expr}
use Rattle.std.proofs.lemmas.Result.{IfOk-weaker}
use Rattle.mini_steps.proofs.Called.{own, weighed, told, told_if_ok, negation_tree, negation_said, truth, sequences_called, arrows_called, objects_called, from_both}
use Rattle.mini_steps.proofs.Families as falls
use Rattle.mini_steps.proofs.Families.{any}
use Rattle.mini_stmt.specs.MinimizeStatements.{switches_of}
use Rattle.mini_steps.specs.declared.names.RuleName.TheVariants as name
use Rattle.mini_steps.proofs.calling.call_on_expression.Goals as goal

pub returns-in-MinimizeUnary : goal.returns-in-MinimizeUnary
returns-in-MinimizeUnary c = told_if_ok (switches_of c.args.context.now.options) (marked c.args.context.now.scopes) c.args.rule name.MinimizeUnary (Expr c.args.seat) (negated c.args.seat) c.args.node.now c.minimize_unary.new.node c.in-MinimizeUnary.is (weighed negated_own c.args.seat) c.minimize_unary.result (negation_tree c.args.seat c.args.node.now c.minimize_unary.new.node c.minimize_unary.result c.minimize_unary.ensures.tree) (negation_said c.args.seat c.args.node.now c.minimize_unary.result c.minimize_unary.ensures.said)

pub returns-in-MinimizeBinary : goal.returns-in-MinimizeBinary
returns-in-MinimizeBinary c = told_if_ok (switches_of c.args.context.now.options) (marked c.args.context.now.scopes) c.args.rule name.MinimizeBinary (Expr c.args.seat) _ c.args.node.now c.minimize_binary.new.node c.in-MinimizeBinary.is (own (Expr c.args.seat) (operators.binary_own c.args.seat) (λ n w r. (falls.binary any (marked c.args.context.now.scopes) c.args.seat n w r).lighter)) c.minimize_binary.result c.minimize_binary.ensures.tree c.minimize_binary.ensures.said

pub returns-in-MinimizeLooseBoolean : goal.returns-in-MinimizeLooseBoolean
returns-in-MinimizeLooseBoolean c = told_if_ok (switches_of c.args.context.now.options) (marked c.args.context.now.scopes) c.args.rule name.MinimizeLooseBoolean (Expr c.args.seat) _ c.args.node.now c.minimize_loose_boolean.new.node c.in-MinimizeLooseBoolean.is (own (Expr c.args.seat) operators.loose_own (λ n w r. (falls.loose_boolean any (marked c.args.context.now.scopes) c.args.seat n w r).lighter)) c.minimize_loose_boolean.result c.minimize_loose_boolean.ensures.tree c.minimize_loose_boolean.ensures.said

pub returns-in-MinimizeBitwiseBinaryExpr : goal.returns-in-MinimizeBitwiseBinaryExpr
returns-in-MinimizeBitwiseBinaryExpr c = told_if_ok (switches_of c.args.context.now.options) (marked c.args.context.now.scopes) c.args.rule name.MinimizeBitwiseBinaryExpr (Expr c.args.seat) _ c.args.node.now c.minimize_bitwise_binary_expr.new.node c.in-MinimizeBitwiseBinaryExpr.is (own (Expr c.args.seat) (operators.bitwise_own c.args.seat) (λ n w r. (falls.bitwise any (marked c.args.context.now.scopes) c.args.seat n w r).lighter)) c.minimize_bitwise_binary_expr.result c.minimize_bitwise_binary_expr.ensures.tree c.minimize_bitwise_binary_expr.ensures.said

pub returns-in-MinimizeNormalAssignmentToCombinedLogicalAssignment : goal.returns-in-MinimizeNormalAssignmentToCombinedLogicalAssignment
returns-in-MinimizeNormalAssignmentToCombinedLogicalAssignment c = told_if_ok (switches_of c.args.context.now.options) (marked c.args.context.now.scopes) c.args.rule name.MinimizeNormalAssignmentToCombinedLogicalAssignment (Expr c.args.seat) _ c.args.node.now c.minimize_normal_assignment_to_combined_logical_assignment.new.node c.in-MinimizeNormalAssignmentToCombinedLogicalAssignment.is (own (Expr c.args.seat) (choices.logical_assignment_own (marked c.args.context.now.scopes)) (λ n w r. (falls.combined_logical any (marked c.args.context.now.scopes) c.args.seat n w r).lighter)) c.minimize_normal_assignment_to_combined_logical_assignment.result c.minimize_normal_assignment_to_combined_logical_assignment.ensures.tree c.minimize_normal_assignment_to_combined_logical_assignment.ensures.said

pub returns-in-MinimizeNormalAssignmentToCombinedAssignment : goal.returns-in-MinimizeNormalAssignmentToCombinedAssignment
returns-in-MinimizeNormalAssignmentToCombinedAssignment c = told_if_ok (switches_of c.args.context.now.options) (marked c.args.context.now.scopes) c.args.rule name.MinimizeNormalAssignmentToCombinedAssignment (Expr c.args.seat) _ c.args.node.now c.minimize_normal_assignment_to_combined_assignment.new.node c.in-MinimizeNormalAssignmentToCombinedAssignment.is (own (Expr c.args.seat) choices.combined_own (λ n w r. (falls.combined any (marked c.args.context.now.scopes) c.args.seat n w r).lighter)) c.minimize_normal_assignment_to_combined_assignment.result c.minimize_normal_assignment_to_combined_assignment.ensures.tree c.minimize_normal_assignment_to_combined_assignment.ensures.said

pub returns-in-MinimizeAssignmentToUpdateExpression : goal.returns-in-MinimizeAssignmentToUpdateExpression
returns-in-MinimizeAssignmentToUpdateExpression c = told_if_ok (switches_of c.args.context.now.options) (marked c.args.context.now.scopes) c.args.rule name.MinimizeAssignmentToUpdateExpression (Expr c.args.seat) _ c.args.node.now c.minimize_assignment_to_update_expression.new.node c.in-MinimizeAssignmentToUpdateExpression.is (own (Expr c.args.seat) spellings.step_own (λ n w r. (falls.stepped any (marked c.args.context.now.scopes) c.args.seat n w r).lighter)) c.minimize_assignment_to_update_expression.result c.minimize_assignment_to_update_expression.ensures.tree c.minimize_assignment_to_update_expression.ensures.said

pub returns-in-MinimizeLogicalExpression : goal.returns-in-MinimizeLogicalExpression
returns-in-MinimizeLogicalExpression c = told_if_ok (switches_of c.args.context.now.options) (marked c.args.context.now.scopes) c.args.rule name.MinimizeLogicalExpression (Expr c.args.seat) _ c.args.node.now c.minimize_logical_expression.new.node c.in-MinimizeLogicalExpression.is (own (Expr c.args.seat) (joined.decision_own (marked c.args.context.now.scopes) c.args.seat) (λ n w r. (falls.decision any (marked c.args.context.now.scopes) c.args.seat n w r).lighter)) c.minimize_logical_expression.result c.minimize_logical_expression.ensures.tree c.minimize_logical_expression.ensures.said

pub returns-in-MinimizeConditionalExpression : goal.returns-in-MinimizeConditionalExpression
returns-in-MinimizeConditionalExpression c = told_if_ok (switches_of c.args.context.now.options) (marked c.args.context.now.scopes) c.args.rule name.MinimizeConditionalExpression (Expr c.args.seat) _ c.args.node.now c.minimize_conditional_expression.new.node c.in-MinimizeConditionalExpression.is (weighed (joined.conditional_own (marked c.args.context.now.scopes)) c.args.seat) c.minimize_conditional_expression.result c.minimize_conditional_expression.ensures.tree c.minimize_conditional_expression.ensures.said

pub returns-in-ConvertToDottedProperties : goal.returns-in-ConvertToDottedProperties
returns-in-ConvertToDottedProperties c = told_if_ok (switches_of c.args.context.now.options) (marked c.args.context.now.scopes) c.args.rule name.ConvertToDottedProperties (Expr c.args.seat) _ c.args.node.now c.convert_to_dotted_properties.new.node c.in-ConvertToDottedProperties.is (own (Expr c.args.seat) spellings.dotted_own (λ n w r. (falls.dotted any (marked c.args.context.now.scopes) c.args.seat n w r).lighter)) c.convert_to_dotted_properties.result c.convert_to_dotted_properties.ensures.tree c.convert_to_dotted_properties.ensures.said

pub returns-in-FoldUnaryExpr : goal.returns-in-FoldUnaryExpr
returns-in-FoldUnaryExpr c = told_if_ok (switches_of c.args.context.now.options) (marked c.args.context.now.scopes) c.args.rule name.FoldUnaryExpr (Expr c.args.seat) _ c.args.node.now c.fold_unary_expr.new.node c.in-FoldUnaryExpr.is (weighed constants.unary_own c.args.seat) c.fold_unary_expr.result c.fold_unary_expr.ensures.tree c.fold_unary_expr.ensures.said

pub returns-in-FoldStaticMemberExpr : goal.returns-in-FoldStaticMemberExpr
returns-in-FoldStaticMemberExpr c = told (switches_of c.args.context.now.options) (marked c.args.context.now.scopes) c.args.rule name.FoldStaticMemberExpr (Expr c.args.seat) _ c.args.node.now c.fold_static_member_expr.new.node c.in-FoldStaticMemberExpr.is (own (Expr c.args.seat) (logicals.length_own c.args.seat) (λ n w r. (falls.length any (marked c.args.context.now.scopes) c.args.seat n w r).lighter)) c.fold_static_member_expr.result c.fold_static_member_expr.ensures.tree c.fold_static_member_expr.ensures.said

pub returns-in-FoldLogicalExpr : goal.returns-in-FoldLogicalExpr
returns-in-FoldLogicalExpr c = told_if_ok (switches_of c.args.context.now.options) (marked c.args.context.now.scopes) c.args.rule name.FoldLogicalExpr (Expr c.args.seat) _ c.args.node.now c.fold_logical_expr.new.node c.in-FoldLogicalExpr.is (own (Expr c.args.seat) (logicals.logical_own c.args.seat) (λ n w r. (falls.logical any (marked c.args.context.now.scopes) c.args.seat n w r).lighter)) c.fold_logical_expr.result c.fold_logical_expr.ensures.tree c.fold_logical_expr.ensures.said

pub returns-in-TryFoldAndOr : goal.returns-in-TryFoldAndOr
returns-in-TryFoldAndOr c = told_if_ok (switches_of c.args.context.now.options) (marked c.args.context.now.scopes) c.args.rule name.TryFoldAndOr (Expr c.args.seat) _ c.args.node.now c.try_fold_and_or.new.node c.in-TryFoldAndOr.is (own (Expr c.args.seat) (logicals.and_or_own c.args.seat) (λ n w r. (falls.and_or any (marked c.args.context.now.scopes) c.args.seat n w r).lighter)) c.try_fold_and_or.result c.try_fold_and_or.ensures.tree c.try_fold_and_or.ensures.said

pub returns-in-TryFoldCoalesce : goal.returns-in-TryFoldCoalesce
returns-in-TryFoldCoalesce c = told (switches_of c.args.context.now.options) (marked c.args.context.now.scopes) c.args.rule name.TryFoldCoalesce (Expr c.args.seat) _ c.args.node.now c.try_fold_coalesce.new.node c.in-TryFoldCoalesce.is (own (Expr c.args.seat) (logicals.coalesce_own c.args.seat) (λ n w r. (falls.coalesce any (marked c.args.context.now.scopes) c.args.seat n w r).lighter)) c.try_fold_coalesce.result c.try_fold_coalesce.ensures.tree c.try_fold_coalesce.ensures.said

pub returns-in-FoldChainExpr : goal.returns-in-FoldChainExpr
returns-in-FoldChainExpr c = told_if_ok (switches_of c.args.context.now.options) (marked c.args.context.now.scopes) c.args.rule name.FoldChainExpr (Expr c.args.seat) _ c.args.node.now c.fold_chain_expr.new.node c.in-FoldChainExpr.is (weighed choices.folded_own c.args.seat) c.fold_chain_expr.result c.fold_chain_expr.ensures.tree c.fold_chain_expr.ensures.said

pub returns-in-FoldBinaryExpr : goal.returns-in-FoldBinaryExpr
returns-in-FoldBinaryExpr c = told_if_ok (switches_of c.args.context.now.options) (marked c.args.context.now.scopes) c.args.rule name.FoldBinaryExpr (Expr c.args.seat) _ c.args.node.now c.fold_binary_expr.new.node c.in-FoldBinaryExpr.is (weighed constants.operator_own c.args.seat) c.fold_binary_expr.result c.fold_binary_expr.ensures.tree c.fold_binary_expr.ensures.said

pub returns-in-FoldBinaryTypeofComparison : goal.returns-in-FoldBinaryTypeofComparison
returns-in-FoldBinaryTypeofComparison c = told_if_ok (switches_of c.args.context.now.options) (marked c.args.context.now.scopes) c.args.rule name.FoldBinaryTypeofComparison (Expr c.args.seat) _ c.args.node.now c.fold_binary_typeof_comparison.new.node c.in-FoldBinaryTypeofComparison.is (own (Expr c.args.seat) operators.typeof_own (λ n w r. (falls.typeof any (marked c.args.context.now.scopes) c.args.seat n w r).lighter)) c.fold_binary_typeof_comparison.result c.fold_binary_typeof_comparison.ensures.tree c.fold_binary_typeof_comparison.ensures.said

pub returns-in-SubstituteTemplateLiteral : goal.returns-in-SubstituteTemplateLiteral
returns-in-SubstituteTemplateLiteral c = told_if_ok (switches_of c.args.context.now.options) (marked c.args.context.now.scopes) c.args.rule name.SubstituteTemplateLiteral (Expr c.args.seat) _ c.args.node.now c.substitute_template_literal.new.node c.in-SubstituteTemplateLiteral.is (own (Expr c.args.seat) spellings.template_own (λ n w r. (falls.template any (marked c.args.context.now.scopes) c.args.seat n w r).lighter)) c.substitute_template_literal.result c.substitute_template_literal.ensures.tree c.substitute_template_literal.ensures.said

pub returns-in-SubstituteTypeofUndefined : goal.returns-in-SubstituteTypeofUndefined
returns-in-SubstituteTypeofUndefined c = told_if_ok (switches_of c.args.context.now.options) (marked c.args.context.now.scopes) c.args.rule name.SubstituteTypeofUndefined (Expr c.args.seat) _ c.args.node.now c.substitute_typeof_undefined.new.node c.in-SubstituteTypeofUndefined.is (own (Expr c.args.seat) spellings.undefined_own (λ n w r. (falls.undefined any (marked c.args.context.now.scopes) c.args.seat n w r).lighter)) c.substitute_typeof_undefined.result c.substitute_typeof_undefined.ensures.tree c.substitute_typeof_undefined.ensures.said

pub returns-in-SubstituteUnaryPlus : goal.returns-in-SubstituteUnaryPlus
returns-in-SubstituteUnaryPlus c = told_if_ok (switches_of c.args.context.now.options) (marked c.args.context.now.scopes) c.args.rule name.SubstituteUnaryPlus (Expr c.args.seat) _ c.args.node.now c.substitute_unary_plus.new.node c.in-SubstituteUnaryPlus.is (own (Expr c.args.seat) operators.plus_own (λ n w r. (falls.plus any (marked c.args.context.now.scopes) c.args.seat n w r).lighter)) c.substitute_unary_plus.result c.substitute_unary_plus.ensures.tree c.substitute_unary_plus.ensures.said

pub returns-in-SubstituteRotateLogicalExpression : goal.returns-in-SubstituteRotateLogicalExpression
returns-in-SubstituteRotateLogicalExpression c = told_if_ok (switches_of c.args.context.now.options) (marked c.args.context.now.scopes) c.args.rule name.SubstituteRotateLogicalExpression (Expr c.args.seat) _ c.args.node.now c.substitute_rotate_logical_expression.new.node c.in-SubstituteRotateLogicalExpression.is (own (Expr c.args.seat) choices.rotated_own (λ n w r. (falls.rotated any (marked c.args.context.now.scopes) c.args.seat n w r).lighter)) c.substitute_rotate_logical_expression.result c.substitute_rotate_logical_expression.ensures.tree c.substitute_rotate_logical_expression.ensures.said

pub returns-in-SubstituteIsObjectAndNotNull : goal.returns-in-SubstituteIsObjectAndNotNull
returns-in-SubstituteIsObjectAndNotNull c = told_if_ok (switches_of c.args.context.now.options) (marked c.args.context.now.scopes) c.args.rule name.SubstituteIsObjectAndNotNull (Expr c.args.seat) _ c.args.node.now c.substitute_is_object_and_not_null.new.node c.in-SubstituteIsObjectAndNotNull.is (own (Expr c.args.seat) choices.object_own (λ n w r. (falls.object_test any (marked c.args.context.now.scopes) c.args.seat n w r).lighter)) c.substitute_is_object_and_not_null.result c.substitute_is_object_and_not_null.ensures.tree c.substitute_is_object_and_not_null.ensures.said

pub returns-in-SubstituteLooseEqualsUndefined : goal.returns-in-SubstituteLooseEqualsUndefined
returns-in-SubstituteLooseEqualsUndefined c = told_if_ok (switches_of c.args.context.now.options) (marked c.args.context.now.scopes) c.args.rule name.SubstituteLooseEqualsUndefined (Expr c.args.seat) _ c.args.node.now c.substitute_loose_equals_undefined.new.node c.in-SubstituteLooseEqualsUndefined.is (own (Expr c.args.seat) spellings.loose_own (λ n w r. (falls.loose any (marked c.args.context.now.scopes) c.args.seat n w r).lighter)) c.substitute_loose_equals_undefined.result c.substitute_loose_equals_undefined.ensures.tree c.substitute_loose_equals_undefined.ensures.said

pub returns-in-SubstituteBoolean : goal.returns-in-SubstituteBoolean
returns-in-SubstituteBoolean c = told_if_ok (switches_of c.args.context.now.options) (marked c.args.context.now.scopes) c.args.rule name.SubstituteBoolean (Expr c.args.seat) _ c.args.node.now c.substitute_boolean.new.node c.in-SubstituteBoolean.is (own (Expr c.args.seat) spellings.boolean_own (λ n w r. (falls.short_boolean any (marked c.args.context.now.scopes) c.args.seat n w r).lighter)) c.substitute_boolean.result c.substitute_boolean.ensures.tree c.substitute_boolean.ensures.said

pub returns-in-SubstituteSwapBinaryExpressions : goal.returns-in-SubstituteSwapBinaryExpressions
returns-in-SubstituteSwapBinaryExpressions c = told_if_ok (switches_of c.args.context.now.options) (marked c.args.context.now.scopes) c.args.rule name.SubstituteSwapBinaryExpressions (Expr c.args.seat) _ c.args.node.now c.substitute_swap_binary_expressions.new.node c.in-SubstituteSwapBinaryExpressions.is (own (Expr c.args.seat) spellings.swap_own (λ n w r. (falls.swapped any (marked c.args.context.now.scopes) c.args.seat n w r).lighter)) c.substitute_swap_binary_expressions.result c.substitute_swap_binary_expressions.ensures.tree c.substitute_swap_binary_expressions.ensures.said

pub returns-in-SubstituteYieldExpression : goal.returns-in-SubstituteYieldExpression
returns-in-SubstituteYieldExpression c = told_if_ok (switches_of c.args.context.now.options) (marked c.args.context.now.scopes) c.args.rule name.SubstituteYieldExpression (Expr c.args.seat) _ c.args.node.now c.substitute_yield_expression.new.node c.in-SubstituteYieldExpression.is (own (Expr c.args.seat) spellings.yield_own (λ n w r. (falls.yielded any (marked c.args.context.now.scopes) c.args.seat n w r).lighter)) c.substitute_yield_expression.result c.substitute_yield_expression.ensures.tree c.substitute_yield_expression.ensures.said

pub returns-in-MinimizeExpressionInBooleanContext : goal.returns-in-MinimizeExpressionInBooleanContext
returns-in-MinimizeExpressionInBooleanContext c = told_if_ok (switches_of c.args.context.now.options) (marked c.args.context.now.scopes) c.args.rule name.MinimizeExpressionInBooleanContext (Expr c.args.seat) _ c.args.node.now c.minimize_expression_in_boolean_context.new.node c.in-MinimizeExpressionInBooleanContext.is (truth c.args.seat) c.minimize_expression_in_boolean_context.result c.minimize_expression_in_boolean_context.ensures.tree c.minimize_expression_in_boolean_context.ensures.said

pub returns-in-FoldSequenceExpression : goal.returns-in-FoldSequenceExpression
returns-in-FoldSequenceExpression c = IfOk-weaker c.fold_sequence_expression.result _ _ (sequences_called (switches_of c.args.context.now.options) (marked c.args.context.now.scopes) c.args.rule c.args.seat c.args.node.now c.fold_sequence_expression.new.node c.in-FoldSequenceExpression.is) c.fold_sequence_expression.ensures

pub returns-in-SubstituteArrowExpression : goal.returns-in-SubstituteArrowExpression
returns-in-SubstituteArrowExpression c = from_both c.substitute_arrow_expression.result (arrows_called (switches_of c.args.context.now.options) (marked c.args.context.now.scopes) c.args.rule c.args.seat c.args.node.now c.substitute_arrow_expression.new.node c.in-SubstituteArrowExpression.is) c.substitute_arrow_expression.ensures.tree c.substitute_arrow_expression.ensures.said

pub returns-in-SubstituteObjectProperty : goal.returns-in-SubstituteObjectProperty
returns-in-SubstituteObjectProperty c = from_both c.substitute_object_property.result (objects_called (switches_of c.args.context.now.options) (marked c.args.context.now.scopes) c.args.rule c.args.seat c.args.node.now c.substitute_object_property.new.node c.in-SubstituteObjectProperty.is) c.substitute_object_property.ensures.tree c.substitute_object_property.ensures.said
