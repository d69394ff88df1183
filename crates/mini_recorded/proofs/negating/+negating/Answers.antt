use Rattle.std.proofs.Common.{◌≡◌, ◌∙◌, sym, subst, arith}
use Rattle.std.specs.Prelude.{IfOk}
use Rattle.mini_model.specs.Position.{operand_seat}
use Rattle.mini_recorded.proofs.Negations.{neg_turned, neg_opposite, neg_unwrapped, neg_other, none_first, negated_next, negated_all}
use Rattle.mini_recorded.proofs.negating.+negating.Goals as goal

pub negated_operands-loop-at-init : goal.negated_operands-loop-at-init
negated_operands-loop-at-init t c = c.in_ok-negated.ensures ∙ none_first (operand_seat c.args.operator c.args.seat) c.args.operands.now

pub negated_operands-loop-at-preserved : goal.negated_operands-loop-at-preserved
negated_operands-loop-at-preserved t c =
    negated_next (operand_seat c.args.operator c.args.seat) c.loop-at.at c.args.operands.now c.loop-at.negated c.push.new.self c.operand-stands.result c.child.result.now c.in_ok-negation_of.field-0 (omega arith) c.loop-at.invariant
    c.operand-stands.ensures c.child.ensures.value c.in_ok-negation_of.ensures c.in_ok-push.ensures.ok

pub negated_operands-returns : goal.negated_operands-returns
negated_operands-returns t c = negated_all (operand_seat c.args.operator c.args.seat) c.loop-at.at c.args.operands.now c.loop-at.negated (omega arith) c.loop-at.invariant

pub negation_of-returns-in-Some : goal.negation_of-returns-in-Some
negation_of-returns-in-Some t c =
    let is = neg_turned c.args.seat c.args.node.now c.in-Some.operator (sym c.turned_operator.ensures ∙ c.in-Some.is) in
    subst (λ u. IfOk c.turned.result (λ w. w ≡ u)) (sym is) c.turned.ensures

pub negation_of-returns-in-Some-opposite_operator : goal.negation_of-returns-in-Some-opposite_operator
negation_of-returns-in-Some-opposite_operator t c =
    let is = neg_opposite c.args.seat c.args.node.now c.in-Some-opposite_operator.operator (sym c.opposite_operator.ensures ∙ c.in-Some-opposite_operator.is) in
    subst (λ u. IfOk c.opposed.result (λ w. w ≡ u)) (sym is) c.opposed.ensures

pub negation_of-returns-then-is_unwrapped : goal.negation_of-returns-then-is_unwrapped
negation_of-returns-then-is_unwrapped t c =
    let is = neg_unwrapped c.args.seat c.args.node.now (sym c.is_unwrapped.ensures ∙ c.if-is_unwrapped.true) in
    subst (λ u. IfOk c.copy_node.result (λ w. w ≡ u)) (c.child.ensures.value ∙ sym is) c.copy_node.ensures

pub negation_of-returns : goal.negation_of-returns
negation_of-returns t c =
    let is = neg_other c.args.seat c.args.node.now (sym c.turned_operator.ensures ∙ c.in_default.is) (sym c.opposite_operator.ensures ∙ c.in_default-opposite_operator.is) (sym c.is_unwrapped.ensures ∙ c.if-is_unwrapped.false) in
    subst (λ u. IfOk c.negation_over.result (λ w. w ≡ u)) (sym is) c.negation_over.ensures
