use Rattle.std.proofs.Common.{◌≡◌, ◌+◌, suc, ◌∙◌, ap, sym, subst, arith}
use Rattle.std.specs.Prelude.{IfOk}
use Rattle.mini_model.specs.Tree.{node_count}
use Rattle.mini_model.specs.Position.{operand_seat}
use Rattle.mini_model.specs.Terms.{neg}
use Rattle.mini_logic.specs.Negating.{first_negated}
use Rattle.mini_logic.proofs.Negations.{neg_turned, neg_opposite, neg_unwrapped, neg_other, negated_next, negated_all, next_within, still_there, count_with}
use Rattle.mini_logic.proofs.terms.+negating.Goals as goal

pub negate_each-child_mut-requires : goal.negate_each-child_mut-requires
negate_each-child_mut-requires t c =
    let many = still_there (operand_seat c.args.operator c.args.seat) c.loop-at.at c.args.operands.now c.loop-at.operands c.loop-at.invariant in
    omega (arith, many)

pub negate_each-negated-requires : goal.negate_each-negated-requires
negate_each-negated-requires t c =
    let small = next_within (operand_seat c.args.operator c.args.seat) c.loop-at.at c.args.operands.now c.loop-at.operands (omega arith) c.loop-at.invariant in
    let same = ap node_count (c.taken-operand_at.ensures.value ∙ c.child_mut.ensures.value) in
    (omega (arith, c.decreases, small, same), tt)

pub negate_each-replace-requires : goal.negate_each-replace-requires
negate_each-replace-requires t c =
    let many = still_there (operand_seat c.args.operator c.args.seat) c.loop-at.at c.args.operands.now c.loop-at.operands c.loop-at.invariant in
    omega (arith, many, count_with c.loop-at.operands c.loop-at.at c.taken-operand_at.new.node)

pub negate_each-loop-at-preserved : goal.negate_each-loop-at-preserved
negate_each-loop-at-preserved t c =
    let σ = operand_seat c.args.operator c.args.seat in
    let is = c.in_ok-other.ensures ∙ ap (λ s. neg s c.taken-operand_at.result) c.operand.ensures ∙ ap (neg (σ c.loop-at.at)) (c.taken-operand_at.ensures.value ∙ c.child_mut.ensures.value) in
    let next : suc c.loop-at.at ≡ c.loop-at.at + 1 = omega arith in
    c.replace.ensures.rest ∙ negated_next σ c.loop-at.at c.args.operands.now c.loop-at.operands c.taken-operand_at.new.node c.in_ok-other.other (omega arith) c.loop-at.invariant is ∙ ap (λ k. first_negated σ k c.args.operands.now) next

pub negate_each-returns : goal.negate_each-returns
negate_each-returns t c = negated_all (operand_seat c.args.operator c.args.seat) c.loop-at.at c.args.operands.now c.loop-at.operands (omega arith) c.loop-at.invariant

pub negated-returns-in-Some : goal.negated-returns-in-Some
negated-returns-in-Some t c =
    let is = neg_turned c.args.seat c.args.expression c.in-Some.operator (sym c.turned_operator.ensures ∙ c.in-Some.is) in
    subst (λ u. IfOk c.turned.result (λ w. w ≡ u)) (sym is) c.turned.ensures

pub negated-returns-in-Some-opposite_operator : goal.negated-returns-in-Some-opposite_operator
negated-returns-in-Some-opposite_operator t c =
    c.reshaped.ensures ∙ sym (neg_opposite c.args.seat c.args.expression c.in-Some-opposite_operator.operator (sym c.opposite_operator.ensures ∙ c.in-Some-opposite_operator.is))

pub negated-returns-then-is_unwrapped : goal.negated-returns-then-is_unwrapped
negated-returns-then-is_unwrapped t c =
    c.one.ensures.value ∙ sym (neg_unwrapped c.args.seat c.args.expression (sym c.is_unwrapped.ensures ∙ c.if-is_unwrapped.true))

pub negated-returns : goal.negated-returns
negated-returns t c =
    let is = neg_other c.args.seat c.args.expression (sym c.turned_operator.ensures ∙ c.in_default.is) (sym c.opposite_operator.ensures ∙ c.in_default-opposite_operator.is) (sym c.is_unwrapped.ensures ∙ c.if-is_unwrapped.false) in
    subst (λ u. IfOk c.negation.result (λ w. w ≡ u)) (sym is) c.negation.ensures
