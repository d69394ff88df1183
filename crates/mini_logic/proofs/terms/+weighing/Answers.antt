use Rattle.std.proofs.Common.{refl, ap, sym, ◌∙◌, arith}
use Rattle.mini_model.specs.declared.place.Position.TheVariants.{Expr}
use Rattle.mini_model.specs.Position.{operand_seat}
use Rattle.mini_model.specs.Tree.{node_count}
use Rattle.mini_model.specs.Weight.{capped, weight}
use Rattle.mini_logic.proofs.Negations.{neg_turned, neg_opposite, neg_unwrapped, neg_other}
use Rattle.mini_logic.proofs.Weights.{negations_from, weight_turned, item_within}
use Rattle.mini_logic.proofs.terms.+weighing.Goals as goal

pub neg_weight-returns-in-Some : goal.neg_weight-returns-in-Some
neg_weight-returns-in-Some t c =
    let is = neg_turned c.args.seat c.args.expression.now c.in-Some.operator (sym c.turned_operator.ensures ∙ c.in-Some.is) in
    c.turned_weight.ensures ∙ ap (λ u. capped (weight (Expr c.args.seat) u)) (sym is)

pub neg_weight-opposite_weight-requires : goal.neg_weight-opposite_weight-requires
neg_weight-opposite_weight-requires t c = sym c.opposite_operator.ensures ∙ c.in-Some-opposite_operator.is

pub neg_weight-returns-in-Some-opposite_operator : goal.neg_weight-returns-in-Some-opposite_operator
neg_weight-returns-in-Some-opposite_operator t c =
    let is = neg_opposite c.args.seat c.args.expression.now c.in-Some-opposite_operator.operator (sym c.opposite_operator.ensures ∙ c.in-Some-opposite_operator.is) in
    c.opposite_weight.ensures ∙ ap (λ u. capped (weight (Expr c.args.seat) u)) (sym is)

pub neg_weight-returns-then-is_unwrapped : goal.neg_weight-returns-then-is_unwrapped
neg_weight-returns-then-is_unwrapped t c =
    let is = neg_unwrapped c.args.seat c.args.expression.now (sym c.is_unwrapped.ensures ∙ c.if-is_unwrapped.true) in
    c.weight.ensures ∙ ap (λ u. capped (weight (Expr c.args.seat) u)) (c.child.ensures.value ∙ sym is)

pub neg_weight-returns : goal.neg_weight-returns
neg_weight-returns t c =
    let is = neg_other c.args.seat c.args.expression.now (sym c.turned_operator.ensures ∙ c.in_default.is) (sym c.opposite_operator.ensures ∙ c.in_default-opposite_operator.is) (sym c.is_unwrapped.ensures ∙ c.if-is_unwrapped.false) in
    c.negation_weight.ensures ∙ ap (λ u. capped (weight (Expr c.args.seat) u)) (sym is)

pub turned_weight-loop-child-init : goal.turned_weight-loop-child-init
turned_weight-loop-child-init t c =
    let whole = weight_turned c.args.operator c.args.seat c.args.expression.now in
    let operands = ap (negations_from (operand_seat c.args.operator c.args.seat) 0) c.parts-child-items.ensures.value in
    record { place = refl; total = ap capped (omega (arith, whole, operands, c.own_weight-total.ensures)); within = omega arith }

pub turned_weight-neg_weight-requires : goal.turned_weight-neg_weight-requires
turned_weight-neg_weight-requires t c =
    let small = item_within c.parts-child-items.result.now c.loop-child.child-index c.child-item.result (omega (arith, c.loop-child-test.true)) in
    (omega (arith, c.decreases, c.parts-child-items.ensures.smaller, small, ap node_count c.child-item.is), tt)
