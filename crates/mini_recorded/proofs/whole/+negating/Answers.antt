use Rattle.std.proofs.Common.{◌≡◌, ◌-◌, ◌∙◌, ap, sym, subst, arith}
use Rattle.std.specs.Prelude.{IfOk}
use Rattle.mini_model.specs.Position.{branch_seat}
use Rattle.mini_model.specs.Terms.{not_of}
use Rattle.mini_model.specs.Tree.{children}
use Rattle.mini_node.specs.Kinds.{sequence}
use Rattle.mini_rows.specs.Negations.{last_by}
use Rattle.mini_recorded.proofs.Wholes.{of_junction, of_several, of_reversed, of_literal, of_other, last_whole}
use Rattle.mini_recorded.proofs.whole.+negating.Goals as goal

pub whole-returns-in-Some : goal.whole-returns-in-Some
whole-returns-in-Some t c =
    let is = of_junction c.args.seat c.args.node.now c.in-Some.operator (sym c.turned_junction.ensures.kind ∙ c.in-Some.is) in
    subst (λ u. IfOk c.whole_sides.result (λ w. w ≡ u)) (sym is) c.whole_sides.ensures

pub whole-returns-then-is_several : goal.whole-returns-then-is_several
whole-returns-then-is_several t c =
    let is = of_several c.args.seat c.args.node.now (sym c.is_several.ensures.kind ∙ c.if-is_several.true) in
    let parts = c.children.ensures ∙ ap children c.child.ensures.value in
    subst (λ u. IfOk c.whole_sequence.result (λ w. w ≡ u)) (ap (λ us. sequence (last_by not_of (branch_seat c.args.seat) us)) parts ∙ sym is) c.whole_sequence.ensures

pub whole-returns-in-Some-reverse_operator : goal.whole-returns-in-Some-reverse_operator
whole-returns-in-Some-reverse_operator t c =
    let is = of_reversed c.args.seat c.args.node.now c.in-Some-reverse_operator.operator (sym c.turned_junction.ensures.kind ∙ c.in_default.is) (sym c.is_several.ensures.kind ∙ c.if-is_several.false) (sym c.reverse_operator.ensures.kind ∙ c.in-Some-reverse_operator.is) in
    subst (λ u. IfOk c.binary_of.result (λ w. w ≡ u)) (cc (c.child-in-Some-reverse_operator.ensures.value, c.child-in-Some-reverse_operator-2.ensures.value, is)) c.binary_of.ensures

pub whole-returns-in-Some-boolean : goal.whole-returns-in-Some-boolean
whole-returns-in-Some-boolean t c =
    c.boolean_literal.ensures ∙ sym (of_literal c.args.seat c.args.node.now c.in-Some-boolean.value (sym c.turned_junction.ensures.kind ∙ c.in_default.is) (sym c.is_several.ensures.kind ∙ c.if-is_several.false) (sym c.reverse_operator.ensures.kind ∙ c.in_default-reverse_operator.is) (sym c.boolean.ensures ∙ c.in-Some-boolean.is))

pub whole-returns : goal.whole-returns
whole-returns t c =
    let is = of_other c.args.seat c.args.node.now (sym c.turned_junction.ensures.kind ∙ c.in_default.is) (sym c.is_several.ensures.kind ∙ c.if-is_several.false) (sym c.reverse_operator.ensures.kind ∙ c.in_default-reverse_operator.is) (sym c.boolean.ensures ∙ c.in_default-boolean.is) in
    subst (λ u. IfOk c.not_of.result (λ w. w ≡ u)) (sym is) c.not_of.ensures

pub whole_sequence-returns : goal.whole_sequence-returns
whole_sequence-returns t c =
    subst (λ u. IfOk c.sequence.result (λ w. w ≡ u))
    (last_whole c.args.seat c.branch-seat.result c.args.parts.now c.in_ok-copies.copies c.replace.new.self (c.len-at.result - 1) c.child.result.now c.in_ok-last.last (omega (arith, c.len-at.ensures, c.requires)) c.branch-seat.ensures c.child.ensures.value c.in_ok-last.ensures c.in_ok-copies.ensures c.replace.ensures.rest)
    c.sequence.ensures
