use Rattle.std.proofs.Common.{◌≡◌, ◌-◌, sym, ap, subst, ◌∙◌, arith}
use Rattle.std.specs.Prelude.{IfOk}
use Rattle.mini_model.specs.Tree.{absent, count, node_count, logical}
use Rattle.mini_model.specs.Position.{branch_seat}
use Rattle.mini_node.specs.Children.{with_child}
use Rattle.mini_node.specs.Kinds.{sequence}
use Rattle.mini_node.specs.Walks.{count_with}
use Rattle.mini_logic.specs.MinimizeNegation.{told}
use Rattle.mini_logic.proofs.SequenceEnds.{part_within}
use Rattle.mini_logic.proofs.WholeForms.{several_parts, told_junction, told_last, told_other}
use Rattle.mini_logic.proofs.whole.+telling.Goals as goal

pub told_negation-returns-in-Some : goal.told_negation-returns-in-Some
told_negation-returns-in-Some t c =
    let is = told_junction c.args.seat c.args.expression c.in-Some.operator (sym c.turned_junction.ensures.kind ∙ c.in-Some.is) in
    let made : logical c.in-Some.operator c.in_ok-first.first c.in_ok-second.second ≡ told c.args.seat c.args.expression
    = cc (is, c.in_ok-first.ensures, c.in_ok-second.ensures, c.two-left.ensures.first, c.two-left.ensures.second, c.left_operand.ensures, c.right_operand.ensures) in
    subst (λ u. IfOk c.logical.result (λ w. w ≡ u)) made c.logical.ensures

pub told_negation-returns : goal.told_negation-returns
told_negation-returns t c =
    let is = told_other c.args.seat c.args.expression (sym c.turned_junction.ensures.kind ∙ c.in_default.is) (sym c.is_several.ensures.kind ∙ c.if-is_several.false) (sym c.reverse_operator.ensures.kind ∙ c.in_default-reverse_operator.is) (sym c.boolean.ensures ∙ c.in_default-boolean.is) in
    subst (λ u. IfOk c.lighter_negation.result (λ w. w ≡ u)) (sym is) c.lighter_negation.ensures

pub told_sequence-told_negation-requires : goal.told_sequence-told_negation-requires
told_sequence-told_negation-requires t c =
    let some = several_parts c.args.expression c.take_parts-parts.result c.requires c.take_parts-parts.ensures.parts in
    let within = part_within c.take_parts-parts.result (c.len-at.result - 1) (omega (arith, some, c.len-at.ensures)) in
    (omega (arith, c.decreases, within, c.take_parts-parts.ensures.fewer, ap node_count c.take.ensures.value), tt)

pub told_sequence-replace-requires : goal.told_sequence-replace-requires
told_sequence-replace-requires t c =
    let some = several_parts c.args.expression c.take_parts-parts.result c.requires c.take_parts-parts.ensures.parts in
    omega (arith, some, c.len-at.ensures, ap count c.take.ensures.rest, count_with c.take_parts-parts.result (c.len-at.result - 1) absent)

pub told_sequence-returns : goal.told_sequence-returns
told_sequence-returns t c =
    let us = c.take_parts-parts.result in
    let at = c.len-at.result - 1 in
    let s = branch_seat c.args.seat in
    let some = several_parts c.args.expression us c.requires c.take_parts-parts.ensures.parts in
    let last = c.in_ok-last.ensures ∙ ap (λ q. told q c.take.result) c.branch-seat.ensures ∙ ap (told s) c.take.ensures.value in
    c.put_parts.ensures
    ∙ ap sequence (c.replace.ensures.rest ∙ ap (λ x. with_child x at c.in_ok-last.last) c.take.ensures.rest ∙ ap (with_child (with_child us at absent) at) last)
    ∙ told_last c.args.seat c.args.expression us at c.requires c.take_parts-parts.ensures.parts (omega (arith, some, c.len-at.ensures))
