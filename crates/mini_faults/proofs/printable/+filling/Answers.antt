use Rattle.std.proofs.Common.{◌≡◌, false, sym, ap, subst, ◌∙◌, arith}
use Rattle.std.specs.Prelude.{IfOk, option_map}
use Rattle.mini_model.specs.Tree.{count}
use Rattle.mini_node.specs.Children.{trees_of}
use Rattle.mini_print.specs.Groups.{has_gaps}
use Rattle.mini_print.specs.Printed.{are_printable, has_enough}
use Rattle.mini_grammar.specs.Pieces.{least_of, pieces_of}
use Rattle.mini_grammar.specs.Views.{aim_of, goal_of, rule_of}
use Rattle.mini_faults.specs.Wants.{filled, is_negative}
use Rattle.mini_faults.proofs.Filled.{node_within, other_stands, whole_block, whole_list}
use Rattle.mini_faults.proofs.printable.+filling.Goals as goal

pub are_items-is_item-requires : goal.are_items-is_item-requires
are_items-is_item-requires t c = (omega (arith, c.decreases, node_within c.args.items.now c.loop-item.item-index c.item-item.result c.loop-item-test.true c.item-item.is), tt)

pub is_block-returns : goal.is_block-returns
is_block-returns t c =
    let g = goal_of c.args.goal in
    subst (λ b. IfOk c.are_items.result (λ same. same ≡ b))
    (ap (are_printable g false) c.parts.ensures.value ∙ sym (whole_block g c.args.part.now (sym c.is_list.ensures ∙ c.if-not-is_list.false)))
    c.are_items.ensures

pub is_list_part-returns : goal.is_list_part-returns
is_list_part-returns t c =
    let g = goal_of c.args.goal in
    let l = least_of c.args.least in
    subst (λ b. IfOk c.are_items.result (λ same. same ≡ b))
    (ap (λ b. are_printable g b (trees_of c.parts-2.result.now)) c.has_gaps.ensures
    ∙ (ap (are_printable g (has_gaps l)) c.parts-2.ensures.value
    ∙ sym (whole_list g l c.args.part.now (sym c.is_list.ensures ∙ c.if-not-is_list.false) (ap (λ ts. has_enough l (count ts)) (sym c.parts.ensures.value) ∙ (sym c.has_enough.ensures ∙ c.if-not-has_enough.false)))))
    c.are_items.ensures

pub stands-returns : goal.stands-returns
stands-returns t c =
    let h = rule_of c.in-Some.rule in
    subst (λ b. IfOk c.are_filled.result (λ same. same ≡ b))
    (ap (λ ps. filled h ps (trees_of c.parts-2.result.now)) c.pieces_of.ensures.value
    ∙ (ap (filled h (pieces_of h)) c.parts-2.ensures.value
    ∙ sym (other_stands (aim_of c.args.goal) c.args.node.now h (sym c.rule_in.ensures ∙ ap (option_map rule_of) c.in-Some.is) (sym c.is_wanted.ensures ∙ c.if-not-is_wanted.false) (sym c.in_ok-is_sound.ensures ∙ c.if-not-branch.false) (ap is_negative (sym c.shape.ensures) ∙ (sym c.is_negative.ensures ∙ c.if-is_negative.false)))))
    c.are_filled.ensures
