use Rattle.std.proofs.Common.{◌≡◌, ◌-◌, ap, ◌∙◌, true, arith}
use Rattle.mini_model.specs.Tree.{child_or_absent, count, node_count, absent}
use Rattle.mini_node.specs.Children.{with_child}
use Rattle.mini_node.specs.Kinds.{is_sequence, sequence}
use Rattle.mini_node.specs.Walks.{count_with}
use Rattle.mini_logic.specs.Sequences as end
use Rattle.mini_logic.proofs.SequenceEnds.{several_parts, last_in_not, bared_last, part_within}
use Rattle.mini_logic.proofs.sequences.+without_not.Goals as goal

pub without_not-last-requires : goal.without_not-last-requires
without_not-last-requires t c =
    let is : is_sequence c.args.expression ≡ true = cc (c.if-not-is_sequence.false, c.is_sequence.ensures.kind) in
    let some = several_parts c.args.expression c.take_parts-parts.result is c.take_parts-parts.ensures.parts c.requires in
    let within = part_within c.take_parts-parts.result (c.len-at.result - 1) (omega (arith, some, c.len-at.ensures)) in (
      omega (arith, within, c.take_parts-parts.ensures.fewer, ap node_count c.take.ensures.value),
      ap end.ends_in_not (c.take.ensures.value ∙ ap (λ i. child_or_absent c.take_parts-parts.result (i - 1)) c.len-at.ensures) ∙ last_in_not c.args.expression c.take_parts-parts.result is c.take_parts-parts.ensures.parts c.requires,
    )

pub replace-requires : goal.replace-requires
replace-requires t c =
    let is : is_sequence c.args.expression ≡ true = cc (c.if-not-is_sequence.false, c.is_sequence.ensures.kind) in
    let some = several_parts c.args.expression c.take_parts-parts.result is c.take_parts-parts.ensures.parts c.requires in
    omega (arith, some, c.len-at.ensures, ap count c.take.ensures.rest, count_with c.take_parts-parts.result (c.len-at.result - 1) absent)

pub returns : goal.returns
returns t c =
    let us = c.take_parts-parts.result in
    let at = c.len-at.result - 1 in
    let is : is_sequence c.args.expression ≡ true = cc (c.if-not-is_sequence.false, c.is_sequence.ensures.kind) in
    let some = several_parts c.args.expression us is c.take_parts-parts.ensures.parts c.requires in
    c.put_parts.ensures
    ∙ ap sequence (c.replace.ensures.rest ∙ ap (λ x. with_child x at c.without_not-last.result) c.take.ensures.rest ∙ ap (with_child (with_child us at absent) at) (c.without_not-last.ensures ∙ ap end.end_bared c.take.ensures.value))
    ∙ bared_last c.args.expression us at is c.take_parts-parts.ensures.parts (omega (arith, some, c.len-at.ensures))
