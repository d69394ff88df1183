use Rattle.std.proofs.Common.{◌≡◌, ◌-◌, ap, ◌∙◌, true, false, arith}
use Rattle.mini_model.specs.Tree.{none, children, child_or_absent, count, node_count, absent}
use Rattle.mini_node.specs.Children.{part}
use Rattle.mini_node.specs.Kinds.{is_sequence, sequence}
use Rattle.mini_node.specs.Walks.{count_with}
use Rattle.mini_logic.specs.Sequences as end
use Rattle.mini_logic.proofs.SequenceEnds.{have_some, end_is_last, last_parts, last_parts_end}
use Rattle.mini_logic.proofs.sequences.+split_end.Goals as goal

pub returns-then-not-is_sequence-clause-end : goal.returns-then-not-is_sequence-clause-end
returns-then-not-is_sequence-clause-end t c =
    let some = have_some c.args.parts c.requires in
    let other : is_sequence (child_or_absent c.args.parts (c.len-at.result - 1)) ≡ false = cc (c.if-not-is_sequence.true, c.is_sequence.ensures.kind, c.child.ensures.value) in
    c.remove-end.ensures.value ∙ end_is_last c.args.parts (c.len-at.result - 1) (omega (arith, some, c.len-at.ensures)) other

pub split_end-left-requires : goal.split_end-left-requires
split_end-left-requires t c =
    let some = have_some c.args.parts c.requires in
    let is : is_sequence (child_or_absent c.args.parts (c.len-at.result - 1)) ≡ true = cc (c.if-not-is_sequence.false, c.is_sequence.ensures.kind, c.child.ensures.value) in (
      omega (arith, c.take_parts.ensures.fewer, ap node_count c.take-last.ensures.value, c.child.ensures.smaller, ap node_count c.child.ensures.value),
      ap end.have_end (c.take_parts.ensures.parts ∙ ap (λ x. children (part x 0)) c.take-last.ensures.value) ∙ last_parts c.args.parts (c.len-at.result - 1) c.requires (omega (arith, some, c.len-at.ensures)) is,
    )

pub put_back-requires-clause-within : goal.put_back-requires-clause-within
put_back-requires-clause-within t c =
    let some = have_some c.args.parts c.requires in
    omega (arith, some, c.len-at.ensures, ap count c.take-last.ensures.rest, count_with c.args.parts (c.len-at.result - 1) absent)

pub returns-clause-end : goal.returns-clause-end
returns-clause-end t c =
    let some = have_some c.args.parts c.requires in
    let is : is_sequence (child_or_absent c.args.parts (c.len-at.result - 1)) ≡ true = cc (c.if-not-is_sequence.false, c.is_sequence.ensures.kind, c.child.ensures.value) in
    c.split_end-left.ensures.end
    ∙ ap (end.last_end (sequence none)) (c.take_parts.ensures.parts ∙ ap (λ x. children (part x 0)) c.take-last.ensures.value)
    ∙ last_parts_end c.args.parts (c.len-at.result - 1) c.requires (omega (arith, some, c.len-at.ensures)) is
