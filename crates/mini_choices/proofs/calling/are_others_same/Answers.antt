use Rattle.std.proofs.Common.{◌∙◌, sym, arith}
use Rattle.mini_node.specs.Equal.{same_tree}
use Rattle.mini_choices.specs.Calling.{are_others_same}
use Rattle.mini_choices.proofs.Calls.{other_counts, from_second, each_stops, each_goes_on, each_ends}
use Rattle.mini_choices.proofs.calling.are_others_same.Goals as goal

pub returns-then-len-count : goal.returns-then-len-count
returns-then-len-count c = other_counts c.args.first.now c.args.second.now c.requires.first_there c.requires.second_there (λ e. absurd (grind (arith, e, c.if-len-count.true, c.len.ensures, c.len-count.ensures)))

pub loop-at-init : goal.loop-at-init
loop-at-init c = from_second c.args.first.now c.args.second.now

pub returns-then-not-is_same_tree : goal.returns-then-not-is_same_tree
returns-then-not-is_same_tree c =
    each_stops c.args.first.now c.args.second.now c.loop-at.at (omega (arith, c.len-count.ensures)) (grind (arith, c.if-len-count.false, c.len.ensures, c.len-count.ensures))
    (sym (c.is_same_tree.ensures ∙ (λ i. same_tree (c.child.ensures.value i) (c.child-in-loop-at.ensures.value i))) ∙ c.if-not-is_same_tree.true)
    (are_others_same c.args.first.now c.args.second.now) c.loop-at.invariant

pub loop-at-preserved : goal.loop-at-preserved
loop-at-preserved c =
    each_goes_on c.args.first.now c.args.second.now c.loop-at.at (omega (arith, c.len-count.ensures)) (grind (arith, c.if-len-count.false, c.len.ensures, c.len-count.ensures))
    (sym (c.is_same_tree.ensures ∙ (λ i. same_tree (c.child.ensures.value i) (c.child-in-loop-at.ensures.value i))) ∙ c.if-not-is_same_tree.false)
    (are_others_same c.args.first.now c.args.second.now) c.loop-at.invariant

pub returns : goal.returns
returns c = each_ends c.args.first.now c.args.second.now c.loop-at.at (omega (arith, c.len-count.ensures)) (grind (arith, c.if-len-count.false, c.len.ensures, c.len-count.ensures)) (are_others_same c.args.first.now c.args.second.now) c.loop-at.invariant
