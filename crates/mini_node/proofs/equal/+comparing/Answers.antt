use Rattle.std.proofs.Common.{◌∙◌, sym, arith}
use Rattle.mini_node.specs.Equal.{same_tree}
use Rattle.mini_node.proofs.Equality.{other_counts, both_first, each_stops, each_goes_on, each_ends}
use Rattle.mini_node.proofs.equal.+comparing.Goals as goal

pub are_same_trees-returns-then-len-count : goal.are_same_trees-returns-then-len-count
are_same_trees-returns-then-len-count t c = sym (other_counts c.args.first.now c.args.second.now (λ e. absurd (grind (arith, e, c.if-len-count.true, c.len.ensures, c.len-count.ensures))))

pub are_same_trees-loop-at-init : goal.are_same_trees-loop-at-init
are_same_trees-loop-at-init t c = both_first c.args.first.now c.args.second.now

pub are_same_trees-returns-then-not-is_same_tree : goal.are_same_trees-returns-then-not-is_same_tree
are_same_trees-returns-then-not-is_same_tree t c =
    each_stops c.args.first.now c.args.second.now c.loop-at.at (omega (arith, c.len-count.ensures)) (grind (arith, c.if-len-count.false, c.len.ensures, c.len-count.ensures))
    (sym (c.is_same_tree.ensures ∙ (λ i. same_tree (c.child.ensures.value i) (c.child-in-loop-at.ensures.value i))) ∙ c.if-not-is_same_tree.true)
    c.loop-at.invariant

pub are_same_trees-loop-at-preserved : goal.are_same_trees-loop-at-preserved
are_same_trees-loop-at-preserved t c =
    each_goes_on c.args.first.now c.args.second.now c.loop-at.at (omega (arith, c.len-count.ensures)) (grind (arith, c.if-len-count.false, c.len.ensures, c.len-count.ensures))
    (sym (c.is_same_tree.ensures ∙ (λ i. same_tree (c.child.ensures.value i) (c.child-in-loop-at.ensures.value i))) ∙ c.if-not-is_same_tree.false)
    c.loop-at.invariant

pub are_same_trees-returns : goal.are_same_trees-returns
are_same_trees-returns t c = each_ends c.args.first.now c.args.second.now c.loop-at.at (omega (arith, c.len-count.ensures)) (grind (arith, c.if-len-count.false, c.len.ensures, c.len-count.ensures)) c.loop-at.invariant
