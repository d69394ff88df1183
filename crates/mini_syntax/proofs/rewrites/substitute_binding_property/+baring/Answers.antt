use Rattle.std.proofs.Common.{◌≡◌, ◌+◌, suc, subst, arith}
use Rattle.mini_node.specs.Children.{with_child}
use Rattle.mini_syntax.proofs.BindingKeys.{Sought, sought_next, sought_found, sought_all, smaller_child}
use Rattle.mini_syntax.proofs.rewrites.substitute_binding_property.+baring.Goals as goal

pub bare_first-bare_part-requires : goal.bare_first-bare_part-requires
bare_first-bare_part-requires t c =
    let small = smaller_child c.loop-at.at c.args.parts.now c.loop-at.parts c.child_mut.result.now (omega arith) c.loop-at.invariant c.child_mut.ensures.value in
    (omega (arith, c.decreases, small), tt)

pub bare_first-returns-then-branch-clause-tree : goal.bare_first-returns-then-branch-clause-tree
bare_first-returns-then-branch-clause-tree t c =
    (sought_found c.loop-at.at c.args.parts.now c.loop-at.parts c.child_mut.result.now c.bare_part.new.node c.in_ok-bare_part.field-0 (omega arith) c.loop-at.invariant c.child_mut.ensures.value c.in_ok-bare_part.ensures.tree c.in_ok-bare_part.ensures.said c.if-branch.true).0

pub bare_first-returns-then-branch-clause-said : goal.bare_first-returns-then-branch-clause-said
bare_first-returns-then-branch-clause-said t c =
    (sought_found c.loop-at.at c.args.parts.now c.loop-at.parts c.child_mut.result.now c.bare_part.new.node c.in_ok-bare_part.field-0 (omega arith) c.loop-at.invariant c.child_mut.ensures.value c.in_ok-bare_part.ensures.tree c.in_ok-bare_part.ensures.said c.if-branch.true).1

pub bare_first-loop-at-preserved : goal.bare_first-loop-at-preserved
bare_first-loop-at-preserved t c =
    let next : suc c.loop-at.at ≡ c.loop-at.at + 1 = omega arith in
    subst (λ k. Sought k c.args.parts.now (with_child c.loop-at.parts c.loop-at.at c.bare_part.new.node)) next
    (sought_next c.loop-at.at c.args.parts.now c.loop-at.parts c.child_mut.result.now c.bare_part.new.node c.in_ok-bare_part.field-0 (omega arith) c.loop-at.invariant c.child_mut.ensures.value c.in_ok-bare_part.ensures.tree c.in_ok-bare_part.ensures.said c.if-branch.false)

pub bare_first-returns-clause-tree : goal.bare_first-returns-clause-tree
bare_first-returns-clause-tree t c = (sought_all c.loop-at.at c.args.parts.now c.loop-at.parts (omega arith) c.loop-at.invariant).0

pub bare_first-returns-clause-said : goal.bare_first-returns-clause-said
bare_first-returns-clause-said t c = (sought_all c.loop-at.at c.args.parts.now c.loop-at.parts (omega arith) c.loop-at.invariant).1
