use Rattle.std.proofs.Common.{◌≡◌, subst, true, false}
use Rattle.std.specs.Prelude.{is_some, OnOk, IfOk}
use Rattle.mini_syntax.specs.SubstituteLooseEqualsUndefined as loose
use Rattle.mini_syntax.specs.SubstituteSwapBinaryExpressions as swap
use Rattle.mini_syntax.proofs.Applying.{second_written, second_made, first_made, first_said}
use Rattle.mini_syntax.proofs.rewrites.substitute_spellings.substitute_equality.Goals as goal

pub returns-clause-tree : goal.returns-clause-tree
returns-clause-tree c =
    let none : false ≡ is_some (loose.written c.args.node.now) = cc (c.if-branch.false, c.in_ok-substitute_loose_equals_undefined.ensures.said) in
    subst (λ x. OnOk c.substitute_swap_binary_expressions.result (c.substitute_swap_binary_expressions.new.node ≡ x)) (second_made loose.written swap.written c.args.node.now c.substitute_loose_equals_undefined.new.node c.in_ok-substitute_loose_equals_undefined.ensures.tree none) c.substitute_swap_binary_expressions.ensures.tree

pub returns-clause-said : goal.returns-clause-said
returns-clause-said c =
    let none : false ≡ is_some (loose.written c.args.node.now) = cc (c.if-branch.false, c.in_ok-substitute_loose_equals_undefined.ensures.said) in
    subst (λ x. IfOk c.substitute_swap_binary_expressions.result (λ changed. changed ≡ is_some x)) (second_written loose.written swap.written c.args.node.now c.substitute_loose_equals_undefined.new.node c.in_ok-substitute_loose_equals_undefined.ensures.tree none) c.substitute_swap_binary_expressions.ensures.said

pub returns-then-branch-clause-tree : goal.returns-then-branch-clause-tree
returns-then-branch-clause-tree c =
    let some : true ≡ is_some (loose.written c.args.node.now) = cc (c.if-branch.true, c.in_ok-substitute_loose_equals_undefined.ensures.said) in
    first_made loose.written swap.written c.args.node.now c.substitute_loose_equals_undefined.new.node c.in_ok-substitute_loose_equals_undefined.ensures.tree some

pub returns-then-branch-clause-said : goal.returns-then-branch-clause-said
returns-then-branch-clause-said c =
    let some : true ≡ is_some (loose.written c.args.node.now) = cc (c.if-branch.true, c.in_ok-substitute_loose_equals_undefined.ensures.said) in
    first_said loose.written swap.written c.args.node.now c.substitute_loose_equals_undefined.new.node some
