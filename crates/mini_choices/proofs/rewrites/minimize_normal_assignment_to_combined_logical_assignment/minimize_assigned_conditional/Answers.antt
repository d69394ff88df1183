use Rattle.std.proofs.Common.{◌≡◌, subst, true, false}
use Rattle.std.specs.Prelude.{is_some, OnOk, IfOk}
use Rattle.mini_choices.specs.InjectAssignedChaining as chains
use Rattle.mini_choices.specs.MinimizeAssignedComparison as compare
use Rattle.mini_choices.specs.MinimizeNormalAssignmentToCombinedLogicalAssignment.{marked}
use Rattle.mini_choices.proofs.Choices.{first_made, first_said, second_written, second_made}
use Rattle.mini_choices.proofs.rewrites.minimize_normal_assignment_to_combined_logical_assignment.minimize_assigned_conditional.Goals as goal

pub returns-then-branch-clause-tree : goal.returns-then-branch-clause-tree
returns-then-branch-clause-tree c =
    let some : true ≡ is_some (compare.written (marked c.args.scopes.now) c.args.node.now) = cc (c.if-branch.true, c.in_ok-minimize_assigned_comparison.ensures.said) in
    first_made (compare.written (marked c.args.scopes.now)) (chains.written (marked c.args.scopes.now) c.args.seat) c.args.node.now c.minimize_assigned_comparison.new.node c.in_ok-minimize_assigned_comparison.ensures.tree some

pub returns-then-branch-clause-said : goal.returns-then-branch-clause-said
returns-then-branch-clause-said c =
    let some : true ≡ is_some (compare.written (marked c.args.scopes.now) c.args.node.now) = cc (c.if-branch.true, c.in_ok-minimize_assigned_comparison.ensures.said) in
    first_said (compare.written (marked c.args.scopes.now)) (chains.written (marked c.args.scopes.now) c.args.seat) c.args.node.now c.minimize_assigned_comparison.new.node c.in_ok-minimize_assigned_comparison.ensures.tree some

pub returns-clause-tree : goal.returns-clause-tree
returns-clause-tree c =
    let none : false ≡ is_some (compare.written (marked c.args.scopes.now) c.args.node.now) = cc (c.if-branch.false, c.in_ok-minimize_assigned_comparison.ensures.said) in
    subst (λ x. OnOk c.inject_assigned_chaining.result (c.inject_assigned_chaining.new.node ≡ x)) (second_made (compare.written (marked c.args.scopes.now)) (chains.written (marked c.args.scopes.now) c.args.seat) c.args.node.now c.minimize_assigned_comparison.new.node c.in_ok-minimize_assigned_comparison.ensures.tree none) c.inject_assigned_chaining.ensures.tree

pub returns-clause-said : goal.returns-clause-said
returns-clause-said c =
    let none : false ≡ is_some (compare.written (marked c.args.scopes.now) c.args.node.now) = cc (c.if-branch.false, c.in_ok-minimize_assigned_comparison.ensures.said) in
    subst (λ x. IfOk c.inject_assigned_chaining.result (λ changed. changed ≡ is_some x)) (second_written (compare.written (marked c.args.scopes.now)) (chains.written (marked c.args.scopes.now) c.args.seat) c.args.node.now c.minimize_assigned_comparison.new.node c.in_ok-minimize_assigned_comparison.ensures.tree none) c.inject_assigned_chaining.ensures.said
