use Rattle.std.proofs.Common.{◌≡◌, subst, true, false}
use Rattle.std.specs.Prelude.{is_some, OnOk, IfOk}
use Rattle.mini_syntax.specs.MinimizeAssignmentToUpdateExpression as stepping
use Rattle.mini_syntax.specs.ConvertToDottedProperties as dotted
use Rattle.mini_syntax.proofs.Applying.{second_written, second_made, first_made, first_said}
use Rattle.mini_syntax.proofs.rewrites.substitute_spellings.substitute_assignment.Goals as goal

pub returns-clause-tree : goal.returns-clause-tree
returns-clause-tree c =
    let none : false ≡ is_some (stepping.written c.args.node.now) = cc (c.if-branch.false, c.in_ok-minimize_assignment_to_update_expression.ensures.said) in
    subst (λ x. OnOk c.convert_to_dotted_properties.result (c.convert_to_dotted_properties.new.node ≡ x)) (second_made stepping.written dotted.written c.args.node.now c.minimize_assignment_to_update_expression.new.node c.in_ok-minimize_assignment_to_update_expression.ensures.tree none) c.convert_to_dotted_properties.ensures.tree

pub returns-clause-said : goal.returns-clause-said
returns-clause-said c =
    let none : false ≡ is_some (stepping.written c.args.node.now) = cc (c.if-branch.false, c.in_ok-minimize_assignment_to_update_expression.ensures.said) in
    subst (λ x. IfOk c.convert_to_dotted_properties.result (λ changed. changed ≡ is_some x)) (second_written stepping.written dotted.written c.args.node.now c.minimize_assignment_to_update_expression.new.node c.in_ok-minimize_assignment_to_update_expression.ensures.tree none) c.convert_to_dotted_properties.ensures.said

pub returns-then-branch-clause-tree : goal.returns-then-branch-clause-tree
returns-then-branch-clause-tree c =
    let some : true ≡ is_some (stepping.written c.args.node.now) = cc (c.if-branch.true, c.in_ok-minimize_assignment_to_update_expression.ensures.said) in
    first_made stepping.written dotted.written c.args.node.now c.minimize_assignment_to_update_expression.new.node c.in_ok-minimize_assignment_to_update_expression.ensures.tree some

pub returns-then-branch-clause-said : goal.returns-then-branch-clause-said
returns-then-branch-clause-said c =
    let some : true ≡ is_some (stepping.written c.args.node.now) = cc (c.if-branch.true, c.in_ok-minimize_assignment_to_update_expression.ensures.said) in
    first_said stepping.written dotted.written c.args.node.now c.minimize_assignment_to_update_expression.new.node some
