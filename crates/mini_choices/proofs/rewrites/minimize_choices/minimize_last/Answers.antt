use Rattle.std.proofs.Common.{◌≡◌, subst, true, false}
use Rattle.std.specs.Prelude.{is_some, OnOk, IfOk}
use Rattle.mini_choices.specs.Choices.{decided_last_in, operands_written}
use Rattle.mini_choices.proofs.Choices.{first_made, first_said, second_written, second_made}
use Rattle.mini_choices.proofs.rewrites.minimize_choices.minimize_last.Goals as goal

pub returns-then-branch-clause-tree : goal.returns-then-branch-clause-tree
returns-then-branch-clause-tree c =
    let some : true ≡ is_some (decided_last_in c.args.edition c.args.seat c.args.node.now) = cc (c.if-branch.true, c.in_ok-decide_last.ensures.said) in
    first_made (decided_last_in c.args.edition c.args.seat) (operands_written c.args.edition) c.args.node.now c.decide_last.new.node c.in_ok-decide_last.ensures.tree some

pub returns-then-branch-clause-said : goal.returns-then-branch-clause-said
returns-then-branch-clause-said c =
    let some : true ≡ is_some (decided_last_in c.args.edition c.args.seat c.args.node.now) = cc (c.if-branch.true, c.in_ok-decide_last.ensures.said) in
    first_said (decided_last_in c.args.edition c.args.seat) (operands_written c.args.edition) c.args.node.now c.decide_last.new.node c.in_ok-decide_last.ensures.tree some

pub returns-clause-tree : goal.returns-clause-tree
returns-clause-tree c =
    let none : false ≡ is_some (decided_last_in c.args.edition c.args.seat c.args.node.now) = cc (c.if-branch.false, c.in_ok-decide_last.ensures.said) in
    subst (λ x. OnOk c.minimize_logical.result (c.minimize_logical.new.node ≡ x)) (second_made (decided_last_in c.args.edition c.args.seat) (operands_written c.args.edition) c.args.node.now c.decide_last.new.node c.in_ok-decide_last.ensures.tree none) c.minimize_logical.ensures.tree

pub returns-clause-said : goal.returns-clause-said
returns-clause-said c =
    let none : false ≡ is_some (decided_last_in c.args.edition c.args.seat c.args.node.now) = cc (c.if-branch.false, c.in_ok-decide_last.ensures.said) in
    subst (λ x. IfOk c.minimize_logical.result (λ changed. changed ≡ is_some x)) (second_written (decided_last_in c.args.edition c.args.seat) (operands_written c.args.edition) c.args.node.now c.decide_last.new.node c.in_ok-decide_last.ensures.tree none) c.minimize_logical.ensures.said
