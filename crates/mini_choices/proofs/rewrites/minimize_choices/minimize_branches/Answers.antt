use Rattle.std.proofs.Common.{◌≡◌, subst, true, false}
use Rattle.std.specs.Prelude.{is_some, OnOk, IfOk}
use Rattle.mini_choices.specs.Choices.{branches_in}
use Rattle.mini_choices.specs.MinimizeHeldBranches as held
use Rattle.mini_choices.proofs.Choices.{first_made, first_said, second_written, second_made}
use Rattle.mini_choices.proofs.rewrites.minimize_choices.minimize_branches.Goals as goal

pub returns-then-branch-clause-tree : goal.returns-then-branch-clause-tree
returns-then-branch-clause-tree c =
    let some : true ≡ is_some (held.written c.args.seat c.args.node.now) = cc (c.if-branch.true, c.in_ok-minimize_held_branches.ensures.said) in
    first_made (held.written c.args.seat) (branches_in c.args.edition c.args.seat) c.args.node.now c.minimize_held_branches.new.node c.in_ok-minimize_held_branches.ensures.tree some

pub returns-then-branch-clause-said : goal.returns-then-branch-clause-said
returns-then-branch-clause-said c =
    let some : true ≡ is_some (held.written c.args.seat c.args.node.now) = cc (c.if-branch.true, c.in_ok-minimize_held_branches.ensures.said) in
    first_said (held.written c.args.seat) (branches_in c.args.edition c.args.seat) c.args.node.now c.minimize_held_branches.new.node c.in_ok-minimize_held_branches.ensures.tree some

pub returns-clause-tree : goal.returns-clause-tree
returns-clause-tree c =
    let none : false ≡ is_some (held.written c.args.seat c.args.node.now) = cc (c.if-branch.false, c.in_ok-minimize_held_branches.ensures.said) in
    subst (λ x. OnOk c.join_branches.result (c.join_branches.new.node ≡ x)) (second_made (held.written c.args.seat) (branches_in c.args.edition c.args.seat) c.args.node.now c.minimize_held_branches.new.node c.in_ok-minimize_held_branches.ensures.tree none) c.join_branches.ensures.tree

pub returns-clause-said : goal.returns-clause-said
returns-clause-said c =
    let none : false ≡ is_some (held.written c.args.seat c.args.node.now) = cc (c.if-branch.false, c.in_ok-minimize_held_branches.ensures.said) in
    subst (λ x. IfOk c.join_branches.result (λ changed. changed ≡ is_some x)) (second_written (held.written c.args.seat) (branches_in c.args.edition c.args.seat) c.args.node.now c.minimize_held_branches.new.node c.in_ok-minimize_held_branches.ensures.tree none) c.join_branches.ensures.said
