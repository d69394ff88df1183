use Rattle.std.proofs.Common.{◌≡◌, subst, true, false}
use Rattle.std.specs.Prelude.{is_some, OnOk, IfOk}
use Rattle.mini_choices.specs.MinimizeHeldBranches as held
use Rattle.mini_choices.specs.Choices.{first_of, chains_in, branches_in}
use Rattle.mini_choices.proofs.Choices.{first_made, first_said, second_written, second_made}
use Rattle.mini_choices.proofs.rewrites.minimize_choices.minimize_conditional.Goals as goal

pub returns-then-branch-clause-tree : goal.returns-then-branch-clause-tree
returns-then-branch-clause-tree c =
    let some : true ≡ is_some (chains_in c.args.edition c.args.seat c.args.node.now) = cc (c.if-branch.true, c.in_ok-inject_chaining.ensures.said) in
    first_made (chains_in c.args.edition c.args.seat) (λ t. first_of (held.written c.args.seat t) (branches_in c.args.edition c.args.seat t)) c.args.node.now c.inject_chaining.new.node c.in_ok-inject_chaining.ensures.tree some

pub returns-then-branch-clause-said : goal.returns-then-branch-clause-said
returns-then-branch-clause-said c =
    let some : true ≡ is_some (chains_in c.args.edition c.args.seat c.args.node.now) = cc (c.if-branch.true, c.in_ok-inject_chaining.ensures.said) in
    first_said (chains_in c.args.edition c.args.seat) (λ t. first_of (held.written c.args.seat t) (branches_in c.args.edition c.args.seat t)) c.args.node.now c.inject_chaining.new.node c.in_ok-inject_chaining.ensures.tree some

pub returns-clause-tree : goal.returns-clause-tree
returns-clause-tree c =
    let none : false ≡ is_some (chains_in c.args.edition c.args.seat c.args.node.now) = cc (c.if-branch.false, c.in_ok-inject_chaining.ensures.said) in
    subst (λ x. OnOk c.minimize_branches.result (c.minimize_branches.new.node ≡ x)) (second_made (chains_in c.args.edition c.args.seat) (λ t. first_of (held.written c.args.seat t) (branches_in c.args.edition c.args.seat t)) c.args.node.now c.inject_chaining.new.node c.in_ok-inject_chaining.ensures.tree none) c.minimize_branches.ensures.tree

pub returns-clause-said : goal.returns-clause-said
returns-clause-said c =
    let none : false ≡ is_some (chains_in c.args.edition c.args.seat c.args.node.now) = cc (c.if-branch.false, c.in_ok-inject_chaining.ensures.said) in
    subst (λ x. IfOk c.minimize_branches.result (λ changed. changed ≡ is_some x)) (second_written (chains_in c.args.edition c.args.seat) (λ t. first_of (held.written c.args.seat t) (branches_in c.args.edition c.args.seat t)) c.args.node.now c.inject_chaining.new.node c.in_ok-inject_chaining.ensures.tree none) c.minimize_branches.ensures.said
