use Rattle.std.proofs.Common.{◌≡◌, ℕ, subst, true, false}
use Rattle.std.specs.Prelude.{Option, is_some, OnOk, IfOk}
use Rattle.mini_choices.specs.EvaluateBothSides as both
use Rattle.mini_model.specs.declared.seat.Seat.{Seat}
use Rattle.mini_model.specs.Tree.{Tree}
use Rattle.mini_choices.specs.Choices.{first_of, decided_last_in, operands_written}
use Rattle.mini_choices.proofs.Choices.{first_made, first_said, second_written, second_made}
use Rattle.mini_choices.proofs.rewrites.minimize_choices.minimize_sides.Goals as goal

abbrev others : ℕ → Seat → Tree → Option Tree
others e s t = first_of (decided_last_in e s t) (operands_written e t)

pub returns-then-branch-clause-tree : goal.returns-then-branch-clause-tree
returns-then-branch-clause-tree c =
    let some : true ≡ is_some (both.written c.args.seat c.args.node.now) = cc (c.if-branch.true, c.in_ok-evaluate_both_sides.ensures.said) in
    first_made (both.written c.args.seat) (others c.args.edition c.args.seat) c.args.node.now c.evaluate_both_sides.new.node c.in_ok-evaluate_both_sides.ensures.tree some

pub returns-then-branch-clause-said : goal.returns-then-branch-clause-said
returns-then-branch-clause-said c =
    let some : true ≡ is_some (both.written c.args.seat c.args.node.now) = cc (c.if-branch.true, c.in_ok-evaluate_both_sides.ensures.said) in
    first_said (both.written c.args.seat) (others c.args.edition c.args.seat) c.args.node.now c.evaluate_both_sides.new.node c.in_ok-evaluate_both_sides.ensures.tree some

pub returns-clause-tree : goal.returns-clause-tree
returns-clause-tree c =
    let none : false ≡ is_some (both.written c.args.seat c.args.node.now) = cc (c.if-branch.false, c.in_ok-evaluate_both_sides.ensures.said) in
    subst (λ x. OnOk c.minimize_last.result (c.minimize_last.new.node ≡ x)) (second_made (both.written c.args.seat) (others c.args.edition c.args.seat) c.args.node.now c.evaluate_both_sides.new.node c.in_ok-evaluate_both_sides.ensures.tree none) c.minimize_last.ensures.tree

pub returns-clause-said : goal.returns-clause-said
returns-clause-said c =
    let none : false ≡ is_some (both.written c.args.seat c.args.node.now) = cc (c.if-branch.false, c.in_ok-evaluate_both_sides.ensures.said) in
    subst (λ x. IfOk c.minimize_last.result (λ changed. changed ≡ is_some x)) (second_written (both.written c.args.seat) (others c.args.edition c.args.seat) c.args.node.now c.evaluate_both_sides.new.node c.in_ok-evaluate_both_sides.ensures.tree none) c.minimize_last.ensures.said
