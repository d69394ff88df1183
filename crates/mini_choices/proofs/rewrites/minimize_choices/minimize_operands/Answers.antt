use Rattle.std.proofs.Common.{◌≡◌, subst, false}
use Rattle.std.specs.Prelude.{is_some, OnOk, IfOk}
use Rattle.mini_choices.specs.MinimizeNullishComparison as nullish
use Rattle.mini_choices.specs.MinimizeObjectTest as object_test
use Rattle.mini_choices.specs.Choices.{first_of, decided_in}
use Rattle.mini_choices.proofs.Choices.{second_written, second_made}
use Rattle.mini_choices.proofs.rewrites.minimize_choices.minimize_operands.Goals as goal

pub returns-clause-tree : goal.returns-clause-tree
returns-clause-tree c =
    let none : false ≡ is_some (decided_in c.args.edition c.args.node.now) = cc (c.if-branch.false, c.in_ok-decide.ensures.said) in
    subst (λ x. OnOk c.minimize_comparisons.result (c.minimize_comparisons.new.node ≡ x)) (second_made (decided_in c.args.edition) (λ t. first_of (nullish.written t) (object_test.written t)) c.args.node.now c.decide.new.node c.in_ok-decide.ensures.tree none) c.minimize_comparisons.ensures.tree

pub returns-clause-said : goal.returns-clause-said
returns-clause-said c =
    let none : false ≡ is_some (decided_in c.args.edition c.args.node.now) = cc (c.if-branch.false, c.in_ok-decide.ensures.said) in
    subst (λ x. IfOk c.minimize_comparisons.result (λ changed. changed ≡ is_some x)) (second_written (decided_in c.args.edition) (λ t. first_of (nullish.written t) (object_test.written t)) c.args.node.now c.decide.new.node c.in_ok-decide.ensures.tree none) c.minimize_comparisons.ensures.said
