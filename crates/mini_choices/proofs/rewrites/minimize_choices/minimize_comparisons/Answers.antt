use Rattle.std.proofs.Common.{◌≡◌, subst, false}
use Rattle.std.specs.Prelude.{is_some, OnOk, IfOk}
use Rattle.mini_choices.specs.MinimizeNullishComparison as nullish
use Rattle.mini_choices.specs.MinimizeObjectTest as object_test
use Rattle.mini_choices.proofs.Choices.{second_written, second_made}
use Rattle.mini_choices.proofs.rewrites.minimize_choices.minimize_comparisons.Goals as goal

pub returns-clause-tree : goal.returns-clause-tree
returns-clause-tree c =
    let none : false ≡ is_some (nullish.written c.args.node.now) = cc (c.if-branch.false, c.in_ok-minimize_nullish_comparison.ensures.said) in
    subst (λ x. OnOk c.minimize_object_test.result (c.minimize_object_test.new.node ≡ x)) (second_made nullish.written object_test.written c.args.node.now c.minimize_nullish_comparison.new.node c.in_ok-minimize_nullish_comparison.ensures.tree none) c.minimize_object_test.ensures.tree

pub returns-clause-said : goal.returns-clause-said
returns-clause-said c =
    let none : false ≡ is_some (nullish.written c.args.node.now) = cc (c.if-branch.false, c.in_ok-minimize_nullish_comparison.ensures.said) in
    subst (λ x. IfOk c.minimize_object_test.result (λ changed. changed ≡ is_some x)) (second_written nullish.written object_test.written c.args.node.now c.minimize_nullish_comparison.new.node c.in_ok-minimize_nullish_comparison.ensures.tree none) c.minimize_object_test.ensures.said
