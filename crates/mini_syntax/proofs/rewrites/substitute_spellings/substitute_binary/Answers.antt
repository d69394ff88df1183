use Rattle.std.proofs.Common.{◌≡◌, subst, true, false}
use Rattle.std.specs.Prelude.{is_some, OnOk, IfOk}
use Rattle.mini_syntax.specs.SubstituteTypeofUndefined as typeof
use Rattle.mini_syntax.specs.Spelled.{equality_written}
use Rattle.mini_syntax.proofs.Applying.{second_written, second_made, first_made, first_said}
use Rattle.mini_syntax.proofs.rewrites.substitute_spellings.substitute_binary.Goals as goal

pub returns-clause-tree : goal.returns-clause-tree
returns-clause-tree c =
    let none : false ≡ is_some (typeof.written c.args.node.now) = cc (c.if-branch.false, c.in_ok-substitute_typeof_undefined.ensures.said) in
    subst (λ x. OnOk c.substitute_equality.result (c.substitute_equality.new.node ≡ x)) (second_made typeof.written equality_written c.args.node.now c.substitute_typeof_undefined.new.node c.in_ok-substitute_typeof_undefined.ensures.tree none) c.substitute_equality.ensures.tree

pub returns-clause-said : goal.returns-clause-said
returns-clause-said c =
    let none : false ≡ is_some (typeof.written c.args.node.now) = cc (c.if-branch.false, c.in_ok-substitute_typeof_undefined.ensures.said) in
    subst (λ x. IfOk c.substitute_equality.result (λ changed. changed ≡ is_some x)) (second_written typeof.written equality_written c.args.node.now c.substitute_typeof_undefined.new.node c.in_ok-substitute_typeof_undefined.ensures.tree none) c.substitute_equality.ensures.said

pub returns-then-branch-clause-tree : goal.returns-then-branch-clause-tree
returns-then-branch-clause-tree c =
    let some : true ≡ is_some (typeof.written c.args.node.now) = cc (c.if-branch.true, c.in_ok-substitute_typeof_undefined.ensures.said) in
    first_made typeof.written equality_written c.args.node.now c.substitute_typeof_undefined.new.node c.in_ok-substitute_typeof_undefined.ensures.tree some

pub returns-then-branch-clause-said : goal.returns-then-branch-clause-said
returns-then-branch-clause-said c =
    let some : true ≡ is_some (typeof.written c.args.node.now) = cc (c.if-branch.true, c.in_ok-substitute_typeof_undefined.ensures.said) in
    first_said typeof.written equality_written c.args.node.now c.substitute_typeof_undefined.new.node some
