use Rattle.std.proofs.Common.{◌≡◌, subst, true}
use Rattle.std.specs.Prelude.{IfOk}
use Rattle.mini_node.specs.Kinds.{is_logical}
use Rattle.mini_choices.proofs.LeftJoins.{left_joined}
use Rattle.mini_choices.proofs.joining.+join_with_left_associative_op.Goals as goal

pub returns : goal.returns
returns t c =
    let is : is_logical c.args.operator c.args.second ≡ true = cc (c.if-not-is_logical.false, c.is_logical.ensures.kind) in
    subst (λ x. IfOk c.join_with_left_associative_op-2.result (λ made. made ≡ x)) (left_joined c.args.operator c.args.first c.args.second _ _ c.in_ok-joined.joined is c.two-left.ensures.first c.two-left.ensures.second c.in_ok-joined.ensures) c.join_with_left_associative_op-2.ensures
