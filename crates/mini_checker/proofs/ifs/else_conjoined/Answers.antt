use Rattle.std.proofs.Common.{◌∙◌, sym}
use Rattle.std.proofs.lemmas.Result.{IfOk-weaker}
use Rattle.mini_model.specs.declared.operator.LogicalOperator.TheVariants.{And}
use Rattle.mini_node.specs.Children.{part}
use Rattle.mini_log.specs.ChoiceRows.{is_else_branched, joined_by, unnegated}
use Rattle.mini_checker.proofs.Unnegated.{where_it_fits, where_not}
use Rattle.mini_checker.proofs.ifs.else_conjoined.Goals as goal

pub returns-then-is_else_branched : goal.returns-then-is_else_branched
returns-then-is_else_branched c =
    IfOk-weaker c.unnegated_branch.result _ _
    (λ w e. e ∙ sym (where_it_fits (is_else_branched c.args.node.now) (λ a. joined_by And a (part c.args.node.now 2)) (unnegated (part c.args.node.now 0)) (sym c.is_else_branched.ensures.kind ∙ c.if-is_else_branched.true)))
    c.unnegated_branch.ensures

pub returns-else-is_else_branched : goal.returns-else-is_else_branched
returns-else-is_else_branched c = where_not (is_else_branched c.args.node.now) (λ a. joined_by And a (part c.args.node.now 2)) (unnegated (part c.args.node.now 0)) (sym c.is_else_branched.ensures.kind ∙ c.if-is_else_branched.false)
