use Rattle.std.proofs.Common.{true, false, sym, ◌∙◌}
use Rattle.mini_logic.specs.MinimizeExpressionInBooleanContext as boolean
use Rattle.mini_logic.proofs.MinimizeExpressionInBooleanContext.{tree_after, said_after}
use Rattle.mini_logic.proofs.rewrites.minimize_expression_in_boolean_context.minimize_branches.Goals as goal

pub returns-clause-tree : goal.returns-clause-tree
returns-clause-tree c = tree_after c.minimize_branch-2.result (boolean.branch_written c.args.seat true c.args.node.now) (boolean.branch_written c.args.seat false) c.args.node.now c.minimize_branch.new.node c.minimize_branch-2.new.node (sym c.in_ok-minimize_branch.ensures.said ∙ c.if-branch.false) c.in_ok-minimize_branch.ensures.tree c.minimize_branch-2.ensures.tree

pub returns-clause-said : goal.returns-clause-said
returns-clause-said c = said_after c.minimize_branch-2.result (boolean.branch_written c.args.seat true c.args.node.now) (boolean.branch_written c.args.seat false) c.args.node.now c.minimize_branch.new.node (sym c.in_ok-minimize_branch.ensures.said ∙ c.if-branch.false) c.in_ok-minimize_branch.ensures.tree c.minimize_branch-2.ensures.said
