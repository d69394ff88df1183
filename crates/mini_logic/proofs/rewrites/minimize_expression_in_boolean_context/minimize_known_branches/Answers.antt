use Rattle.std.proofs.Common.{sym, ◌∙◌}
use Rattle.mini_logic.specs.MinimizeExpressionInBooleanContext as boolean
use Rattle.mini_logic.proofs.MinimizeExpressionInBooleanContext.{tree_after, said_after}
use Rattle.mini_logic.proofs.rewrites.minimize_expression_in_boolean_context.minimize_known_branches.Goals as goal

pub returns-clause-tree : goal.returns-clause-tree
returns-clause-tree c = tree_after c.minimize_number.result (boolean.branches_written c.args.seat c.args.node.now) (boolean.number_written c.args.seat) c.args.node.now c.minimize_branches.new.node c.minimize_number.new.node (sym c.in_ok-minimize_branches.ensures.said ∙ c.if-branch.false) c.in_ok-minimize_branches.ensures.tree c.minimize_number.ensures.tree

pub returns-clause-said : goal.returns-clause-said
returns-clause-said c = said_after c.minimize_number.result (boolean.branches_written c.args.seat c.args.node.now) (boolean.number_written c.args.seat) c.args.node.now c.minimize_branches.new.node (sym c.in_ok-minimize_branches.ensures.said ∙ c.if-branch.false) c.in_ok-minimize_branches.ensures.tree c.minimize_number.ensures.said
