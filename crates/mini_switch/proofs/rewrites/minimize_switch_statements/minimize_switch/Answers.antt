use Rattle.std.proofs.Common.{◌≡◌, subst}
use Rattle.std.specs.Prelude.{is_some, OnOk, IfOk}
use Rattle.mini_switch.proofs.DeadCases.{first_tree, first_said, second_is, second_tree}
use Rattle.mini_switch.proofs.rewrites.minimize_switch_statements.minimize_switch.Goals as goal

pub returns-then-branch-clause-tree : goal.returns-then-branch-clause-tree
returns-then-branch-clause-tree c = first_tree c.args.node.now c.minimize_switch_statement.new.node c.in_ok-minimize_switch_statement.field-0 c.in_ok-minimize_switch_statement.ensures.tree c.in_ok-minimize_switch_statement.ensures.said c.if-branch.true

pub returns-then-branch-clause-said : goal.returns-then-branch-clause-said
returns-then-branch-clause-said c = first_said c.args.node.now c.minimize_switch_statement.new.node c.in_ok-minimize_switch_statement.field-0 c.in_ok-minimize_switch_statement.ensures.tree c.in_ok-minimize_switch_statement.ensures.said c.if-branch.true

pub returns-clause-tree : goal.returns-clause-tree
returns-clause-tree c = subst (λ y. OnOk c.drop_unreachable_switch_cases.result (c.drop_unreachable_switch_cases.new.node ≡ y)) (second_tree c.args.node.now c.minimize_switch_statement.new.node c.in_ok-minimize_switch_statement.field-0 c.in_ok-minimize_switch_statement.ensures.tree c.in_ok-minimize_switch_statement.ensures.said c.if-branch.false) c.drop_unreachable_switch_cases.ensures.tree

pub returns-clause-said : goal.returns-clause-said
returns-clause-said c = subst (λ o. IfOk c.drop_unreachable_switch_cases.result (λ changed. changed ≡ is_some o)) (second_is c.args.node.now c.minimize_switch_statement.new.node c.in_ok-minimize_switch_statement.field-0 c.in_ok-minimize_switch_statement.ensures.tree c.in_ok-minimize_switch_statement.ensures.said c.if-branch.false) c.drop_unreachable_switch_cases.ensures.said
