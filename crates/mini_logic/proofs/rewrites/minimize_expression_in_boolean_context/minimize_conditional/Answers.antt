use Rattle.std.proofs.Common.{◌≡◌, true, sym, ◌∙◌, subst}
use Rattle.std.specs.Prelude.{None, is_some, unwrap_or, OnOk, IfOk, if◌then◌else◌}
use Rattle.mini_logic.specs.MinimizeExpressionInBooleanContext as boolean
use Rattle.mini_logic.proofs.MinimizeExpressionInBooleanContext.{tree_after, said_after, tree_first, said_first}
use Rattle.mini_logic.proofs.rewrites.minimize_expression_in_boolean_context.minimize_conditional.Goals as goal

pub returns-then-branch-clause-tree : goal.returns-then-branch-clause-tree
returns-then-branch-clause-tree c =
    let is = sym c.is_conditional.ensures.kind ∙ c.if-not-is_conditional.false in
    let others = boolean.either (boolean.branches_written c.args.seat c.args.node.now) (boolean.number_written c.args.seat c.args.node.now) in
    let found = tree_first (boolean.truth_written c.args.seat c.args.node.now) others c.args.node.now c.minimize_truth.new.node (sym c.in_ok-minimize_truth.ensures.said ∙ c.if-branch.true) c.in_ok-minimize_truth.ensures.tree in
    subst (λ b. c.minimize_truth.new.node ≡ unwrap_or (if b then boolean.either (boolean.truth_written c.args.seat c.args.node.now) others else None) c.args.node.now) (sym is) found

pub returns-then-branch-clause-said : goal.returns-then-branch-clause-said
returns-then-branch-clause-said c =
    let is = sym c.is_conditional.ensures.kind ∙ c.if-not-is_conditional.false in
    let others = boolean.either (boolean.branches_written c.args.seat c.args.node.now) (boolean.number_written c.args.seat c.args.node.now) in
    let found = said_first (boolean.truth_written c.args.seat c.args.node.now) others (sym c.in_ok-minimize_truth.ensures.said ∙ c.if-branch.true) in
    subst (λ b. true ≡ is_some (if b then boolean.either (boolean.truth_written c.args.seat c.args.node.now) others else None)) (sym is) found

pub returns-clause-tree : goal.returns-clause-tree
returns-clause-tree c =
    let is = sym c.is_conditional.ensures.kind ∙ c.if-not-is_conditional.false in
    let found = tree_after c.minimize_known_branches.result (boolean.truth_written c.args.seat c.args.node.now) (λ u. boolean.either (boolean.branches_written c.args.seat u) (boolean.number_written c.args.seat u)) c.args.node.now c.minimize_truth.new.node c.minimize_known_branches.new.node (sym c.in_ok-minimize_truth.ensures.said ∙ c.if-branch.false) c.in_ok-minimize_truth.ensures.tree c.minimize_known_branches.ensures.tree in
    subst (λ b. OnOk c.minimize_known_branches.result (c.minimize_known_branches.new.node ≡ unwrap_or (if b then boolean.either (boolean.truth_written c.args.seat c.args.node.now) (boolean.either (boolean.branches_written c.args.seat c.args.node.now) (boolean.number_written c.args.seat c.args.node.now)) else None) c.args.node.now)) (sym is) found

pub returns-clause-said : goal.returns-clause-said
returns-clause-said c =
    let is = sym c.is_conditional.ensures.kind ∙ c.if-not-is_conditional.false in
    let found = said_after c.minimize_known_branches.result (boolean.truth_written c.args.seat c.args.node.now) (λ u. boolean.either (boolean.branches_written c.args.seat u) (boolean.number_written c.args.seat u)) c.args.node.now c.minimize_truth.new.node (sym c.in_ok-minimize_truth.ensures.said ∙ c.if-branch.false) c.in_ok-minimize_truth.ensures.tree c.minimize_known_branches.ensures.said in
    subst (λ b. IfOk c.minimize_known_branches.result (λ changed. changed ≡ is_some (if b then boolean.either (boolean.truth_written c.args.seat c.args.node.now) (boolean.either (boolean.branches_written c.args.seat c.args.node.now) (boolean.number_written c.args.seat c.args.node.now)) else None))) (sym is) found
