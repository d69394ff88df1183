use Rattle.std.proofs.Common.{◌<◌, ◌∙◌, ap, length, take, arith}
use Rattle.std.proofs.lemmas.Result.{on_ok_weaker}
use Rattle.mini_model.specs.Tree.{count}
use Rattle.mini_scope.specs.ScopeAt.{scope_at}
use Rattle.mini_context.proofs.Surveys.{child_falls}
use Rattle.mini_context.proofs.Listings.{none_below, none_in_child}
use Rattle.mini_context.proofs.Patterns.{around_begins, leaf_lists, leaf_marks, node_lists, node_marks, walk_begins, walk_lists, walk_marks, walk_turns}
use Rattle.mini_context.proofs.listing.+listing.Goals as goal

pub list_below-loop-at-init : goal.list_below-loop-at-init
list_below-loop-at-init t c = walk_begins c.args.reading c.args.node.now c.args.scopes.now c.children-nodes.result.now c.args.tables.now c.args.environment.now c.args.pattern_writes.now.items c.args.may_eval c.children-nodes.ensures c.requires

pub list_below-list_scopes-requires : goal.list_below-list_scopes-requires
list_below-list_scopes-requires t c =
    let inside : c.loop-at.at < count c.children-nodes.result.now = omega arith in
    (omega (arith, c.decreases, child_falls c.args.node.now c.children-nodes.result.now c.loop-at.at c.child-child.result.now c.children-nodes.ensures inside c.child-child.ensures.value), none_in_child _ c.children-nodes.result.now c.loop-at.at c.child-child.result.now c.in_ok-may_eval.ensures.evals inside c.child-child.ensures.value)

pub list_scopes-list_below-listed-requires : goal.list_scopes-list_below-listed-requires
list_scopes-list_below-listed-requires t c = (omega (arith, c.decreases), none_below c.args.may_eval c.args.node.now c.requires)

pub list_below-loop-at-preserved : goal.list_below-loop-at-preserved
list_below-loop-at-preserved t c =
    let inside : c.loop-at.at < count c.children-nodes.result.now = omega arith in
    walk_turns c.args.reading c.args.node.now (scope_at c.args.scopes.now) c.children-nodes.result.now c.loop-at.at c.loop-at.scopes c.take-scope.new.self c.args.tables.now c.loop-at.tables c.push_entered.new.tables c.list_scopes.new.tables c.args.environment.now c.loop-at.environment c.enter_scope.new.environment c.list_scopes.new.environment c.args.pattern_writes.now.items c.loop-at.pattern_writes.items c.list_scopes.new.pattern_writes.items
    c.as_slice.result.now c.take-scope.result.items c.least_scopes-least.result c.shape-in-loop-at.result.now c.shape.result.now c.is_strict_in-strict.result c.reading_below-stands.result c.child-child.result.now c.loop-at.may_eval _
    c.loop-at.invariant inside c.take-scope.ensures.value c.as_slice.ensures.value c.take-scope.ensures.rest
    c.least_scopes-least.ensures c.shape-in-loop-at.ensures c.is_strict_in-strict.ensures c.shape.ensures c.reading_below-stands.ensures c.child-child.ensures.value
    c.in_ok-may_eval.ensures.listed c.in_ok-enter_scope.ensures c.in_ok-list_scopes.ensures.listed c.in_ok-list_scopes.ensures.patterns c.in_ok-list_scopes.ensures.left c.in_ok-may_eval.ensures.evals

pub list_below-returns-clause-listed : goal.list_below-returns-clause-listed
list_below-returns-clause-listed t c = walk_lists c.args.reading c.args.node.now (scope_at c.args.scopes.now) c.children-nodes.result.now c.loop-at.at _ _ _ _ _ _ _ _ c.loop-at.invariant c.children-nodes.ensures (omega arith)

pub list_below-returns-clause-patterns : goal.list_below-returns-clause-patterns
list_below-returns-clause-patterns t c = walk_marks c.args.reading c.args.node.now (scope_at c.args.scopes.now) c.children-nodes.result.now c.loop-at.at _ _ _ _ _ _ _ _ c.loop-at.invariant c.children-nodes.ensures (omega arith)

pub list_below-returns-clause-around : goal.list_below-returns-clause-around
list_below-returns-clause-around t c = ap (take (length c.args.environment.now)) c.loop-at.invariant.declared ∙ around_begins (scope_at c.args.scopes.now) c.args.environment.now c.loop-at.at

pub list_scopes-returns-clause-listed : goal.list_scopes-returns-clause-listed
list_scopes-returns-clause-listed t c = on_ok_weaker c.list_below-listed.result (node_lists c.args.reading.usage c.args.reading.strict c.args.node.now c.in_ok-scopes.scopes _ _ c.in_ok-scopes.ensures) c.list_below-listed.ensures.listed

pub list_scopes-returns-clause-patterns : goal.list_scopes-returns-clause-patterns
list_scopes-returns-clause-patterns t c = on_ok_weaker c.list_below-listed.result (node_marks c.args.reading.usage c.args.environment.now c.args.node.now c.in_ok-scopes.scopes _ _ _ c.in_ok-scopes.ensures c.in_ok-mark_pattern_writes.ensures) c.list_below-listed.ensures.patterns

pub list_scopes-returns-clause-left : goal.list_scopes-returns-clause-left
list_scopes-returns-clause-left t c = on_ok_weaker c.list_below-listed.result (λ e. c.leave.ensures ∙ ap (λ n. take n c.list_below-listed.new.environment) c.len-around.ensures ∙ e) c.list_below-listed.ensures.around

pub list_scopes-returns-then-is_leaf-clause-listed : goal.list_scopes-returns-then-is_leaf-clause-listed
list_scopes-returns-then-is_leaf-clause-listed t c = leaf_lists c.args.reading.usage c.args.reading.strict c.args.node.now c.args.tables.now (c.is_leaf.ensures c.if-is_leaf.true)

pub list_scopes-returns-then-is_leaf-clause-patterns : goal.list_scopes-returns-then-is_leaf-clause-patterns
list_scopes-returns-then-is_leaf-clause-patterns t c = leaf_marks c.args.reading.usage c.args.environment.now c.args.node.now _ _ (c.is_leaf.ensures c.if-is_leaf.true) c.in_ok-mark_pattern_writes.ensures
