use Rattle.std.proofs.Common.{◌∙◌, ap, sym, arith}
use Rattle.std.specs.Prelude.{not}
use Rattle.mini_model.specs.Tree.{child_or_absent}
use Rattle.mini_node.specs.Walks.{from_first}
use Rattle.mini_rows.specs.Lists.{is_unscoped, are_unscoped}
use Rattle.mini_stmt.proofs.Parts.{not_true, not_false}
use Rattle.mini_stmt.proofs.Parts.{unscoped_stops, unscoped_goes_on, unscoped_ends}
use Rattle.mini_stmt.proofs.terms.are_unscoped.Goals as goal

pub loop-at-init : goal.loop-at-init
loop-at-init c = ap are_unscoped (from_first c.args.nodes.now)

pub returns-then-statement_cares_about_scope : goal.returns-then-statement_cares_about_scope
returns-then-statement_cares_about_scope c = unscoped_stops c.args.nodes.now c.loop-at.at (omega arith) (not_true (is_unscoped (child_or_absent c.args.nodes.now c.loop-at.at)) (sym (c.statement_cares_about_scope.ensures ∙ ap (λ t. not (is_unscoped t)) c.child.ensures.value) ∙ c.if-statement_cares_about_scope.true)) c.loop-at.invariant

pub loop-at-preserved : goal.loop-at-preserved
loop-at-preserved c = unscoped_goes_on c.args.nodes.now c.loop-at.at (omega arith) (not_false (is_unscoped (child_or_absent c.args.nodes.now c.loop-at.at)) (sym (c.statement_cares_about_scope.ensures ∙ ap (λ t. not (is_unscoped t)) c.child.ensures.value) ∙ c.if-statement_cares_about_scope.false)) c.loop-at.invariant

pub returns : goal.returns
returns c = unscoped_ends c.args.nodes.now c.loop-at.at (omega arith) c.loop-at.invariant
