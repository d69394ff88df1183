use Rattle.std.proofs.Common.{◌∙◌, ap, sym, arith}
use Rattle.mini_node.specs.Walks.{from_first}
use Rattle.mini_rows.specs.Lists.{are_unscoped}
use Rattle.mini_recorded.proofs.StatementTests.{unscoped_stops, unscoped_goes_on, unscoped_ends}
use Rattle.mini_recorded.proofs.statements.are_unscoped.Goals as goal

pub loop-at-init : goal.loop-at-init
loop-at-init c = ap are_unscoped (from_first c.args.nodes.now)

pub returns-then-not-is_unscoped : goal.returns-then-not-is_unscoped
returns-then-not-is_unscoped c = unscoped_stops c.args.nodes.now c.loop-at.at c.child.result.now (omega arith) c.child.ensures.value (sym c.is_unscoped.ensures ∙ c.if-not-is_unscoped.true) c.loop-at.invariant

pub loop-at-preserved : goal.loop-at-preserved
loop-at-preserved c = unscoped_goes_on c.args.nodes.now c.loop-at.at c.child.result.now (omega arith) c.child.ensures.value (sym c.is_unscoped.ensures ∙ c.if-not-is_unscoped.false) c.loop-at.invariant

pub returns : goal.returns
returns c = unscoped_ends c.args.nodes.now c.loop-at.at (omega arith) c.loop-at.invariant
