use Rattle.std.proofs.Common.{◌∙◌, ap, sym, arith}
use Rattle.mini_node.specs.Walks.{from_first}
use Rattle.mini_rows.specs.Chains.{is_calm, are_calm}
use Rattle.mini_unused.proofs.CalmParts.{calm_stops, calm_goes_on, calm_ends}
use Rattle.mini_unused.proofs.calm.+calmness.Goals as goal

pub are_calm-loop-at-init : goal.are_calm-loop-at-init
are_calm-loop-at-init t c = ap are_calm (from_first c.args.nodes.now)

pub are_calm-returns-then-not-is_calm : goal.are_calm-returns-then-not-is_calm
are_calm-returns-then-not-is_calm t c = calm_stops c.args.nodes.now c.loop-at.at (omega arith) (sym (c.is_calm.ensures ∙ ap is_calm c.child.ensures.value) ∙ c.if-not-is_calm.true) c.loop-at.invariant

pub are_calm-loop-at-preserved : goal.are_calm-loop-at-preserved
are_calm-loop-at-preserved t c = calm_goes_on c.args.nodes.now c.loop-at.at (omega arith) (sym (c.is_calm.ensures ∙ ap is_calm c.child.ensures.value) ∙ c.if-not-is_calm.false) c.loop-at.invariant

pub are_calm-returns : goal.are_calm-returns
are_calm-returns t c = calm_ends c.args.nodes.now c.loop-at.at (omega arith) c.loop-at.invariant
