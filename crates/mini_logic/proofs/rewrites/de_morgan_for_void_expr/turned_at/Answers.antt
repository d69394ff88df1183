use Rattle.std.proofs.Common.{◌∙◌, ap, sym, arith}
use Rattle.mini_node.specs.Walks.{from_first}
use Rattle.mini_logic.specs.DeMorganForVoidExpr.{is_turned, turns_before_last}
use Rattle.mini_logic.proofs.DeMorganParts.{turn_stops, turn_goes_on, turn_ends}
use Rattle.mini_logic.proofs.rewrites.de_morgan_for_void_expr.turned_at.Goals as goal

pub loop-at-init : goal.loop-at-init
loop-at-init c = ap turns_before_last (from_first c.args.nodes.now)

pub returns-then-is_turned-clause-any : goal.returns-then-is_turned-clause-any
returns-then-is_turned-clause-any c = turn_stops c.args.nodes.now c.loop-at.at (omega arith) (sym (c.is_turned.ensures ∙ ap is_turned c.child.ensures.value) ∙ c.if-is_turned.true) c.loop-at.invariant

pub loop-at-preserved : goal.loop-at-preserved
loop-at-preserved c = turn_goes_on c.args.nodes.now c.loop-at.at (omega arith) (sym (c.is_turned.ensures ∙ ap is_turned c.child.ensures.value) ∙ c.if-is_turned.false) c.loop-at.invariant

pub returns-clause-any : goal.returns-clause-any
returns-clause-any c = turn_ends c.args.nodes.now c.loop-at.at (omega arith) c.loop-at.invariant
