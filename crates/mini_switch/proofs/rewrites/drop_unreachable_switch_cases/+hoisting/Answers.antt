use Rattle.std.proofs.Common.{◌∙◌, ap, sym, arith}
use Rattle.mini_node.specs.Walks.{from_first}
use Rattle.mini_rows.specs.DeadCases.{hoists_nothing, hoist_nothing}
use Rattle.mini_switch.proofs.DeadCases.{hoisting_stops, hoisting_goes_on, hoisting_ends}
use Rattle.mini_switch.proofs.rewrites.drop_unreachable_switch_cases.+hoisting.Goals as goal

pub hoist_nothing-loop-at-init : goal.hoist_nothing-loop-at-init
hoist_nothing-loop-at-init t c = ap hoist_nothing (from_first c.args.nodes.now)

pub hoist_nothing-returns-then-not-hoists_nothing : goal.hoist_nothing-returns-then-not-hoists_nothing
hoist_nothing-returns-then-not-hoists_nothing t c = hoisting_stops c.args.nodes.now c.loop-at.at (omega arith) (sym (c.hoists_nothing.ensures ∙ ap hoists_nothing c.child.ensures.value) ∙ c.if-not-hoists_nothing.true) c.loop-at.invariant

pub hoist_nothing-loop-at-preserved : goal.hoist_nothing-loop-at-preserved
hoist_nothing-loop-at-preserved t c = hoisting_goes_on c.args.nodes.now c.loop-at.at (omega arith) (sym (c.hoists_nothing.ensures ∙ ap hoists_nothing c.child.ensures.value) ∙ c.if-not-hoists_nothing.false) c.loop-at.invariant

pub hoist_nothing-returns : goal.hoist_nothing-returns
hoist_nothing-returns t c = hoisting_ends c.args.nodes.now c.loop-at.at (omega arith) c.loop-at.invariant
