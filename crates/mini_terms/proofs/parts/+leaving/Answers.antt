use Rattle.std.proofs.Common.{◌∙◌, ap, sym, arith}
use Rattle.mini_node.specs.Walks.{from_first}
use Rattle.mini_terms.specs.Parts.{leaves_nothing, leave_nothing}
use Rattle.mini_terms.proofs.Children.{leaving_stops, leaving_goes_on, leaving_ends}
use Rattle.mini_terms.proofs.parts.+leaving.Goals as goal

pub leave_nothing-loop-at-init : goal.leave_nothing-loop-at-init
leave_nothing-loop-at-init t c = ap leave_nothing (from_first c.args.nodes.now)

pub leave_nothing-returns-then-not-leaves_nothing : goal.leave_nothing-returns-then-not-leaves_nothing
leave_nothing-returns-then-not-leaves_nothing t c = leaving_stops c.args.nodes.now c.loop-at.at (omega arith) (sym (c.leaves_nothing.ensures ∙ ap leaves_nothing c.child.ensures.value) ∙ c.if-not-leaves_nothing.true) c.loop-at.invariant

pub leave_nothing-loop-at-preserved : goal.leave_nothing-loop-at-preserved
leave_nothing-loop-at-preserved t c = leaving_goes_on c.args.nodes.now c.loop-at.at (omega arith) (sym (c.leaves_nothing.ensures ∙ ap leaves_nothing c.child.ensures.value) ∙ c.if-not-leaves_nothing.false) c.loop-at.invariant

pub leave_nothing-returns : goal.leave_nothing-returns
leave_nothing-returns t c = leaving_ends c.args.nodes.now c.loop-at.at (omega arith) c.loop-at.invariant
