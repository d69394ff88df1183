use Rattle.std.proofs.Common.{◌∙◌, ap, sym, arith}
use Rattle.mini_node.specs.Walks.{from_first}
use Rattle.mini_rows.specs.Lists.{binds, all_bind}
use Rattle.mini_held.proofs.Enclosing.{binding_stops, binding_goes_on, binding_ends}
use Rattle.mini_held.proofs.held_names.+binding.Goals as goal

pub all_bind-loop-at-init : goal.all_bind-loop-at-init
all_bind-loop-at-init t c = ap all_bind (from_first c.args.nodes.now)

pub all_bind-returns-then-not-binds : goal.all_bind-returns-then-not-binds
all_bind-returns-then-not-binds t c = binding_stops c.args.nodes.now c.loop-at.at (omega arith) (sym (c.binds.ensures ∙ ap binds c.child.ensures.value) ∙ c.if-not-binds.true) c.loop-at.invariant

pub all_bind-loop-at-preserved : goal.all_bind-loop-at-preserved
all_bind-loop-at-preserved t c = binding_goes_on c.args.nodes.now c.loop-at.at (omega arith) (sym (c.binds.ensures ∙ ap binds c.child.ensures.value) ∙ c.if-not-binds.false) c.loop-at.invariant

pub all_bind-returns : goal.all_bind-returns
all_bind-returns t c = binding_ends c.args.nodes.now c.loop-at.at (omega arith) c.loop-at.invariant
