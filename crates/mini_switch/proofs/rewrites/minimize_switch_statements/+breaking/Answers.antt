use Rattle.std.proofs.Common.{◌∙◌, ap, sym, arith}
use Rattle.std.specs.Prelude.{◌&&◌}
use Rattle.mini_laws.specs.Early.{turn_of}
use Rattle.mini_node.specs.Walks.{from_first}
use Rattle.mini_rows.specs.Cases.{lets_out, breaks_out, any_breaks_out}
use Rattle.mini_switch.proofs.Switches.{breaks_here, breaks_later, breaks_nowhere}
use Rattle.mini_switch.proofs.rewrites.minimize_switch_statements.+breaking.Goals as goal

pub any_breaks_out-loop-at-init : goal.any_breaks_out-loop-at-init
any_breaks_out-loop-at-init t c = ap (any_breaks_out c.args.shape.now 0) (from_first c.args.nodes.now)

pub any_breaks_out-returns-then-breaks_through : goal.any_breaks_out-returns-then-breaks_through
any_breaks_out-returns-then-breaks_through t c = breaks_here c.args.shape.now c.args.nodes.now c.loop-at.at (omega arith) (sym (c.breaks_through.ensures ∙ ap (λ n. lets_out (turn_of c.args.shape.now c.loop-at.at) && breaks_out n) c.child.ensures.value) ∙ c.if-breaks_through.true) c.loop-at.invariant

pub any_breaks_out-loop-at-preserved : goal.any_breaks_out-loop-at-preserved
any_breaks_out-loop-at-preserved t c = breaks_later c.args.shape.now c.args.nodes.now c.loop-at.at (omega arith) (sym (c.breaks_through.ensures ∙ ap (λ n. lets_out (turn_of c.args.shape.now c.loop-at.at) && breaks_out n) c.child.ensures.value) ∙ c.if-breaks_through.false) c.loop-at.invariant

pub any_breaks_out-returns : goal.any_breaks_out-returns
any_breaks_out-returns t c = breaks_nowhere c.args.shape.now c.args.nodes.now c.loop-at.at (omega arith) c.loop-at.invariant
