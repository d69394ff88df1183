use Rattle.std.proofs.Common.{◌∙◌, ap, sym, arith}
use Rattle.mini_rows.specs.Cases.{breaks_out}
use Rattle.mini_switch.proofs.Switches.{none_first, found_first, step_first}
use Rattle.mini_switch.proofs.rewrites.minimize_switch_statements.some_breaks.Goals as goal

pub loop-at-init : goal.loop-at-init
loop-at-init c = none_first c.args.nodes.now

pub returns-then-breaks_out : goal.returns-then-breaks_out
returns-then-breaks_out c = sym (found_first c.args.nodes.now c.loop-at.at c.args.end (omega arith) (omega arith) (sym (c.breaks_out.ensures ∙ ap breaks_out c.child.ensures.value) ∙ c.if-breaks_out.true))

pub loop-at-preserved : goal.loop-at-preserved
loop-at-preserved c = step_first c.args.nodes.now c.loop-at.at (omega arith) (sym (c.breaks_out.ensures ∙ ap breaks_out c.child.ensures.value) ∙ c.if-breaks_out.false) c.loop-at.invariant
