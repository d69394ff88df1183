use Rattle.std.proofs.Common.{◌∙◌, ap, sym, arith}
use Rattle.mini_node.specs.Walks.{from_first}
use Rattle.mini_held.specs.Parts.{idle_before_last}
use Rattle.mini_held.proofs.PartsGone.{stops, goes_on, ends}
use Rattle.mini_held.proofs.parts.loses_any.Goals as goal

pub loop-at-init : goal.loop-at-init
loop-at-init g c = ap (idle_before_last g.I.IdleParts.idle) (from_first c.args.parts.now)

pub returns-then-is_idle : goal.returns-then-is_idle
returns-then-is_idle g c = stops g.I.IdleParts.idle c.args.parts.now c.loop-at.at (omega arith) (sym (c.is_idle.ensures ∙ ap g.I.IdleParts.idle c.child.ensures.value) ∙ c.if-is_idle.true) c.loop-at.invariant

pub loop-at-preserved : goal.loop-at-preserved
loop-at-preserved g c = goes_on g.I.IdleParts.idle c.args.parts.now c.loop-at.at (omega arith) (sym (c.is_idle.ensures ∙ ap g.I.IdleParts.idle c.child.ensures.value) ∙ c.if-is_idle.false) c.loop-at.invariant

pub returns : goal.returns
returns g c = ends g.I.IdleParts.idle c.args.parts.now c.loop-at.at (omega arith) c.loop-at.invariant
