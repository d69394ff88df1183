use Rattle.std.proofs.Common.{◌+◌, ap, sym, ◌∙◌, get_or}
use Rattle.std.proofs.lemmas.List.{take_rest}
use Rattle.mini_tokens.specs.Writable.{may_stand}
use Rattle.mini_tokens.proofs.Scans.{raw_goes_on, raw_stops, raw_ends}
use Rattle.mini_tokens.proofs.writable.is_raw.Goals as goal

pub returns-then-not-may_stand : goal.returns-then-not-may_stand
returns-then-not-may_stand c =
    sym (raw_stops c.loop-at.escaped c.args.units.now c.loop-at.at c.loop-at-test.true (sym c.if-not-may_stand.true ∙ c.may_stand.ensures ∙ ap (may_stand c.loop-at.escaped (get_or c.args.units.now c.loop-at.at 0)) (take_rest c.args.units.now (c.loop-at.at + 1))) c.loop-at.invariant)

pub loop-at-preserved : goal.loop-at-preserved
loop-at-preserved c =
    raw_goes_on c.loop-at.escaped c.escapes-escaped.result c.args.units.now c.loop-at.at c.loop-at-test.true (sym c.if-not-may_stand.false ∙ c.may_stand.ensures ∙ ap (may_stand c.loop-at.escaped (get_or c.args.units.now c.loop-at.at 0)) (take_rest c.args.units.now (c.loop-at.at + 1))) c.escapes-escaped.ensures c.loop-at.invariant

pub returns : goal.returns
returns c = sym (raw_ends c.loop-at.escaped c.args.units.now c.loop-at.at c.loop-at-test.false c.loop-at.invariant)
