use Rattle.std.proofs.Common.{rules, arith, ◌+◌}
use Rattle.std.proofs.lemmas.List.{take_rest}
use Rattle.mini_run.proofs.Known.{Appends-kept, Appends-part}
use Rattle.mini_run.proofs.outside.write_all.Goals as goal

pub returns-in_err-count-clause-part : goal.returns-in_err-count-clause-part
returns-in_err-count-clause-part g c = (c.writing.at, Appends-kept _ _ _ _ c.writing.invariant.bytes c.in_err-count.ensures.bytes)

pub returns-then-count-eq0-clause-part : goal.returns-then-count-eq0-clause-part
returns-then-count-eq0-clause-part g c = (c.writing.at + c.in_ok-count.count, Appends-part _ _ _ _ _ _ c.writing.invariant.bytes (rw (take_rest c.args.bytes.now c.writing.at) at c.in_ok-count.ensures.bytes))

pub writing-preserved : goal.writing-preserved
writing-preserved g c = record { bytes = Appends-part _ _ _ _ _ _ c.writing.invariant.bytes (rw (take_rest c.args.bytes.now c.writing.at) at c.in_ok-count.ensures.bytes); faults = omega (arith, c.writing.invariant.faults, c.in_ok-count.ensures.cause.later); within = search rules }
