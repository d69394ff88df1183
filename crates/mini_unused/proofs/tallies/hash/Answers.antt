use Rattle.std.proofs.Common.{◌∙◌, ◌+◌, ◌*◌, ◌%◌, ap, drop, sym, arith}
use Rattle.std.proofs.lemmas.List.{at_drop_more, drop_all}
use Rattle.mini_unused.specs.Tallies.{hash_from, hash_of}
use Rattle.mini_unused.proofs.tallies.hash.Goals as goal

pub loop-unit-init : goal.loop-unit-init
loop-unit-init c = (ap (hash_from 0) c.as_slice-unit-items.ensures, omega arith)

pub loop-unit-preserved : goal.loop-unit-preserved
loop-unit-preserved c =
    let units = c.as_slice-unit-items.result.now in
    let at = c.loop-unit.unit-index in
    let value = c.loop-unit.value in (
      ap (λ u. hash_from ((value * 31 + u) % 4294967296) (drop (at + 1) units)) c.from.ensures ∙ sym (at_drop_more (hash_from value) units at 0 c.loop-unit-test.true) ∙ c.loop-unit.invariant.0,
      omega arith,
    )

pub returns-clause-value : goal.returns-clause-value
unfolding hash_of
returns-clause-value c = ap (hash_from c.loop-unit.value) (sym (drop_all c.loop-unit.unit-index c.as_slice-unit-items.result.now (omega arith))) ∙ c.loop-unit.invariant.0
