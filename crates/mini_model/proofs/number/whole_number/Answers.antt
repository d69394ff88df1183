use Rattle.std.proofs.Common.{◌≡◌, ◌<◌, ◌+◌, length, get_or, arith, below_more}
use Rattle.mini_model.proofs.Decimals.{none-empty, none-leading_zero, none-unit, none-large, value_more, whole}
use Rattle.std.proofs.lemmas.Bool.Decides.{nat_tests}
use Rattle.mini_model.proofs.number.whole_number.Goals as goal
use Rattle.mini_model.proofs.number.whole_number.Goals.{else-digits-gt1-via-then-digits-gt1+else-digits-eq-ZERO, else-digits-gt1-via-else-digits-gt1}

pub returns-then-is_empty : goal.returns-then-is_empty
returns-then-is_empty c = none-empty c.args.digits.now (grind (arith, nat_tests))

pub returns-then-digits-eq-ZERO : goal.returns-then-digits-eq-ZERO
returns-then-digits-eq-ZERO c = none-leading_zero c.args.digits.now (omega arith) (omega arith)

pub returns-in_default : goal.returns-in_default
returns-in_default c = none-unit c.args.digits.now c.loop-unit.unit-index (omega arith) (λ digit. omega arith)

pub returns-in_default-2 : goal.returns-in_default-2
returns-in_default-2 c = none-unit c.args.digits.now c.loop-unit.unit-index (omega arith) (λ digit. omega arith)

pub returns-then-number-gt-MAX_SAFE_INTEGER : goal.returns-then-number-gt-MAX_SAFE_INTEGER
returns-then-number-gt-MAX_SAFE_INTEGER c =
    let ds = c.args.digits.now in
    let i = c.loop-unit.unit-index in
    none-large ds (i + 1) (omega (arith, value_more ds i (omega arith) (omega arith, omega arith)))

pub loop-unit-preserved : goal.loop-unit-preserved
loop-unit-preserved c =
    let ds = c.args.digits.now in
    let i = c.loop-unit.unit-index in
    record {
      digits = below_more _ _ c.loop-unit.invariant.digits (omega arith, omega arith);
      value = omega (arith, value_more ds i (omega arith) (omega arith, omega arith));
      small = omega arith;
    }

pub returns : goal.returns
returns c =
    let ds = c.args.digits.now in
    let some : 0 < length ds = grind (arith, nat_tests) in
    let lead : get_or ds 0 0 ≡ 48 → length ds ≡ 1 = λ zero. elim c.else-digits-gt1.branch [
      | else-digits-gt1-via-then-digits-gt1+else-digits-eq-ZERO w ↦ omega arith
      | else-digits-gt1-via-else-digits-gt1 w ↦ omega arith
    ] in (
      c.loop-unit.invariant.small,
      whole ds c.loop-unit.unit-index c.loop-unit.number (omega arith) c.loop-unit.invariant.digits some lead c.loop-unit.invariant.value c.loop-unit.invariant.small,
    )
