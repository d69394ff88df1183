use Rattle.std.proofs.Common.{rules, ◌≡◌, ℤ, None, ◌∙◌, ap, sym, arith, get_or}
use Rattle.std.proofs.lemmas.Grind.{common_steps}
use Rattle.std.proofs.lemmas.List.{take_rest}
use Rattle.std.specs.Fmt.{decimal}
use Rattle.mini_model.specs.Numerals.{IsTextOfSafe}
use Rattle.mini_model.proofs.Decimals.{none-minus, none-minus_zero}
use Rattle.mini_model.proofs.Safe.{is_safe_number}
use Rattle.mini_model.proofs.number.equivalent_number.Goals as goal

pub returns-in_err-number-in-45 : goal.returns-in_err-number-in-45
returns-in_err-number-in-45 c =
    let units = c.as_slice.result.now in
    let minus : get_or units 0 0 ≡ 45 = omega arith in
    let none = c.in_err-number-in-45.ensures in
    let exact : (n : ℤ) → ¬ (IsTextOfSafe c.args.text.now n) = rw c.as_slice.ensures at (none-minus units minus (λ n some small is. none n small (take_rest units 1 ∙ is))) in
    rw c.from_residual.ensures (record { exact = exact; value = is_safe_number c.args.text.now None exact })

pub returns-in-0 : goal.returns-in-0
returns-in-0 c =
    let units = c.as_slice.result.now in
    let minus : get_or units 0 0 ≡ 45 = omega arith in
    let exact : (n : ℤ) → ¬ (IsTextOfSafe c.args.text.now n) = rw c.as_slice.ensures at (none-minus units minus (none-minus_zero _ (sym (take_rest units 1) ∙ c.in_ok-number-in-45.ensures.1 ∙ ap decimal c.in-0.is))) in
    record { exact = exact; value = is_safe_number c.args.text.now None exact }

pub returns-in_default-2-clause-value : goal.returns-in_default-2-clause-value
returns-in_default-2-clause-value c = is_safe_number c.args.text.now _ (grind (arith, common_steps))

pub returns-in_ok-whole_number-in_default-clause-value : goal.returns-in_ok-whole_number-in_default-clause-value
returns-in_ok-whole_number-in_default-clause-value c = is_safe_number c.args.text.now _ (search rules)
