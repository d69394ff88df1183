use Rattle.std.proofs.Common.{sym, ap, ◌∙◌}
use Rattle.std.specs.Option.{option_copied}
use Rattle.std.specs.Prelude.{slice_get}
use Rattle.mini_tokens.proofs.Literals.{no_digit}
use Rattle.mini_tokens.proofs.compact.first_big_digit.Goals as goal

pub returns-in_err-digit : goal.returns-in_err-digit
returns-in_err-digit c =
    absurd (no_digit c.args.number c.ranges.number.fits (ap (λ ds. slice_get ds 0) (sym (c.as_bytes.ensures.value ∙ c.format.ensures.text)) ∙ (sym c.first.ensures.value ∙ ap option_copied c.in_err-digit.was)))
