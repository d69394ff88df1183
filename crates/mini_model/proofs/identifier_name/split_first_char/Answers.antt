use Rattle.std.proofs.Common.{◌≡◌, ℕ, ◌+◌, ◌-◌, ◌*◌, ◌≤◌, inr, Option, Some, None, SomeIff, IsSome, ap, ◌∙◌, length, length-drop, get_or, arith, ltb-false, ltb-true}
use Rattle.std.specs.Char.{IsScalar}
use Rattle.std.specs.Char.Utf16.{surrogate_pair_char, lone_unit_char}
use Rattle.std.proofs.lemmas.List.{take_rest, get_or_past}
use Rattle.mini_model.proofs.Units.{IsPair, lone_unit_char-from_u32, utf16_chars-front_pair, utf16_chars-front_lone}
use Rattle.mini_model.proofs.identifier_name.split_first_char.Goals as goal
use Rattle.mini_model.proofs.identifier_name.split_first_char.Goals.{then-units-lt2, else-units-lt2+then-units-lt55296, else-units-lt2+else-units-lt55296+then-units-lt56320+then-units-lt56320-2, else-units-lt2+else-units-lt55296+then-units-lt56320+else-units-lt56320-2+else-units-lt57344, else-units-lt2+else-units-lt55296+else-units-lt56320}

-- what `char::from_u32` gives for a scalar value
is_value : (r : Option ℕ) (c : ℕ) → SomeIff r (IsScalar c) c → IsSome r → r ≡ Some c
is_value None c value some = cc
is_value (Some x) c value some = ap Some value.1

pub returns-in-55296-to-56319 : goal.returns-in-55296-to-56319
returns-in-55296-to-56319 c =
    let units = c.args.units.now in
    let pair : IsPair (get_or units 0 0) (get_or units 1 0) = (omega arith, omega arith, omega arith, omega arith) in
    let code = 65536 + ((c.from.result - 55296) * 1024 + (c.from-in-55296-to-56319.result - 56320)) in
    let is_code : c.from_u32.result ≡ Some code = is_value _ code c.from_u32.ensures.value (c.from_u32.ensures.succeeds (inr (omega arith, omega arith))) in
    let code_is : code ≡ surrogate_pair_char (get_or units 0 0) (get_or units 1 0) = omega arith in
    rw (take_rest units 2) (omega (arith, length-drop 2 units), utf16_chars-front_pair units _ (omega arith) pair (is_code ∙ ap Some code_is))

pub returns-in-len1-up : goal.returns-in-len1-up
returns-in-len1-up c =
    let units = c.args.units.now in
    let some : 1 ≤ length units = omega (arith, ltb-false) in
    let unit_fits = c.type_inv.units 0 in
    let apart : ¬ (IsPair (get_or units 0 0) (get_or units 1 0)) = elim c.in-len1-up-1.branch as (λ _. ¬ (IsPair (get_or units 0 0) (get_or units 1 0))) [
      | then-units-lt2 w ↦ λ pair. omega (arith, get_or_past units 1 0 (omega (arith, ltb-true)))
      | else-units-lt2+then-units-lt55296 w ↦ λ pair. omega arith
      | else-units-lt2+else-units-lt55296+then-units-lt56320+then-units-lt56320-2 w ↦ λ pair. omega arith
      | else-units-lt2+else-units-lt55296+then-units-lt56320+else-units-lt56320-2+else-units-lt57344 w ↦ λ pair. omega arith
      | else-units-lt2+else-units-lt55296+else-units-lt56320 w ↦ λ pair. omega arith
    ] in
    let is : lone_unit_char (get_or units 0 0) ≡ c.from_u32-in-len1-up.result =
    lone_unit_char-from_u32 (get_or units 0 0) _ (omega arith) (rw c.from-in-len1-up.ensures at c.from_u32-in-len1-up.ensures.value) in
    rw (take_rest units 1) (omega (arith, length-drop 1 units), utf16_chars-front_lone units _ some apart is)
