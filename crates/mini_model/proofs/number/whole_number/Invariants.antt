-- The units so far are digits, and the number is their value.
use Rattle.std.proofs.Common.{◌≡◌, ◌≤◌, take}
use Rattle.std.specs.Str.Parse.{digits_value}
use Rattle.mini_model.specs.Numerals.{max_safe_integer}
use Rattle.mini_model.proofs.Decimals.{DigitsBelow}
use Rattle.mini_model.proofs.number.whole_number.Given as goal

abbrev pub invariant-loop-unit : goal.invariant-loop-unit
invariant-loop-unit l = record {
  digits : DigitsBelow l.digits l.unit-index;
  value : l.number ≡ digits_value 10 (take l.unit-index l.digits);
  small : l.number ≤ max_safe_integer;
}
