use Rattle.std.proofs.Common.{◌≡◌, IsUtf8}
use Rattle.std.specs.Prelude.{is_some}
use Rattle.std.specs.Str.Iter.{encode_utf16_rest}
use Rattle.mini_model.specs.Texts.{units_of}
use Rattle.mini_model.specs.Templates.{cooked, cooked_from}
use Rattle.mini_fields.specs.Cooking.{state_of, units_left}
use Rattle.mini_fields.proofs.cooking.is_malformed.Given as goal

abbrev pub invariant-loop-unit : goal.invariant-loop-unit
invariant-loop-unit l = record {
  same : is_some (cooked (units_of l.raw)) ≡ is_some (cooked_from (state_of l.state) (units_left l.unit-iterator));
  utf8 : IsUtf8 (encode_utf16_rest l.unit-iterator);
}
