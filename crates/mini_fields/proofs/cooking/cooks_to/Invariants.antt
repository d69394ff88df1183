use Rattle.std.proofs.Common.{◌≡◌, IsUtf8, Some}
use Rattle.std.specs.Str.Iter.{encode_utf16_rest}
use Rattle.mini_model.specs.Texts.{units_of}
use Rattle.mini_accept.specs.WellShaped.{is_text_of_cooked}
use Rattle.mini_model.specs.Templates.{cooked, cooked_from}
use Rattle.mini_fields.specs.Cooking.{state_of, units_left}
use Rattle.mini_fields.proofs.cooking.cooks_to.Given as goal

abbrev pub invariant-loop-unit : goal.invariant-loop-unit
invariant-loop-unit l = record {
  same : is_text_of_cooked (Some (units_of l.text)) (cooked (units_of l.raw)) ≡ is_text_of_cooked (Some (units_left l.rest)) (cooked_from (state_of l.state) (units_left l.unit-iterator));
  raw_utf8 : IsUtf8 (encode_utf16_rest l.unit-iterator);
  text_utf8 : IsUtf8 (encode_utf16_rest l.rest);
}
