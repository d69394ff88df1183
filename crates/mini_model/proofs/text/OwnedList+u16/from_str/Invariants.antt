-- What was pushed, with the units of what is left, is the units of the text; and what is left is text.
use Rattle.std.proofs.Common.{◌≡◌, ◌++◌, IsUtf8}
use Rattle.std.specs.Str.Iter.{encode_utf16_pending, encode_utf16_rest}
use Rattle.mini_model.specs.Texts.{units_of}
use Rattle.mini_model.proofs.text.OwnedList+u16.from_str.Given as goal

abbrev pub invariant-loop-unit : goal.invariant-loop-unit
invariant-loop-unit l = record {
  left : l.units ++ (encode_utf16_pending l.unit-iterator ++ units_of (encode_utf16_rest l.unit-iterator)) ≡ units_of l.text;
  utf8 : IsUtf8 (encode_utf16_rest l.unit-iterator);
}
