-- What was counted, with the units of what is left, are those of the text; and what is left is text.
use Rattle.std.proofs.Common.{◌≡◌, ◌+◌, ◌++◌, ◌≤◌, length, IsUtf8}
use Rattle.std.specs.Str.Iter.{encode_utf16_pending, encode_utf16_rest}
use Rattle.mini_model.specs.Texts.{units_of}
use Rattle.mini_model.specs.Weight.{capped}
use Rattle.mini_writer.proofs.size.count_text_units.Given as goal

abbrev pub invariant-units : goal.invariant-units
invariant-units l = record {
  left : capped (l.count + length (encode_utf16_pending l.iterator' ++ units_of (encode_utf16_rest l.iterator'))) ≡ capped (length (units_of l.text));
  most : l.count ≤ 18446744073709551615;
  utf8 : IsUtf8 (encode_utf16_rest l.iterator');
}
