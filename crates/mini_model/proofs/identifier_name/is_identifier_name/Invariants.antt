-- The text is a name where what is left may go on with it.
use Rattle.std.proofs.Common.{◌≡◌, length}
use Rattle.std.specs.Char.Utf16.{utf16_chars}
use Rattle.mini_model.specs.Texts.{are_name_parts, is_identifier_name}
use Rattle.mini_model.proofs.identifier_name.is_identifier_name.Given as goal

abbrev pub invariant-loop-ch : goal.invariant-loop-ch
invariant-loop-ch l = is_identifier_name l.text ≡ are_name_parts (utf16_chars l.rest)

abbrev pub decreases-loop-ch : goal.decreases-loop-ch
decreases-loop-ch l = length l.rest
