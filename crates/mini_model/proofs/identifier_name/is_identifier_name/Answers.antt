use Rattle.std.proofs.Common.{sym, ap, ◌∙◌}
use Rattle.std.specs.Char.Utf16.{utf16_chars}
use Rattle.std.proofs.lemmas.Option.{MatchOption-at_none}
use Rattle.std.proofs.lemmas.Str.{utf16_chars-nil}
use Rattle.mini_model.specs.Texts.{are_name_parts, is_name_of_chars, is_identifier_name}
use Rattle.mini_model.proofs.identifier_name.is_identifier_name.Goals as goal

pub returns-in_default-2 : goal.returns-in_default-2
returns-in_default-2 c =
    let empty = MatchOption-at_none _ _ c.in_default.is c.split_first_char.ensures in
    sym (ap is_identifier_name (sym c.as_slice.ensures ∙ empty) ∙ ap is_name_of_chars utf16_chars-nil)

pub returns : goal.returns
returns c = sym (c.loop-ch.invariant ∙ ap (λ units. are_name_parts (utf16_chars units)) c.in_default-split_first_char.ensures ∙ ap are_name_parts utf16_chars-nil)
