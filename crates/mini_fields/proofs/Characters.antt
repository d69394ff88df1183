-- Names, character by character.
use Rattle.std.proofs.Common.{◌≡◌, ℕ, List, [], ◌∷◌, true, false, refl, IsUtf8, map, ap, ◌∙◌, Some}
use Rattle.std.specs.Prelude.{◌&&◌}
use Rattle.std.specs.Str.{chars}
use Rattle.std.proofs.lemmas.Str.{scalars-chars}
use Rattle.mini_model.specs.Texts.{units_of, is_identifier_name, is_name_of_chars, are_name_parts, is_name_start, is_name_part}
use Rattle.mini_model.proofs.Units.{utf16_chars-encode_utf16, are_units-units_of}
use Rattle.mini_accept.specs.WellShaped.{is_name}
use Rattle.mini_fields.specs.Names.{is_name_from}

parts_from : (cs : List ℕ) → are_name_parts (map Some cs) ≡ is_name_from false cs
parts_from [] = refl
parts_from (c ∷ cs) = ap (λ b. is_name_part c && b) (parts_from cs)

name_from : (cs : List ℕ) → is_name_of_chars (map Some cs) ≡ is_name_from true cs
name_from [] = refl
name_from (c ∷ cs) = ap (λ b. is_name_start c && b) (parts_from cs)

pub is_name_of_text : (s : List ℕ) → IsUtf8 s → is_name (units_of s) ≡ is_name_from true (chars s)
is_name_of_text s utf8 = ap (λ b. b && is_identifier_name (units_of s)) (are_units-units_of s utf8) ∙ (ap is_name_of_chars (utf16_chars-encode_utf16 (chars s) (scalars-chars s utf8)) ∙ name_from (chars s))
