-- What texts are: their units, their bytes, and which of them are names.
use Rattle.std.specs.Prelude.{ℕ, ◌^◌, ◌<◌, nat_lt, Bool, true, false, ◌&&◌, ◌||◌, ◌==◌, List, [], ◌∷◌, Option, Some, None, All, encode_utf8_all}
use Rattle.std.specs.Char.Escape.{encode_utf16}
use Rattle.std.specs.Char.Utf16.{utf16_chars, utf16_lossy_chars}
use Rattle.std.specs.List.{flat_map}
use Rattle.std.specs.Str.{chars}
use Rattle.unicode_ident.specs.Ident.{is_xid_start, is_xid_continue}

-- the UTF-16 units of a text that is given as UTF-8 bytes (The Unicode Standard, D91 and D92;
-- ECMA-262, UTF16EncodeCodePoint)
abbrev pub units_of : List ℕ → List ℕ
units_of bytes = flat_map encode_utf16 (chars bytes)

-- the UTF-8 bytes of UTF-16 units, with U+FFFD for each surrogate that has no partner (The Unicode
-- Standard, D91, D92 and 3.9 on U+FFFD)
abbrev pub bytes_of : List ℕ → List ℕ
bytes_of units = encode_utf8_all (utf16_lossy_chars units)

-- each unit has 16 bits (ECMA-262, The String Type)
abbrev pub AllUnits : List ℕ → Type 0
AllUnits units = All (λ unit. unit < 2 ^ 16) units

-- the same as a test
abbrev pub are_units : List ℕ → Bool
are_units [] = true
are_units (unit ∷ units) = nat_lt unit 0x1_0000 && are_units units

-- a name may begin with the character: `$`, `_`, or one with XID_Start (ECMA-262,
-- IdentifierStartChar; UAX #31, XID_Start)
abbrev pub is_name_start : ℕ → Bool
is_name_start c = is_xid_start c || (c == 36) || (c == 95)

-- a name may go on with the character: `$`, a joiner, or one with XID_Continue, as `_` (ECMA-262,
-- IdentifierPartChar; UAX #31, XID_Continue)
abbrev pub is_name_part : ℕ → Bool
is_name_part c = is_xid_continue c || (c == 36) || (c == 0x200C) || (c == 0x200D)

-- each is a character that a name may go on with; a surrogate that has no partner is none
-- (ECMA-262, IdentifierPart)
abbrev pub are_name_parts : List (Option ℕ) → Bool
are_name_parts [] = true
are_name_parts (None ∷ cs) = false
are_name_parts (Some c ∷ cs) = is_name_part c && are_name_parts cs

-- a character that a name may begin with, and then some that it may go on with (ECMA-262,
-- IdentifierName)
abbrev pub is_name_of_chars : List (Option ℕ) → Bool
is_name_of_chars [] = false
is_name_of_chars (None ∷ cs) = false
is_name_of_chars (Some c ∷ cs) = is_name_start c && are_name_parts cs

-- the units spell a name, with no escape in it (ECMA-262, Names and Keywords, IdentifierName)
abbrev pub is_identifier_name : List ℕ → Bool
is_identifier_name units = is_name_of_chars (utf16_chars units)
