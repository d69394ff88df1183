-- Raw texts and what they cook to. A raw text is given by its units: 92 is a backslash.
use Rattle.std.specs.Prelude.{◌≡◌, [], ◌∷◌, ◌++◌, true, false, Some, None, codes, refl}
use Rattle.mini_model.specs.Joined.{are_characters, joined}
use Rattle.mini_model.specs.Templates.{escaped, cooked}

-- `\x41` is `A`
hex_escape : cooked (92 ∷ codes "x41") ≡ Some (codes "A")
hex_escape = refl

-- `\x4` and `\xG1` are malformed
short_hex_escape : cooked (92 ∷ codes "x4") ≡ None
short_hex_escape = refl

no_hex_escape : cooked (92 ∷ codes "xG1") ≡ None
no_hex_escape = refl

-- `\u0041b` is `Ab`, and `\uD800` is a surrogate by itself
unicode_escape : cooked (92 ∷ codes "u0041b") ≡ Some (codes "Ab")
unicode_escape = refl

surrogate_escape : cooked (92 ∷ codes "uD800") ≡ Some (0xD800 ∷ [])
surrogate_escape = refl

-- `\u{1F600}` is two units, and `\u{00041}` one
code_point_escape : cooked (92 ∷ codes "u{1F600}") ≡ Some (0xD83D ∷ 0xDE00 ∷ [])
code_point_escape = refl

zeros_before_code_point : cooked (92 ∷ codes "u{00041}") ≡ Some (codes "A")
zeros_before_code_point = refl

-- `\u{10FFFF}` is the last code point; `\u{110000}`, `\u{}` and `\u{41` are malformed
last_code_point : cooked (92 ∷ codes "u{10FFFF}") ≡ Some (0xDBFF ∷ 0xDFFF ∷ [])
last_code_point = refl

past_the_last_code_point : cooked (92 ∷ codes "u{110000}") ≡ None
past_the_last_code_point = refl

empty_code_point : cooked (92 ∷ codes "u{}") ≡ None
empty_code_point = refl

open_code_point : cooked (92 ∷ codes "u{41") ≡ None
open_code_point = refl

-- `\0a` is U+0000 and `a`; `\01` and `\1` are malformed
null_escape : cooked (92 ∷ codes "0a") ≡ Some (0 ∷ codes "a")
null_escape = refl

digit_after_null : cooked (92 ∷ codes "01") ≡ None
digit_after_null = refl

digit_escape : cooked (92 ∷ codes "1") ≡ None
digit_escape = refl

-- `a\nb` has a line feed, and `\$\{` is `${`
line_feed_escape : cooked (codes "a" ++ 92 ∷ codes "nb") ≡ Some (codes "a" ++ 10 ∷ codes "b")
line_feed_escape = refl

other_escapes : cooked (92 ∷ codes "$" ++ 92 ∷ codes "{") ≡ Some (codes "${")
other_escapes = refl

-- a backslash before a line feed gives nothing; before a carriage return and a line feed it takes
-- the first alone
line_continuation : cooked (codes "a" ++ 92 ∷ 10 ∷ codes "b") ≡ Some (codes "ab")
line_continuation = refl

two_line_ends : cooked (92 ∷ 13 ∷ 10 ∷ []) ≡ Some (10 ∷ [])
two_line_ends = refl

-- a raw text does not end in an open backslash
open_escape : cooked (codes "a" ++ 92 ∷ []) ≡ None
open_escape = refl

-- the text a`$\ and a carriage return are spelled a\`\$\\\r
escapes : escaped (codes "a`$" ++ 92 ∷ 13 ∷ []) ≡ codes "a" ++ 92 ∷ 96 ∷ 92 ∷ 36 ∷ 92 ∷ 92 ∷ 92 ∷ codes "r"
escapes = refl

-- `a$` and `{b` are joined as `a$\{b`, and so they are with an empty part between
dollar_and_brace : joined (codes "a$" ∷ codes "{b" ∷ []) ≡ codes "a$" ++ 92 ∷ codes "{b"
dollar_and_brace = refl

empty_part_between : joined (codes "a$" ∷ [] ∷ codes "{b" ∷ []) ≡ codes "a$" ++ 92 ∷ codes "{b"
empty_part_between = refl

-- `\$` and `{b` stay as they are, since the `$` is escaped
escaped_dollar_and_brace : joined ((92 ∷ codes "$") ∷ codes "{b" ∷ []) ≡ 92 ∷ codes "${b"
escaped_dollar_and_brace = refl

-- `\0` and `1` are joined as `\x001`; `\\0` and `1` stay as they are, since that `0` is no escape
null_and_digit : joined ((92 ∷ codes "0") ∷ codes "1" ∷ []) ≡ 92 ∷ codes "x001"
null_and_digit = refl

backslash_zero_and_digit : joined ((92 ∷ 92 ∷ codes "0") ∷ codes "1" ∷ []) ≡ 92 ∷ 92 ∷ codes "01"
backslash_zero_and_digit = refl

-- a backtick, `${` and a backslash at the end do not stay inside a template; escaped ones, and `$`
-- alone, do
bare_backtick : are_characters (codes "a`") ≡ false
bare_backtick = refl

bare_substitution : are_characters (codes "${") ≡ false
bare_substitution = refl

open_backslash : are_characters (codes "a" ++ 92 ∷ []) ≡ false
open_backslash = refl

escaped_substitution : are_characters (codes "$" ++ 92 ∷ codes "{$" ++ 92 ∷ codes "`") ≡ true
escaped_substitution = refl
