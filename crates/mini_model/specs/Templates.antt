-- The raw text of a template literal: what it cooks to, and how a text is spelled in one.
use Rattle.std.specs.Prelude.{ℕ, ◌+◌, ◌-◌, ◌*◌, Bool, true, false, ◌&&◌, ◌||◌, ◌==◌, nat_le, nat_lt, cond, List, [], ◌∷◌, ◌++◌, Option, Some, None}
use Rattle.std.specs.Char.Escape.{encode_utf16}
use Rattle.std.specs.List.{flat_map}

-- a unit of a text, as a raw text spells it: `\`, the backtick and `$` have a backslash before
-- them, and a carriage return is `\r`, since one by itself reads as a line feed (ECMA-262,
-- TemplateCharacter, and TV of LineTerminatorSequence)
abbrev pub escape : ℕ → List ℕ
escape u = cond ((u == 92) || (u == 96) || (u == 36)) (92 ∷ u ∷ []) (cond (u == 13) (92 ∷ 114 ∷ []) (u ∷ []))

-- the raw text that spells a text
abbrev pub escaped : List ℕ → List ℕ
escaped text = flat_map escape text

-- where in a raw text its reader stands
pub data Place : Type 0 where
  -- before a TemplateCharacter
  Characters : Place
  -- after `\`, before the rest of a TemplateEscapeSequence, a NotEscapeSequence or a
  -- LineContinuation
  Escape : Place
  -- after `\0`, where no DecimalDigit may follow
  Zero : Place
  -- in a HexEscapeSequence or Hex4Digits: so many HexDigits are to come, and those before have this
  -- value
  Digits : (left value : ℕ) → Place
  -- after `\u`
  Unicode : Place
  -- after `\u{`, before the first HexDigit of the CodePoint
  Brace : Place
  -- in the CodePoint of `\u{ CodePoint }`, whose HexDigits so far have this value
  CodePoint : (value : ℕ) → Place

-- what reading one unit does: the raw text is malformed, or it gives some units and the reader
-- stands elsewhere
pub data Step : Type 0 where
  Malformed : Step
  Gives : (units : List ℕ) → Place → Step

-- one of `0` to `9` (ECMA-262, DecimalDigit)
abbrev pub is_digit : ℕ → Bool
is_digit u = nat_le 48 u && nat_le u 57

-- the value of one of `0` to `9`, `A` to `F` and `a` to `f` (ECMA-262, MV of HexDigit)
abbrev pub hex_digit : ℕ → Option ℕ
hex_digit u =
    cond (is_digit u) (Some (u - 48))
    (cond (nat_le 65 u && nat_le u 70) (Some (u - 55))
    (cond (nat_le 97 u && nat_le u 102) (Some (u - 87)) None))

-- the value of digits with one more behind, if that is one; none past 10FFFF, the last code point,
-- which two or four digits never reach (ECMA-262, CodePoint and NotCodePoint)
abbrev pub with_digit_value : ℕ → Option ℕ → Option ℕ
with_digit_value value None = None
with_digit_value value (Some digit) = cond (nat_le (value * 16 + digit) 0x10FFFF) (Some (value * 16 + digit)) None

abbrev pub with_digit : ℕ → ℕ → Option ℕ
with_digit value u = with_digit_value value (hex_digit u)

-- one of so many digits: the last completes a code point (ECMA-262, TV of HexEscapeSequence and of
-- `u` Hex4Digits)
abbrev pub digit_step : ℕ → Option ℕ → Step
digit_step left None = Malformed
digit_step left (Some value) = cond (nat_lt 1 left) (Gives [] (Digits (left - 1) value)) (Gives (encode_utf16 value) Characters)

-- a digit in braces
abbrev pub brace_step : Option ℕ → Step
brace_step None = Malformed
brace_step (Some value) = Gives [] (CodePoint value)

-- a line feed, a carriage return, U+2028 or U+2029 (ECMA-262, LineTerminator); each by itself,
-- since TRV has made one line feed of a carriage return and a line feed
abbrev pub is_line_end : ℕ → Bool
is_line_end u = (u == 10) || (u == 13) || (u == 0x2028) || (u == 0x2029)

-- the unit after a backslash (ECMA-262, TemplateEscapeSequence, NotEscapeSequence,
-- LineContinuation, and the table "String Single Character Escape Sequences")
abbrev pub escape_step : ℕ → Step
escape_step u =
    -- `0`, and then `1` to `9`
    cond (u == 48) (Gives (0 ∷ []) Zero)
    (cond (is_digit u) Malformed
    (cond (is_line_end u) (Gives [] Characters)
    -- `x` and `u`
    (cond (u == 120) (Gives [] (Digits 2 0))
    (cond (u == 117) (Gives [] Unicode)
    -- `b`, `t`, `n`, `v`, `f` and `r`
    (cond (u == 98) (Gives (8 ∷ []) Characters)
    (cond (u == 116) (Gives (9 ∷ []) Characters)
    (cond (u == 110) (Gives (10 ∷ []) Characters)
    (cond (u == 118) (Gives (11 ∷ []) Characters)
    (cond (u == 102) (Gives (12 ∷ []) Characters)
    (cond (u == 114) (Gives (13 ∷ []) Characters)
    (Gives (u ∷ []) Characters)))))))))))

-- a unit where no escape is open: a backslash opens one, and any other stands for itself
abbrev pub character_step : ℕ → Step
character_step u = cond (u == 92) (Gives [] Escape) (Gives (u ∷ []) Characters)

-- a unit, read at a place; a `{` after `\u`, and a `}` in braces
abbrev pub step : Place → ℕ → Step
step Characters u = character_step u
step Escape u = escape_step u
step Zero u = cond (is_digit u) Malformed (character_step u)
step (Digits left value) u = digit_step left (with_digit value u)
step Unicode u = cond (u == 123) (Gives [] Brace) (digit_step 4 (with_digit 0 u))
step Brace u = brace_step (with_digit 0 u)
step (CodePoint value) u = cond (u == 125) (Gives (encode_utf16 value) Characters) (brace_step (with_digit value u))

-- a raw text may end at the place: no escape is open
abbrev pub may_end : Place → Bool
may_end Characters = true
may_end Zero = true
may_end _ = false

-- units before those that the rest gives, if it is well formed
abbrev pub before : List ℕ → Option (List ℕ) → Option (List ℕ)
before units None = None
before units (Some rest) = Some (units ++ rest)

-- what a step gives, with what the rest gives from where it goes
abbrev pub then_rest : Step → (Place → Option (List ℕ)) → Option (List ℕ)
then_rest Malformed rest = None
then_rest (Gives units place) rest = before units (rest place)

-- what the rest of a raw text cooks to, read from a place
abbrev pub cooked_from : Place → List ℕ → Option (List ℕ)
cooked_from place [] = cond (may_end place) (Some []) None
cooked_from place (u ∷ us) = then_rest (step place u) (λ next. cooked_from next us)

-- what a raw text cooks to; None where it is malformed (ECMA-262, TV)
abbrev pub cooked : List ℕ → Option (List ℕ)
cooked raw = cooked_from Characters raw
