-- Raw texts of template literals, joined so that what each part spells stays the same.
use Rattle.std.specs.Prelude.{ℕ, ◌-◌, ◌==◌, Bool, true, false, not, ◌&&◌, cond, List, [], ◌∷◌, ◌++◌, length, take, codes}
use Rattle.mini_model.specs.Templates.{is_digit}

-- how a raw text ends
pub data Ending : Type 0 where
  -- in a backslash that no other escapes
  Backslash : Ending
  -- in `\0` whose backslash no other escapes
  Null : Ending
  -- in a `$` that no backslash escapes
  Dollar : Ending
  Other : Ending

-- the ending with one more unit behind, which no backslash escapes
abbrev pub ending_in : ℕ → Ending
ending_in u = cond (u == 92) Backslash (cond (u == 36) Dollar Other)

-- the ending with one more unit behind
abbrev pub ending_with : Ending → ℕ → Ending
ending_with Backslash u = cond (u == 48) Null Other
ending_with Null u = ending_in u
ending_with Dollar u = ending_in u
ending_with Other u = ending_in u

-- the ending with more units behind
abbrev pub ending_from : Ending → List ℕ → Ending
ending_from ending [] = ending
ending_from ending (u ∷ us) = ending_from (ending_with ending u) us

abbrev pub ending_of : List ℕ → Ending
ending_of raw = ending_from Other raw

-- a raw text with this ending, made ready for a unit behind: before a digit `\0` becomes `\x00`,
-- which else would be malformed, and between `$` and `{` stands a backslash, since both together
-- would begin a substitution (ECMA-262, NotEscapeSequence and TemplateHead)
abbrev pub readied : Ending → List ℕ → ℕ → List ℕ
readied Null raw u = cond (is_digit u) (take (length raw - 1) raw ++ codes "x00") raw
readied Dollar raw u = cond (u == 123) (raw ++ 92 ∷ []) raw
readied Backslash raw u = raw
readied Other raw u = raw

-- a raw text with a part behind
abbrev pub with_part : List ℕ → List ℕ → List ℕ
with_part raw [] = raw
with_part raw (u ∷ us) = readied (ending_of raw) raw u ++ u ∷ us

-- a raw text with parts behind
abbrev pub with_parts : List ℕ → List (List ℕ) → List ℕ
with_parts raw [] = raw
with_parts raw (part ∷ parts) = with_parts (with_part raw part) parts

abbrev pub joined : List (List ℕ) → List ℕ
joined parts = with_parts [] parts

-- a unit may stand behind a raw text with this ending in a template: unless a backslash escapes it,
-- it is no backtick, which would end the template, and no `{` behind `$`, which would begin a
-- substitution (ECMA-262, TemplateCharacter)
abbrev pub may_follow : Ending → ℕ → Bool
may_follow Backslash u = true
may_follow Null u = not (u == 96)
may_follow Dollar u = not (u == 96) && not (u == 123)
may_follow Other u = not (u == 96)

-- no backslash is left that would escape what ends the template
abbrev pub is_closed : Ending → Bool
is_closed Backslash = false
is_closed Null = true
is_closed Dollar = true
is_closed Other = true

-- the rest of a raw text, behind one with this ending
abbrev pub are_characters_from : Ending → List ℕ → Bool
are_characters_from ending [] = is_closed ending
are_characters_from ending (u ∷ us) = may_follow ending u && are_characters_from (ending_with ending u) us

-- a raw text may stand between a template's ends, whether it is malformed or not (ECMA-262,
-- TemplateCharacters)
abbrev pub are_characters : List ℕ → Bool
are_characters raw = are_characters_from Other raw
