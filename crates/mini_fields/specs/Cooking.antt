-- What the states of the code that cooks a raw text stand for, and what a text begins with.
use Rattle.std.specs.Prelude.{ℕ, List, [], ◌∷◌, ◌++◌, Bool, false, ◌&&◌, ◌≡◌, Option, Some, None}
use Rattle.std.specs.Char.Escape.{encode_utf16}
use Rattle.std.specs.Str.Iter.{encode_utf16_pending, encode_utf16_rest}
use Rattle.std.specs.declared.str.EncodeUtf16.{EncodeUtf16}
use Rattle.mini_model.specs.Texts.{units_of}
use Rattle.mini_accept.specs.WellShaped.{is_text, is_text_of_cooked}
use Rattle.mini_model.specs.Templates.{Place, Characters, Escape, Zero, Digits, Unicode, Brace, CodePoint, Step, Malformed, Gives, then_rest}
use Rattle.mini_fields.specs.declared.cooking.State.{State}
use Rattle.mini_fields.specs.declared.cooking.State.TheVariants.{Plain, Escaping, AfterZero, InDigits, AfterUnicode, AfterBrace, InBraces}
use Rattle.mini_fields.specs.declared.cooking.Reading.{Reading}
use Rattle.mini_fields.specs.declared.cooking.Reading.TheVariants.{Fails, Skips, GivesUnit, GivesPoint}

-- ---- states

abbrev pub state_of : State → Place
state_of Plain = Characters
state_of Escaping = Escape
state_of AfterZero = Zero
state_of (InDigits left value) = Digits left value
state_of AfterUnicode = Unicode
state_of AfterBrace = Brace
state_of (InBraces value) = CodePoint value

abbrev pub step_of : Reading → Step
step_of Fails = Malformed
step_of (Skips state) = Gives [] (state_of state)
step_of (GivesUnit unit state) = Gives (unit ∷ []) (state_of state)
step_of (GivesPoint value state) = Gives (encode_utf16 value) (state_of state)

-- where a step leads
abbrev pub next_place : Step → Option Place
next_place Malformed = None
next_place (Gives units place) = Some place

-- ---- texts

-- the units of a text that are to come
abbrev pub units_left : EncodeUtf16 → List ℕ
units_left s = encode_utf16_pending s ++ units_of (encode_utf16_rest s)

-- Whether the text begins with the units, and what is left then.
abbrev pub Begins : Bool → List ℕ → List ℕ → List ℕ → Type 0
Begins begins units text left = (others : List ℕ) → is_text text (units ++ others) ≡ (begins && is_text left others)

-- whether what is left is what the rest gives from the place
abbrev pub is_rest : Option Place → List ℕ → (Place → Option (List ℕ)) → Bool
is_rest None left rest = false
is_rest (Some place) left rest = is_text_of_cooked (Some left) (rest place)

-- The text begins with what the step gives, where there is a place that it leads to, and what is
-- left then.
abbrev pub Follows : Option Place → Step → List ℕ → List ℕ → Type 0
Follows place step text left = (rest : Place → Option (List ℕ)) → is_text_of_cooked (Some text) (then_rest step rest) ≡ is_rest place left rest
