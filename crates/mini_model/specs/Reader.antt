-- What the states of the code that cooks a raw text stand for.
use Rattle.std.specs.Prelude.{[], ◌∷◌}
use Rattle.std.specs.Char.Escape.{encode_utf16}
use Rattle.mini_model.specs.declared.cooking.State.{State}
use Rattle.mini_model.specs.declared.cooking.State.TheVariants.{Plain, Escaping, AfterZero, InDigits, AfterUnicode, AfterBrace, InBraces}
use Rattle.mini_model.specs.declared.cooking.Reading.{Reading}
use Rattle.mini_model.specs.declared.cooking.Reading.TheVariants.{Fails, Skips, GivesUnit, GivesPoint}
use Rattle.mini_model.specs.Templates.{Place, Characters, Escape, Zero, Digits, Unicode, Brace, CodePoint, Step, Malformed, Gives}

abbrev pub place_of : State → Place
place_of Plain = Characters
place_of Escaping = Escape
place_of AfterZero = Zero
place_of (InDigits left value) = Digits left value
place_of AfterUnicode = Unicode
place_of AfterBrace = Brace
place_of (InBraces value) = CodePoint value

abbrev pub step_of : Reading → Step
step_of Fails = Malformed
step_of (Skips state) = Gives [] (place_of state)
step_of (GivesUnit unit state) = Gives (unit ∷ []) (place_of state)
step_of (GivesPoint value state) = Gives (encode_utf16 value) (place_of state)
