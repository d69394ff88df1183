-- The text of tokens, as code puts it together.
use Rattle.std.specs.Prelude.{ℕ, ◌≡◌, Bool, true, false, List, ◌∷◌, ◌++◌, codes, if◌then◌else◌}
use Rattle.mini_print.specs.Token.{Token, Pattern}
use Rattle.mini_print.specs.Text.{spelled, begins_plainly, EachLexical, are_told}
use Rattle.mini_print.specs.Compact.{apart}
use Rattle.mini_print.specs.Printed.{Style, Full, Short}

-- a piece of a template from this unit on, up to its end or to an expression
abbrev pub piece_text : ℕ → List ℕ → Bool → List ℕ
piece_text c s true = c ∷ (s ++ codes "`")
piece_text c s false = c ∷ (s ++ codes "${")

-- the text of a token behind this one, with a blank where one has to be between them
abbrev pub behind : Token → Token → List ℕ
behind x y = if apart x y then 32 ∷ spelled y else spelled y

-- whether a token is told from a slash that divides wherever it stands
abbrev pub is_plain : Token → Bool
is_plain (Pattern p f) = begins_plainly p
is_plain _ = true

-- each regular expression is told from a division: in full text, which has a blank between any two
-- tokens, this has to be seen
abbrev pub are_told_in : Style → List Token → Bool
are_told_in Full ts = are_told false ts
are_told_in Short ts = true

-- each token is one that a text has, and each regular expression is told
abbrev pub IsTold : Style → List Token → Type 0
IsTold style ts = EachLexical ts × (are_told_in style ts ≡ true)
