-- The text of tokens with a blank only where two of them would run together, and which texts split
-- so: each token is the longest one that its text begins with (ECMA-262, 12).
use Rattle.std.specs.Prelude.{ℕ, ◌≡◌, nat_eq, Bool, true, false, not, ◌||◌, List, [], ◌∷◌, ◌++◌, if◌then◌else◌}
use Rattle.mini_model.specs.declared.operator.AssignmentOperator.TheVariants as assignment
use Rattle.mini_print.specs.Token.{Token, Word, Punct, Number, BigInt, Pattern, Private, Punctuator, Question, Dot, OptionalDot, Plus, Minus, Times, Slash, Percent, Power, MinusMinus, Bang, Ampersand, Bar, Caret, AndAnd, BarBar, QuestionQuestion, ShiftL, ShiftR, ShiftRR, Less, Greater, EqualEqual, BangEqual, Assigns}
use Rattle.mini_print.specs.Text.{spelled, is_word_unit, is_digit, is_slash, ends_operand, IsLexical, Open, open_behind, may_stand}

-- ---- where a token goes on

-- the units behind a punctuator that a longer one, a comment or a number has
abbrev pub goes_on_with : Punctuator → ℕ → Bool
goes_on_with Dot c = nat_eq c 46 || is_digit c
goes_on_with Question c = nat_eq c 46 || nat_eq c 63
goes_on_with OptionalDot c = is_digit c
goes_on_with Plus c = nat_eq c 43 || nat_eq c 61
goes_on_with Minus c = nat_eq c 45 || nat_eq c 61
goes_on_with Times c = nat_eq c 42 || nat_eq c 61
goes_on_with Slash c = nat_eq c 47 || (nat_eq c 42 || nat_eq c 61)
goes_on_with Percent c = nat_eq c 61
goes_on_with Power c = nat_eq c 61
goes_on_with MinusMinus c = nat_eq c 62
goes_on_with Bang c = nat_eq c 61
goes_on_with Ampersand c = nat_eq c 38 || nat_eq c 61
goes_on_with Bar c = nat_eq c 124 || nat_eq c 61
goes_on_with Caret c = nat_eq c 61
goes_on_with AndAnd c = nat_eq c 61
goes_on_with BarBar c = nat_eq c 61
goes_on_with QuestionQuestion c = nat_eq c 61
goes_on_with ShiftL c = nat_eq c 61
goes_on_with ShiftR c = nat_eq c 62 || nat_eq c 61
goes_on_with ShiftRR c = nat_eq c 61
goes_on_with Less c = nat_eq c 60 || (nat_eq c 61 || nat_eq c 33)
goes_on_with Greater c = nat_eq c 62 || nat_eq c 61
goes_on_with EqualEqual c = nat_eq c 61
goes_on_with BangEqual c = nat_eq c 61
goes_on_with (Assigns assignment.Assign) c = nat_eq c 61 || nat_eq c 62
goes_on_with _ c = false

-- whether a token goes on with a unit, and with the text behind it
abbrev pub goes_on_by : Token → ℕ → Bool
goes_on_by (Word s) c = is_word_unit c
goes_on_by (Number n) c = is_word_unit c || nat_eq c 46
goes_on_by (BigInt n) c = is_word_unit c
goes_on_by (Pattern p f) c = is_word_unit c
goes_on_by (Private s) c = is_word_unit c
goes_on_by (Punct p) c = goes_on_with p c
goes_on_by _ c = false

abbrev pub first_goes_on : List ℕ → Token → Bool
first_goes_on [] x = false
first_goes_on (c ∷ u) x = goes_on_by x c

abbrev pub goes_on : Token → List ℕ → Bool
goes_on x u = first_goes_on u x

-- ---- a slash

abbrev pub is_regular : Token → Bool
is_regular (Pattern p f) = true
is_regular _ = false

-- right behind a token with which an operand may end a slash divides; behind another one, behind a
-- blank and at the beginning it begins a regular expression
abbrev pub may_enter : Bool → Token → Bool
may_enter true x = not (is_regular x)
may_enter false x = not (is_slash x)

-- ---- texts

-- whether a blank stands between two tokens
abbrev pub apart : Token → Token → Bool
apart x y = goes_on x (spelled y) || not (may_enter (ends_operand x) y)

-- the text of tokens, with a blank only where it has to be
abbrev pub compact_text_of : List Token → List ℕ
compact_text_of [] = []
compact_text_of (x ∷ []) = spelled x
compact_text_of (x ∷ y ∷ ts) = spelled x ++ (if apart x y then 32 ∷ compact_text_of (y ∷ ts) else compact_text_of (y ∷ ts))

-- a token stands at the beginning of a text, before what doesn't go on it
abbrev pub Stands : Bool → List Open → Token → List ℕ → Type 0
Stands d os x u = IsLexical x × (may_stand os x ≡ true) × (may_enter d x ≡ true) × (goes_on x u ≡ false)

-- a text splits into tokens, with at most one blank between any two, right behind a token with which
-- an operand may end or not, and where this is open
pub data SplitsAfter : Bool → List Open → List ℕ → List Token → Type 0 where
  nothing : (d : Bool) (os : List Open) → SplitsAfter d os [] []
  alone : (d : Bool) (os : List Open) (x : Token) → Stands d os x [] → SplitsAfter d os (spelled x) (x ∷ [])
  tight : (d : Bool) (os : List Open) (x : Token) (u : List ℕ) (y : Token) (ts : List Token) → Stands d os x u → SplitsAfter (ends_operand x) (open_behind x os) u (y ∷ ts) → SplitsAfter d os (spelled x ++ u) (x ∷ y ∷ ts)
  spaced : (d : Bool) (os : List Open) (x : Token) (u : List ℕ) (y : Token) (ts : List Token) → Stands d os x (32 ∷ u) → SplitsAfter false (open_behind x os) u (y ∷ ts) → SplitsAfter d os (spelled x ++ (32 ∷ u)) (x ∷ y ∷ ts)

-- a whole text
abbrev pub SplitsCompactly : List ℕ → List Token → Type 0
SplitsCompactly u ts = SplitsAfter false [] u ts
