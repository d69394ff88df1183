-- Literals (ESTree, Literal, RegExpLiteral, BigIntLiteral).
use Rattle.std.specs.Prelude.{ℕ, suc, ◌+◌, ◌-◌, ◌*◌, nat_le, List, [], ◌∷◌, Bool, true, false, ◌&&◌, ◌||◌, not, Option, Some, None, option_and_then, option_map, unwrap_or, if◌then◌else◌, codes, ℤ, pos, negsuc}
use Rattle.serde_json.specs.Data.{Data, Num, unsigned, negative, float, null, boolean, number, string, array, object}
use Rattle.serde_json.specs.Find.{get}
use Rattle.mini_model.specs.Numerals.{max_safe_integer}
use Rattle.mini_model.specs.Templates.{is_digit}
use Rattle.mini_model.specs.declared.shape.Shape.{Shape}
use Rattle.mini_model.specs.declared.shape.Shape.TheVariants as shape
use Rattle.mini_accept.specs.WellShaped.{is_text, max_big_int}
use Rattle.mini_accept.specs.Fields.{◌>>=◌, is_given, text_at, paired_units, units_at, has_type}

-- ---- regular expressions and BigInts

abbrev pub reg_exp : Data → Option Shape
reg_exp d = do
  pattern ← units_at (codes "pattern") d
  flags ← units_at (codes "flags") d
  Some (shape.RegExpLiteral pattern flags)

-- the value of decimal digits behind others of this value
abbrev pub digits_from : ℕ → List ℕ → Option ℕ
digits_from n [] = Some n
digits_from n (c ∷ cs) = if is_digit c then digits_from (n * 10 + (c - 48)) cs else None

abbrev pub digits_value : List ℕ → Option ℕ
digits_value [] = None
digits_value (c ∷ cs) = digits_from 0 (c ∷ cs)

abbrev pub big_int : Data → Option ℕ
big_int d = option_and_then digits_value (text_at (codes "bigint") d)

-- ---- values

abbrev pub number_shape : Num → Option Shape
number_shape (unsigned n) = Some (shape.NumericLiteral (pos n))
number_shape (negative z) = None
number_shape (float x) = None

abbrev pub value_shape : Option Data → Option Shape
value_shape None = None
value_shape (Some null) = Some shape.NullLiteral
value_shape (Some (boolean b)) = Some (shape.BooleanLiteral b)
value_shape (Some (number n)) = number_shape n
value_shape (Some (string s)) = option_map shape.StringLiteral (paired_units s)
value_shape (Some (array ds)) = None
value_shape (Some (object ms)) = None

-- what a literal is: `regex` and `bigint` go before its value
abbrev pub literal : Data → Option Shape
literal d =
    if is_given (codes "regex") d then option_and_then reg_exp (get (codes "regex") d)
    else (if is_given (codes "bigint") d then option_map shape.BigIntLiteral (big_int d) else value_shape (get (codes "value") d))

-- ---- the literals that aren't read

-- a number that is fractional, or written as a float, or not safe
abbrev pub is_unread_number : Num → Bool
is_unread_number (unsigned n) = not (nat_le n max_safe_integer)
is_unread_number (negative z) = false
is_unread_number (float x) = true

-- a null literal whose text isn't null stands for a value that JSON can't write
abbrev pub is_unread_raw : Option Data → Bool
is_unread_raw None = false
is_unread_raw (Some (string s)) = not (is_text s (codes "null"))
is_unread_raw (Some d) = true

abbrev pub is_unread_value : Option Data → Option Data → Bool
is_unread_value (Some null) raw = is_unread_raw raw
is_unread_value (Some (number n)) raw = is_unread_number n
is_unread_value v raw = false

abbrev pub is_unread_literal : Data → Bool
is_unread_literal d =
    if is_given (codes "regex") d then false
    else (if is_given (codes "bigint") d then unwrap_or (option_map (λ n. not (nat_le n max_big_int)) (big_int d)) false
    else is_unread_value (get (codes "value") d) (get (codes "raw") d))

-- ---- the forms of literals that places ask for

abbrev pub is_string_shape : Option Shape → Bool
is_string_shape (Some (shape.StringLiteral s)) = true
is_string_shape _ = false

abbrev pub is_number_shape : Option Shape → Bool
is_number_shape (Some (shape.NumericLiteral n)) = true
is_number_shape _ = false

abbrev pub is_big_int_shape : Option Shape → Bool
is_big_int_shape (Some (shape.BigIntLiteral n)) = true
is_big_int_shape _ = false

abbrev pub is_literal_with : (Option Shape → Bool) → Data → Bool
is_literal_with test d = has_type (codes "Literal") d && test (literal d)

abbrev pub is_string_literal : Data → Bool
is_string_literal d = is_literal_with is_string_shape d

abbrev pub is_big_int_literal : Data → Bool
is_big_int_literal d = is_literal_with is_big_int_shape d

-- a literal that may be a key without brackets; of these a BigInt isn't read
abbrev pub is_key_literal : Data → Bool
is_key_literal d = is_string_literal d || (is_literal_with is_number_shape d || is_big_int_literal d)

-- a literal above 0, with a minus before it
abbrev pub negative_of : Option Shape → Option ℤ
negative_of (Some (shape.NumericLiteral (pos (suc n)))) = Some (negsuc n)
negative_of _ = None

abbrev pub with_minus : Data → Option ℤ
with_minus d = if has_type (codes "Literal") d then negative_of (literal d) else None
