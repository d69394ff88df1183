-- Conversions of values to texts and numbers (ECMA-262, "Type Conversion"). An object is made
-- primitive before, by an event.
use Rattle.std.specs.Prelude.{ℕ, zero, suc, ◌+◌, ◌-◌, ◌*◌, nat_le, nat_lt, nat_eq, nat_abs, Bool, true, false, ◌&&◌, ◌||◌, List, [], ◌∷◌, reverse, length, codes, Option, Some, None, ℤ, pos, negsuc}
use Rattle.std.specs.Fmt.{signed_decimal}
use Rattle.mini_model.specs.Weight.{same_text}
use Rattle.mini_laws.specs.Value.{Value, Undefined, Null, Boolean, Number, String, Symbol, Object, choose}

-- what an operation makes: a result, a TypeError that is raised, or something outside the model
pub data Made (A : Type 0) : Type 0 where
  makes : A → Made A
  raises : Made A
  outside : Made A

-- of two operands, the left one first
abbrev pub both : {A B C : Type 0} → Made A → Made B → (A → B → Made C) → Made C
both (makes a) (makes b) f = f a b
both (makes a) raises f = raises
both (makes a) outside f = outside
both raises b f = raises
both outside b f = outside

abbrev pub text_of_boolean : Bool → List ℕ
text_of_boolean true = codes "true"
text_of_boolean false = codes "false"

-- ECMA-262, "ToString"
abbrev pub to_text : Value → Made (List ℕ)
to_text Undefined = makes (codes "undefined")
to_text Null = makes (codes "null")
to_text (Boolean b) = makes (text_of_boolean b)
to_text (Number n) = makes (signed_decimal n)
to_text (String s) = makes s
to_text (Symbol n) = raises
to_text (Object n is_function) = outside

-- ECMA-262, "StringToNumber"

-- white space and line ends
abbrev pub is_space : ℕ → Bool
is_space c = nat_eq c 32 || nat_eq c 160 || nat_eq c 65279 || nat_eq c 5760 || nat_eq c 8239 || nat_eq c 8287 || nat_eq c 12288 || nat_eq c 8232 || nat_eq c 8233 || (nat_le 9 c && nat_le c 13) || (nat_le 8192 c && nat_le c 8202)

abbrev pub without_space : List ℕ → List ℕ
without_space [] = []
without_space (c ∷ cs) = choose (is_space c) (without_space cs) (c ∷ cs)

abbrev pub trimmed : List ℕ → List ℕ
trimmed s = reverse (without_space (reverse (without_space s)))

abbrev pub between : ℕ → ℕ → ℕ → Bool
between low high c = nat_le low c && nat_le c high

-- 99 is no digit in any base
abbrev pub digit : ℕ → ℕ
digit c = choose (between 48 57 c) (c - 48) (choose (between 97 122 c) (c - 87) (choose (between 65 90 c) (c - 55) 99))

abbrev pub read_digits : ℕ → ℕ → List ℕ → Option ℕ
read_digits base n [] = Some n
read_digits base n (c ∷ cs) = choose (nat_lt (digit c) base) (read_digits base (n * base + digit c) cs) None

-- one digit at least
abbrev pub read_number : ℕ → List ℕ → Option ℕ
read_number base [] = None
read_number base (c ∷ cs) = read_digits base 0 (c ∷ cs)

-- from -(2^53 - 1) to 2^53 - 1
abbrev pub is_safe : ℤ → Bool
is_safe n = nat_lt (nat_abs n) 9_007_199_254_740_992

abbrev pub safe : ℤ → Made ℤ
safe n = choose (is_safe n) (makes n) outside

-- with a minus or without: -0 is outside
abbrev pub signed : Bool → ℕ → Made ℤ
signed true zero = outside
signed true (suc n) = safe (negsuc n)
signed false n = safe (pos n)

abbrev pub read_signed : Bool → Option ℕ → Made ℤ
read_signed minus (Some n) = signed minus n
read_signed minus None = outside

-- `0x`, `0o` or `0b`
abbrev pub base_of : ℕ → ℕ
base_of x = choose (nat_eq x 120 || nat_eq x 88) 16 (choose (nat_eq x 111 || nat_eq x 79) 8 (choose (nat_eq x 98 || nat_eq x 66) 2 0))

abbrev pub read_based : ℕ → ℕ → List ℕ → Made ℤ
read_based zero x cs = read_signed false (read_digits 10 0 (x ∷ cs))
read_based (suc base) x cs = read_signed false (read_number (suc base) cs)

abbrev pub read_trimmed : List ℕ → Made ℤ
read_trimmed [] = makes (pos 0)
read_trimmed (c ∷ []) = read_signed false (read_number 10 (c ∷ []))
read_trimmed (c ∷ (x ∷ cs)) = choose (nat_eq c 43) (read_signed false (read_number 10 (x ∷ cs))) (choose (nat_eq c 45) (read_signed true (read_number 10 (x ∷ cs))) (choose (nat_eq c 48) (read_based (base_of x) x cs) (read_signed false (read_number 10 (c ∷ (x ∷ cs))))))

-- ECMA-262, "ToNumber"
abbrev pub to_number : Value → Made ℤ
to_number Undefined = outside
to_number Null = makes (pos 0)
to_number (Boolean true) = makes (pos 1)
to_number (Boolean false) = makes (pos 0)
to_number (Number n) = makes n
to_number (String s) = read_trimmed (trimmed s)
to_number (Symbol n) = raises
to_number (Object n is_function) = outside

-- a key of a member: a Num, Bool, Null or Undefined is its text, and an object stays one (ECMA-262,
-- "ToPropertyKey")
abbrev pub key_value : Value → Value
key_value Undefined = String (codes "undefined")
key_value Null = String (codes "null")
key_value (Boolean b) = String (text_of_boolean b)
key_value (Number n) = String (signed_decimal n)
key_value v = v

-- what a text holds at a key without an event: its length, and its units (ECMA-262, "String Exotic
-- Objects")

abbrev pub unit_at : List ℕ → ℕ → Option Value
unit_at [] i = None
unit_at (c ∷ cs) zero = Some (String (c ∷ []))
unit_at (c ∷ cs) (suc i) = unit_at cs i

abbrev pub at_index : List ℕ → List ℕ → Made ℤ → Option Value
at_index s k (makes (pos i)) = choose (same_text k (signed_decimal (pos i))) (unit_at s i) None
at_index s k _ = None

abbrev pub text_member : List ℕ → List ℕ → Option Value
text_member s k = choose (same_text k (codes "length")) (Some (Number (pos (length s)))) (at_index s k (read_trimmed k))

abbrev pub known_member : Value → Value → Option Value
known_member (String s) (String k) = text_member s k
known_member _ _ = None
