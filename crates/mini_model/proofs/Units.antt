-- Units, the characters that they spell, and bytes.
use Rattle.std.proofs.Common.{◌≡◌, ℕ, ◌+◌, ◌-◌, ◌/◌, ◌%◌, ◌^◌, ◌<◌, ◌≤◌, ◌⊎◌, inl, inr, true, false, not, List, [], ◌∷◌, ◌++◌, Option, Some, None, SomeIff, is_some, length, get_or, drop, map, flat_map, IsUtf8, encode_utf8, encode_utf8_all, refl, sym, ap, ap₂, ◌∙◌, arith}
use Rattle.std.specs.Char.{IsScalar}
use Rattle.std.specs.Char.Escape.{encode_utf16}
use Rattle.std.specs.Char.Utf16.{utf16_chars, utf16_lossy_chars, lone_unit_char, surrogate_pair_char, has_unpaired_surrogate}
use Rattle.std.specs.List.{list_any}
use Rattle.std.specs.Prelude.{nat_lt}
use Rattle.std.specs.Option.{unwrap_or}
use Rattle.std.specs.Str.{chars}
use Rattle.std.proofs.Math.Utf8.{scalars, scalar_cases}
use Rattle.std.proofs.lemmas.Bool.{cases_lt, lt-ltb, ltb-true, le-ltb, lt-leb, le-leb, and_parts, and_from, or_parts}
use Rattle.std.proofs.lemmas.List.Elements.{All-head, All-tail, All-nil, All-cons}
use Rattle.std.proofs.lemmas.Str.{utf16_chars-nil, utf16_chars_lone, utf16_chars_pair, chars-nil, chars-encodes, chars_past_char, encodes-chars, scalars-chars}
use Rattle.mini_model.specs.Texts.{units_of, bytes_of, AllUnits, are_units, is_name_start, is_name_part, are_name_parts, is_name_of_chars, is_identifier_name}

-- the first is a high surrogate, and the second a low one
abbrev pub IsPair : ℕ → ℕ → Type 0
IsPair u v = (0xD800 ≤ u) × (u < 0xDC00) × (0xDC00 ≤ v) × (v < 0xE000)

pub IsPair-cases : (u v : ℕ) → IsPair u v ⊎ ¬ (IsPair u v)
IsPair-cases u v =
    elim (cases_lt u 0xD800) [
      | inl low ↦ inr (λ pair. omega arith)
      | inr high ↦ elim (cases_lt u 0xDC00) [
        | inr past ↦ inr (λ pair. omega arith)
        | inl below ↦ elim (cases_lt v 0xDC00) [
          | inl small ↦ inr (λ pair. omega arith)
          | inr large ↦ elim (cases_lt v 0xE000) [
            | inr over ↦ inr (λ pair. omega arith)
            | inl within ↦ inl (high, below, large, within)
          ]
        ]
      ]
    ]

-- the character of a unit outside the surrogates, and of a surrogate
pub lone_unit_char-cases : (u : ℕ) → ((lone_unit_char u ≡ Some u) × ((u < 0xD800) ⊎ (0xE000 ≤ u))) ⊎ ((lone_unit_char u ≡ None) × (0xD800 ≤ u) × (u < 0xE000))
lone_unit_char-cases u =
    elim (cases_lt u 0xD800) [
      | inl low ↦ inl (rw (lt-leb 0xD800 u low), inl low)
      | inr high ↦ elim (cases_lt u 0xE000) [
        | inl below ↦ inr (rw (le-leb 0xD800 u high, lt-ltb u 0xE000 below), high, below)
        | inr past ↦ inl (rw (le-leb 0xD800 u high, le-ltb u 0xE000 past), inr past)
      ]
    ]

-- a character below the surrogates or above them
pub IsScalar-low : (c : ℕ) → c < 0xD800 → IsScalar c
IsScalar-low c low = rw (lt-ltb c 0xD800 low)

pub IsScalar-high : (c : ℕ) → 0xE000 ≤ c → c < 0x11_0000 → IsScalar c
IsScalar-high c from below = rw (le-ltb c 0xD800 (omega arith), le-leb 0xE000 c from, lt-ltb c 0x11_0000 below)

pub IsScalar-unit : (u : ℕ) → u < 2 ^ 16 → (u < 0xD800) ⊎ (0xE000 ≤ u) → IsScalar u
IsScalar-unit u fits (inl low) = IsScalar-low u low
IsScalar-unit u fits (inr high) = IsScalar-high u high (omega arith)

-- what `char::from_u32` gives for a unit
pub lone_unit_char-from_u32 : (u : ℕ) (r : Option ℕ) → u < 2 ^ 16 → SomeIff r (IsScalar u) u → lone_unit_char u ≡ r
lone_unit_char-from_u32 u None fits some = elim (lone_unit_char-cases u) [
  | inr lone ↦ lone.0
  | inl whole ↦ absurd (some (IsScalar-unit u fits whole.1))
]
lone_unit_char-from_u32 u (Some c) fits some = elim (lone_unit_char-cases u) [
  | inl whole ↦ whole.0 ∙ ap Some (sym some.1)
  | inr lone ↦ absurd (elim (scalar_cases u some.0) [ inl low ↦ omega arith | inr high ↦ omega arith ])
]

-- the character in front, of a pair and of a unit alone
pub utf16_chars-front_pair : (units : List ℕ) (r : Option ℕ) → 2 ≤ length units → IsPair (get_or units 0 0) (get_or units 1 0)
    → r ≡ Some (surrogate_pair_char (get_or units 0 0) (get_or units 1 0)) → utf16_chars units ≡ r ∷ utf16_chars (drop 2 units)
utf16_chars-front_pair [] r long pair is = absurd (omega arith)
utf16_chars-front_pair (u ∷ []) r long pair is = absurd (omega arith)
utf16_chars-front_pair (u ∷ v ∷ us) r long pair is = utf16_chars_pair u v us pair ∙ ap (λ o. o ∷ utf16_chars us) (sym is)

pub utf16_chars-front_lone : (units : List ℕ) (r : Option ℕ) → 1 ≤ length units → ¬ (IsPair (get_or units 0 0) (get_or units 1 0))
    → lone_unit_char (get_or units 0 0) ≡ r → utf16_chars units ≡ r ∷ utf16_chars (drop 1 units)
utf16_chars-front_lone [] r long apart is = absurd (omega arith)
utf16_chars-front_lone (u ∷ us) r long apart is = utf16_chars_lone u us apart ∙ ap (λ o. o ∷ utf16_chars us) is

-- the units of a text, character by character
pub units_of-nil : units_of [] ≡ []
units_of-nil = ap (flat_map encode_utf16) chars-nil

pub units_of-cons : (bytes rest : List ℕ) (c : ℕ) → IsUtf8 bytes → bytes ≡ encode_utf8 c ++ rest → units_of bytes ≡ encode_utf16 c ++ units_of rest
units_of-cons bytes rest c utf8 is = ap (flat_map encode_utf16) (chars_past_char bytes rest c utf8 is)

-- what holds of the empty text, of a unit alone before a text, and of a pair before a text holds of every text
pub by_chars : (P : List ℕ → Type 0) → P [] → ((u : ℕ) (us : List ℕ) → ¬ (IsPair u (get_or us 0 0)) → P us → P (u ∷ us))
    → ((u v : ℕ) (us : List ℕ) → IsPair u v → P us → P (u ∷ v ∷ us)) → (us : List ℕ) → P us
by_chars P none lone pair [] = none
by_chars P none lone pair (u ∷ []) = lone u [] (λ p. omega arith) none
by_chars P none lone pair (u ∷ v ∷ us) = elim (IsPair-cases u v) [
  | inl p ↦ pair u v us p (by_chars P none lone pair us)
  | inr apart ↦ lone u (v ∷ us) apart (by_chars P none lone pair (v ∷ us))
]

-- one unit, and the two of a pair
pub encode_utf16-one : (c : ℕ) → c < 0x1_0000 → encode_utf16 c ≡ c ∷ []
encode_utf16-one c below = rw (lt-ltb c 0x1_0000 below)

pub encode_utf16-two : (c : ℕ) → 0x1_0000 ≤ c → encode_utf16 c ≡ (0xD800 + (c - 0x1_0000) / 0x400) ∷ (0xDC00 + (c - 0x1_0000) % 0x400) ∷ []
encode_utf16-two c from = rw (le-ltb c 0x1_0000 from)

pub encode_utf16-pair : (u v : ℕ) → IsPair u v → encode_utf16 (surrogate_pair_char u v) ≡ u ∷ v ∷ []
encode_utf16-pair u v pair =
    let c = surrogate_pair_char u v in
    encode_utf16-two c (omega arith) ∙ ap₂ (λ x y. x ∷ y ∷ []) (omega arith) (omega arith)

first_fits : (u : ℕ) (us : List ℕ) → AllUnits (u ∷ us) → u < 2 ^ 16
first_fits u us fits = All-head (λ x. x < 2 ^ 16) u us fits

rest_fits : (u : ℕ) (us : List ℕ) → AllUnits (u ∷ us) → AllUnits us
rest_fits u us fits = All-tail (λ x. x < 2 ^ 16) u us fits

-- the characters of units are scalar values
pub scalars-utf16_lossy_chars : (us : List ℕ) → AllUnits us → scalars (utf16_lossy_chars us) ≡ true
scalars-utf16_lossy_chars =
    by_chars (λ us. AllUnits us → scalars (utf16_lossy_chars us) ≡ true)
    (λ fits. rw utf16_chars-nil refl)
    (λ u us apart rest fits. rw (utf16_chars_lone u us apart) (and_from _ _ (scalar_lone u (first_fits u us fits)) (rest (rest_fits u us fits))))
    (λ u v us pair rest fits.
    rw (utf16_chars_pair u v us pair)
    (and_from _ _ (IsScalar-high (surrogate_pair_char u v) (omega arith) (omega arith)) (rest (rest_fits v us (rest_fits u (v ∷ us) fits)))))
  where
    scalar_lone : (u : ℕ) → u < 2 ^ 16 → IsScalar (unwrap_or (lone_unit_char u) 0xFFFD)
    scalar_lone u fits = elim (lone_unit_char-cases u) [
      | inl whole ↦ rw whole.0 (IsScalar-unit u fits whole.1)
      | inr lone ↦ rw lone.0 refl
    ]

-- where each surrogate has its partner, the units are those of the characters
pub flat_map-encode_utf16 : (us : List ℕ) → has_unpaired_surrogate us ≡ false → AllUnits us → flat_map encode_utf16 (utf16_lossy_chars us) ≡ us
flat_map-encode_utf16 =
    by_chars (λ us. has_unpaired_surrogate us ≡ false → AllUnits us → flat_map encode_utf16 (utf16_lossy_chars us) ≡ us)
    (λ paired fits. rw utf16_chars-nil refl)
    (λ u us apart rest paired fits.
    let any = rw (utf16_chars_lone u us apart) at paired in
    let parts = or_parts (not (is_some (lone_unit_char u))) _ any in
    rw (utf16_chars_lone u us apart)
    (ap₂ ◌++◌ (lone_units u (first_fits u us fits) parts.0) (rest parts.1 (rest_fits u us fits))))
    (λ u v us pair rest paired fits.
    let any = rw (utf16_chars_pair u v us pair) at paired in
    rw (utf16_chars_pair u v us pair)
    (ap₂ ◌++◌ (encode_utf16-pair u v pair) (rest any (rest_fits v us (rest_fits u (v ∷ us) fits)))))
  where
    lone_units : (u : ℕ) → u < 2 ^ 16 → not (is_some (lone_unit_char u)) ≡ false → encode_utf16 (unwrap_or (lone_unit_char u) 0xFFFD) ≡ u ∷ []
    lone_units u fits some = elim (lone_unit_char-cases u) [
      | inl whole ↦ rw whole.0 (encode_utf16-one u fits)
      | inr lone ↦ let none = rw lone.0 at some in cc
    ]

-- from units to bytes and back
pub units_of-bytes_of : (us : List ℕ) → has_unpaired_surrogate us ≡ false → AllUnits us → units_of (bytes_of us) ≡ us
units_of-bytes_of us paired fits =
    ap (flat_map encode_utf16) (chars-encodes (utf16_lossy_chars us) (scalars-utf16_lossy_chars us fits)) ∙ flat_map-encode_utf16 us paired fits

-- the units of a character spell it
pub utf16_chars-one : (c : ℕ) (us : List ℕ) → c < 0x1_0000 → (c < 0xD800) ⊎ (0xE000 ≤ c) → utf16_chars (encode_utf16 c ++ us) ≡ Some c ∷ utf16_chars us
utf16_chars-one c us below outside =
    let apart : ¬ (IsPair c (get_or us 0 0)) = λ pair. elim outside [ inl low ↦ omega arith | inr high ↦ omega arith ] in
    let whole : lone_unit_char c ≡ Some c = elim (lone_unit_char-cases c) [
      | inl outer ↦ outer.0
      | inr inner ↦ absurd (elim outside [ inl low ↦ omega arith | inr high ↦ omega arith ])
    ] in
    rw (encode_utf16-one c below) (utf16_chars_lone c us apart ∙ ap (λ o. o ∷ utf16_chars us) whole)

pub utf16_chars-two : (c : ℕ) (us : List ℕ) → 0x1_0000 ≤ c → c < 0x11_0000 → utf16_chars (encode_utf16 c ++ us) ≡ Some c ∷ utf16_chars us
utf16_chars-two c us from below =
    let u = 0xD800 + (c - 0x1_0000) / 0x400 in
    let v = 0xDC00 + (c - 0x1_0000) % 0x400 in
    let pair : IsPair u v = (omega arith, omega arith, omega arith, omega arith) in
    let same : surrogate_pair_char u v ≡ c = omega arith in
    rw (encode_utf16-two c from) (utf16_chars_pair u v us pair ∙ ap (λ d. Some d ∷ utf16_chars us) same)

-- the characters of the units of characters
pub utf16_chars-encode_utf16 : (cs : List ℕ) → scalars cs ≡ true → utf16_chars (flat_map encode_utf16 cs) ≡ map Some cs
utf16_chars-encode_utf16 [] all = utf16_chars-nil
utf16_chars-encode_utf16 (c ∷ cs) all =
    let parts = and_parts _ _ all in
    let front : utf16_chars (encode_utf16 c ++ flat_map encode_utf16 cs) ≡ Some c ∷ utf16_chars (flat_map encode_utf16 cs) = elim (scalar_cases c parts.0) [
      | inl low ↦ utf16_chars-one c _ (omega arith) (inl low)
      | inr high ↦ elim (cases_lt c 0x1_0000) [ inl below ↦ utf16_chars-one c _ below (inr high.0) | inr from ↦ utf16_chars-two c _ from high.1 ]
    ] in
    front ∙ ap (λ os. Some c ∷ os) (utf16_chars-encode_utf16 cs parts.1)

-- from bytes to units and back
pub bytes_of-units_of : (bytes : List ℕ) → IsUtf8 bytes → bytes_of (units_of bytes) ≡ bytes
bytes_of-units_of bytes utf8 =
    ap (λ os. encode_utf8_all (map (λ o. unwrap_or o 0xFFFD) os)) (utf16_chars-encode_utf16 (chars bytes) (scalars-chars bytes utf8))
    ∙ ap encode_utf8_all (known (chars bytes)) ∙ encodes-chars bytes utf8
  where
    known : (cs : List ℕ) → map (λ o. unwrap_or o 0xFFFD) (map Some cs) ≡ cs
    known [] = refl
    known (c ∷ cs) = ap (λ rest. c ∷ rest) (known cs)

-- a name has no surrogate without a partner
are_name_parts-paired : (cs : List (Option ℕ)) → are_name_parts cs ≡ true → list_any (λ o. not (is_some o)) cs ≡ false
are_name_parts-paired [] named = refl
are_name_parts-paired (None ∷ cs) named = cc
are_name_parts-paired (Some c ∷ cs) named = are_name_parts-paired cs (and_parts (is_name_part c) _ named).1

is_name_of_chars-paired : (cs : List (Option ℕ)) → is_name_of_chars cs ≡ true → list_any (λ o. not (is_some o)) cs ≡ false
is_name_of_chars-paired [] named = refl
is_name_of_chars-paired (None ∷ cs) named = cc
is_name_of_chars-paired (Some c ∷ cs) named = are_name_parts-paired cs (and_parts (is_name_start c) _ named).1

pub is_identifier_name-paired : (us : List ℕ) → is_identifier_name us ≡ true → has_unpaired_surrogate us ≡ false
is_identifier_name-paired us named = is_name_of_chars-paired (utf16_chars us) named

-- ---- units as a test tells them

are_units-append : (us vs : List ℕ) → are_units us ≡ true → are_units vs ≡ true → are_units (us ++ vs) ≡ true
are_units-append [] vs a b = b
are_units-append (u ∷ us) vs a b =
    let parts = and_parts (nat_lt u 0x1_0000) (are_units us) a in
    and_from (nat_lt u 0x1_0000) (are_units (us ++ vs)) parts.0 (are_units-append us vs parts.1 b)

are_units-encode : (c : ℕ) → IsScalar c → are_units (encode_utf16 c) ≡ true
are_units-encode c is = elim (cases_lt c 0x1_0000) [
  | inl low ↦ rw (encode_utf16-one c low, lt-ltb c 0x1_0000 low) refl
  | inr high ↦
      let below : c < 0x11_0000 = elim (scalar_cases c is) [ inl low ↦ omega arith | inr above ↦ omega arith ] in
      rw (encode_utf16-two c high, lt-ltb (0xD800 + (c - 0x1_0000) / 0x400) 0x1_0000 (omega arith), lt-ltb (0xDC00 + (c - 0x1_0000) % 0x400) 0x1_0000 (omega arith)) refl
]

are_units-chars : (cs : List ℕ) → scalars cs ≡ true → are_units (flat_map encode_utf16 cs) ≡ true
are_units-chars [] all = refl
are_units-chars (c ∷ cs) all =
    let parts = and_parts _ (scalars cs) all in
    are_units-append (encode_utf16 c) (flat_map encode_utf16 cs) (are_units-encode c parts.0) (are_units-chars cs parts.1)

-- the units of a text have 16 bits each
pub are_units-units_of : (s : List ℕ) → IsUtf8 s → are_units (units_of s) ≡ true
are_units-units_of s utf8 = are_units-chars (chars s) (scalars-chars s utf8)

pub AllUnits-are_units : (us : List ℕ) → are_units us ≡ true → AllUnits us
AllUnits-are_units [] all = All-nil (λ u. u < 2 ^ 16)
AllUnits-are_units (u ∷ us) all =
    let parts = and_parts (nat_lt u 0x1_0000) (are_units us) all in
    All-cons (λ u. u < 2 ^ 16) u us (ltb-true u 0x1_0000 parts.0) (AllUnits-are_units us parts.1)
