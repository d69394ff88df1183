-- Texts in which each half of a surrogate pair has the other: the tokens of a text keep that.
use Rattle.std.proofs.Common.{◌≡◌, ℕ, zero, suc, ◌+◌, ◌<◌, ◌≤◌, Bool, true, false, ◌&&◌, ◌||◌, not, List, [], ◌∷◌, ◌++◌, refl, sym, ap, ◌∙◌, arith}
use Rattle.std.specs.Prelude.{Option, Some, None, nat_lt, nat_le, nat_eq, is_some, ◌/◌, ◌%◌, ◌==◌, if◌then◌else◌, codes}
use Rattle.std.specs.List.{list_any}
use Rattle.std.specs.Fmt.{digit_glyph, digits_onto, digits, decimal}
use Rattle.std.specs.Char.Utf16.{utf16_chars, lone_unit_char, is_high_surrogate, is_low_surrogate, surrogate_pair_char, has_unpaired_surrogate}
use Rattle.std.proofs.lemmas.Bool.{false≢true, ltb-true, ltb-false, leb-true, lt-ltb, le-leb, eqb-true}
use Rattle.mini_model.specs.Texts.{are_units, is_identifier_name}
use Rattle.mini_model.proofs.Units.{is_identifier_name-paired}
use Rattle.mini_model.specs.declared.operator.AssignmentOperator.{AssignmentOperator}
use Rattle.mini_model.specs.declared.operator.AssignmentOperator.TheVariants as assignment
use Rattle.mini_accept.specs.WellShaped.{is_name, is_paired}
use Rattle.mini_print.specs.Token.{Token, Word, Punct, Number, BigInt, Quoted, Pattern, Private, TemplateWhole, TemplateHead, TemplateMiddle, TemplateTail, Assigns}
use Rattle.mini_print.specs.Text.{is_word, is_quotable, is_raw, assignment_spelling, spelled, holds_bare, escape, escaped, is_letter, are_letters, text_of}
use Rattle.mini_print.proofs.Escapes.{escaped_quotable}
use Rattle.mini_print.specs.Compact.{apart, compact_text_of}
use Rattle.mini_printable.proofs.Clean.{and_l, and_r, both}
use Rattle.mini_printable.proofs.Words.{name_is_word}

-- behind a first half, or not
abbrev pub has_pairs : Bool → List ℕ → Bool
has_pairs true [] = false
has_pairs false [] = true
has_pairs true (u ∷ us) = is_low_surrogate u && has_pairs false us
has_pairs false (u ∷ us) = if is_high_surrogate u then has_pairs true us else (not (is_low_surrogate u) && has_pairs false us)

-- ---- the same by characters

abbrev missing : Option ℕ → Bool
missing o = not (is_some o)

abbrev is_surrogate : ℕ → Bool
is_surrogate u = nat_le 0xD800 u && nat_lt u 0xE000

missing_lone : (b : Bool) (u : ℕ) → missing (if b then None else Some u) ≡ b
missing_lone true u = refl
missing_lone false u = refl

-- a surrogate is a first half or a second one
halves : (u : ℕ) → is_surrogate u ≡ (is_high_surrogate u || is_low_surrogate u)
halves u = by (nat_lt u 0xDC00) refl
  where
    wide : u < 0xDC00 → u < 0xE000
    wide h = omega (arith, h)

    high : 0xDC00 ≤ u → 0xD800 ≤ u
    high h = omega (arith, h)

    low : (a : Bool) → (a && true) ≡ ((a && true) || (false && true))
    low true = refl
    low false = refl

    apart' : u < 0xDC00 → nat_le 0xDC00 u ≡ false
    apart' h = under (nat_le 0xDC00 u) refl h
      where
        never : 0xDC00 ≤ u → u < 0xDC00 → ⊥
        never a b = omega (arith, a, b)

        under : (b : Bool) → nat_le 0xDC00 u ≡ b → u < 0xDC00 → b ≡ false
        under false e h = refl
        under true e h = absurd (never (leb-true 0xDC00 u e) h)

    by : (b : Bool) → nat_lt u 0xDC00 ≡ b → is_surrogate u ≡ (is_high_surrogate u || is_low_surrogate u)
    by true e =
        let h = ltb-true u 0xDC00 e in
        ap (λ d. nat_le 0xD800 u && d) (lt-ltb u 0xE000 (wide h)) ∙ low (nat_le 0xD800 u) ∙
        sym (ap (λ b. (nat_le 0xD800 u && b) || is_low_surrogate u) e ∙ ap (λ c. (nat_le 0xD800 u && true) || (c && nat_lt u 0xE000)) (apart' h) ∙ ap (λ d. (nat_le 0xD800 u && true) || (false && d)) (lt-ltb u 0xE000 (wide h)))
    by false e =
        let h = ltb-false u 0xDC00 e in
        ap (λ a. a && nat_lt u 0xE000) (le-leb 0xD800 u (high h)) ∙
        sym (ap (λ b. (nat_le 0xD800 u && b) || is_low_surrogate u) e ∙ ap (λ a. (a && false) || is_low_surrogate u) (le-leb 0xD800 u (high h)) ∙ ap (λ c. c && nat_lt u 0xE000) (le-leb 0xDC00 u h))

abbrev chars_by : Bool → ℕ → ℕ → List ℕ → List (Option ℕ)
chars_by pair u v us = if pair then Some (surrogate_pair_char u v) ∷ utf16_chars us else lone_unit_char u ∷ utf16_chars (v ∷ us)

abbrev pairs_by : Bool → Bool → Bool → Bool → Bool → Bool
pairs_by h l low rest more = if h then low && rest else (not l && more)

two_units : (h l low s rest more : Bool) (a b : Bool) → s ≡ (h || l) → a ≡ not rest → b ≡ not more → (if h && low then a else (s || b)) ≡ not (pairs_by h l low rest more)
two_units true l true s rest more a b e f g = f
two_units true l false s rest more a b e f g = ap (λ z. z || b) e
two_units false true low s rest more a b e f g = ap (λ z. z || b) e
two_units false false low s rest more a b e f g = ap (λ z. z || b) e ∙ g

one_unit : (h l s : Bool) → s ≡ (h || l) → (s || false) ≡ not (if h then false else (not l && true))
one_unit true l s e = ap (λ z. z || false) e
one_unit false true s e = ap (λ z. z || false) e
one_unit false false s e = ap (λ z. z || false) e

any_by : (pair : Bool) (u v : ℕ) (us : List ℕ) → list_any missing (chars_by pair u v us) ≡ (if pair then list_any missing (utf16_chars us) else (is_surrogate u || list_any missing (utf16_chars (v ∷ us))))
any_by true u v us = refl
any_by false u v us = ap (λ z. z || list_any missing (utf16_chars (v ∷ us))) (missing_lone (is_surrogate u) u)

unpaired_by : (s : List ℕ) → has_unpaired_surrogate s ≡ not (has_pairs false s)
unfolding utf16_chars
unpaired_by [] = refl
unpaired_by (u ∷ []) = ap (λ z. z || false) (missing_lone (is_surrogate u) u) ∙ one_unit (is_high_surrogate u) (is_low_surrogate u) (is_surrogate u) (halves u)
unpaired_by (u ∷ (v ∷ us)) =
    any_by (is_high_surrogate u && is_low_surrogate v) u v us ∙
    two_units (is_high_surrogate u) (is_low_surrogate u) (is_low_surrogate v) (is_surrogate u) (has_pairs false us) (has_pairs false (v ∷ us)) (list_any missing (utf16_chars us)) (list_any missing (utf16_chars (v ∷ us))) (halves u) (unpaired_by us) (unpaired_by (v ∷ us))

not_back : (b : Bool) → not (not b) ≡ b
not_back true = refl
not_back false = refl

pub paired_has_pairs : (s : List ℕ) → is_paired s ≡ true → has_pairs false s ≡ true
paired_has_pairs s e = sym (not_back (has_pairs false s)) ∙ sym (ap not (unpaired_by s)) ∙ and_r (are_units s) (not (has_unpaired_surrogate s)) e

pub name_has_pairs : (s : List ℕ) → is_name s ≡ true → has_pairs false s ≡ true
name_has_pairs s e = sym (not_back (has_pairs false s)) ∙ sym (ap not (unpaired_by s)) ∙ ap not (is_identifier_name-paired s (and_r (are_units s) (is_identifier_name s) e))

pub has_no_half : (s : List ℕ) → has_pairs false s ≡ true → has_unpaired_surrogate s ≡ false
has_no_half s e = unpaired_by s ∙ ap not e

-- ---- texts that stand one behind the other

by_high : (h l : Bool) (p q r s : Bool) → (if h then p else (not l && q)) ≡ true → (p ≡ true → r ≡ true) → (q ≡ true → s ≡ true) → (if h then r else (not l && s)) ≡ true
by_high true l p q r s e f g = f e
by_high false l p q r s e f g = both (not l) s (and_l (not l) q e) (g (and_r (not l) q e))

pub joined : (b : Bool) (s t : List ℕ) → has_pairs b s ≡ true → has_pairs false t ≡ true → has_pairs b (s ++ t) ≡ true
joined true [] t e f = absurd (false≢true e)
joined false [] t e f = f
joined true (u ∷ s) t e f = both (is_low_surrogate u) (has_pairs false (s ++ t)) (and_l (is_low_surrogate u) (has_pairs false s) e) (joined false s t (and_r (is_low_surrogate u) (has_pairs false s) e) f)
joined false (u ∷ s) t e f = by_high (is_high_surrogate u) (is_low_surrogate u) (has_pairs true s) (has_pairs false s) (has_pairs true (s ++ t)) (has_pairs false (s ++ t)) e (λ p. joined true s t p f) (λ q. joined false s t q f)

-- a unit below the surrogates stands alone
plain_by : (h l r : Bool) (s : Bool) → h ≡ false → l ≡ false → r ≡ true → (if h then s else (not l && r)) ≡ true
plain_by true l r s e f g = absurd (false≢true (sym e))
plain_by false true r s e f g = absurd (false≢true (sym f))
plain_by false false r s e f g = g

not_least : (k u : ℕ) → u < k → nat_le k u ≡ false
not_least k u h = by (nat_le k u) refl
  where
    never : k ≤ u → u < k → ⊥
    never a b = omega (arith, a, b)

    by : (b : Bool) → nat_le k u ≡ b → b ≡ false
    by false e = refl
    by true e = absurd (never (leb-true k u e) h)

pub small_first : (u : ℕ) (s : List ℕ) → u < 0xD800 → has_pairs false s ≡ true → has_pairs false (u ∷ s) ≡ true
small_first u s h e = plain_by (is_high_surrogate u) (is_low_surrogate u) (has_pairs false s) (has_pairs true s) (ap (λ a. a && nat_lt u 0xDC00) (not_least 0xD800 u h)) (ap (λ a. a && nat_lt u 0xE000) (not_least 0xDC00 u (higher h))) e
  where
    higher : u < 0xD800 → u < 0xDC00
    higher a = omega (arith, a)

-- ---- digits, letters, escapes

glyph_small : (n : ℕ) → digit_glyph false (n % 10) < 0xD800
glyph_small n = go (nat_lt (n % 10) 10)
  where
    go : (b : Bool) → (if b then 48 + n % 10 else 87 + n % 10) < 0xD800
    go true = omega arith
    go false = omega arith

picked : (b : Bool) (s t : List ℕ) → has_pairs false s ≡ true → has_pairs false t ≡ true → has_pairs false (if b then s else t) ≡ true
picked true s t h k = h
picked false s t h k = k

digits_pair : (k n : ℕ) (ds : List ℕ) → has_pairs false ds ≡ true → has_pairs false (digits_onto k 10 false n ds) ≡ true
digits_pair zero n ds e = e
digits_pair (suc k) n ds e =
    let first = small_first (digit_glyph false (n % 10)) ds (glyph_small n) e in
    picked (n / 10 == 0) (digit_glyph false (n % 10) ∷ ds) (digits_onto k 10 false (n / 10) (digit_glyph false (n % 10) ∷ ds)) first (digits_pair k (n / 10) (digit_glyph false (n % 10) ∷ ds) first)

decimal_pair : (n : ℕ) → has_pairs false (decimal n) ≡ true
unfolding digits
decimal_pair n = digits_pair 64 n [] refl

letter_small : (c : ℕ) → is_letter c ≡ true → c < 0xD800
letter_small c e = by (nat_lt c 123) refl
  where
    small : c < 123 → c < 0xD800
    small h = omega (arith, h)

    upper : c < 91 → 123 ≤ c → ⊥
    upper a b = omega (arith, a, b)

    by : (b : Bool) → nat_lt c 123 ≡ b → c < 0xD800
    by true d = small (ltb-true c 123 d)
    by false d = absurd (large (nat_lt c 91) refl)
      where
        large : (b : Bool) → nat_lt c 91 ≡ b → ⊥
        large true f = upper (ltb-true c 91 f) (ltb-false c 123 d)
        large false f = false≢true (sym (ap (λ z. (nat_lt 64 c && z) || (nat_lt 96 c && nat_lt c 123)) f ∙ ap (λ z. (nat_lt 64 c && false) || (nat_lt 96 c && z)) d ∙ neither (nat_lt 64 c) (nat_lt 96 c)) ∙ e)
          where
            neither : (a b : Bool) → ((a && false) || (b && false)) ≡ false
            neither true true = refl
            neither true false = refl
            neither false true = refl
            neither false false = refl

letters_pair : (s : List ℕ) → are_letters s ≡ true → has_pairs false s ≡ true
letters_pair [] e = refl
letters_pair (c ∷ s) e = small_first c s (letter_small c (and_l (is_letter c) (are_letters s) e)) (letters_pair s (and_r (is_letter c) (are_letters s) e))

-- an escape stands for its unit, and begins with no half of a pair where that is none
escape_pair : (b : Bool) (c : ℕ) (r t : List ℕ) → (has_pairs b (c ∷ r) ≡ true → (has_pairs true r ≡ true → has_pairs true t ≡ true) → (has_pairs false r ≡ true → has_pairs false t ≡ true) → has_pairs b (escape c ++ t) ≡ true)
escape_pair b c r t e f g = by (nat_eq c 34) (nat_eq c 92) (nat_eq c 10) (nat_eq c 13) (nat_eq c 8232) (nat_eq c 8233) refl refl refl refl refl refl
  where
    plain : (b : Bool) → has_pairs b (c ∷ r) ≡ true → has_pairs b (c ∷ t) ≡ true
    plain true d = both (is_low_surrogate c) (has_pairs false t) (and_l (is_low_surrogate c) (has_pairs false r) d) (g (and_r (is_low_surrogate c) (has_pairs false r) d))
    plain false d = by_high (is_high_surrogate c) (is_low_surrogate c) (has_pairs true r) (has_pairs false r) (has_pairs true t) (has_pairs false t) d f g

    -- a unit that is no half
    at : (k : ℕ) (w : List ℕ) → ((b : Bool) → has_pairs b (k ∷ r) ≡ true → has_pairs b (w ++ t) ≡ true) → nat_eq c k ≡ true → has_pairs b (w ++ t) ≡ true
    at k w h i = h b (ap (λ y. has_pairs b (y ∷ r)) (sym (eqb-true c k i)) ∙ e)

    small : (k : ℕ) (w : List ℕ) → is_high_surrogate k ≡ false → is_low_surrogate k ≡ false → (has_pairs false t ≡ true → has_pairs false (w ++ t) ≡ true) → (b : Bool) → has_pairs b (k ∷ r) ≡ true → has_pairs b (w ++ t) ≡ true
    small k w x y h true d = absurd (false≢true (sym y ∙ and_l (is_low_surrogate k) (has_pairs false r) d))
    small k w x y h false d = h (g (and_r (not (is_low_surrogate k)) (has_pairs false r) (sym (ap (λ z. if z then has_pairs true r else (not (is_low_surrogate k) && has_pairs false r)) x) ∙ d)))

    by : (p q u s v w : Bool) → nat_eq c 34 ≡ p → nat_eq c 92 ≡ q → nat_eq c 10 ≡ u → nat_eq c 13 ≡ s → nat_eq c 8232 ≡ v → nat_eq c 8233 ≡ w →
        has_pairs b ((if p then 92 ∷ 34 ∷ [] else (if q then 92 ∷ 92 ∷ [] else (if u then 92 ∷ 110 ∷ [] else (if s then 92 ∷ 114 ∷ [] else (if v then codes "\\u2028" else (if w then codes "\\u2029" else c ∷ [])))))) ++ t) ≡ true
    by true q u s v w i j k l m n = at 34 (92 ∷ 34 ∷ []) (small 34 (92 ∷ 34 ∷ []) refl refl (λ d. d)) i
    by false true u s v w i j k l m n = at 92 (92 ∷ 92 ∷ []) (small 92 (92 ∷ 92 ∷ []) refl refl (λ d. d)) j
    by false false true s v w i j k l m n = at 10 (92 ∷ 110 ∷ []) (small 10 (92 ∷ 110 ∷ []) refl refl (λ d. d)) k
    by false false false true v w i j k l m n = at 13 (92 ∷ 114 ∷ []) (small 13 (92 ∷ 114 ∷ []) refl refl (λ d. d)) l
    by false false false false true w i j k l m n = at 8232 (codes "\\u2028") (small 8232 (codes "\\u2028") refl refl (λ d. d)) m
    by false false false false false true i j k l m n = at 8233 (codes "\\u2029") (small 8233 (codes "\\u2029") refl refl (λ d. d)) n
    by false false false false false false i j k l m n = plain b e

escaped_pair : (b : Bool) (s : List ℕ) → has_pairs b s ≡ true → has_pairs b (escaped s) ≡ true
escaped_pair b [] e = e
escaped_pair b (c ∷ s) e = escape_pair b c s (escaped s) e (λ p. escaped_pair true s p) (λ p. escaped_pair false s p)

pub escaped_has_pairs : (s : List ℕ) → has_pairs false s ≡ true → has_pairs false (escaped s) ≡ true
escaped_has_pairs s e = escaped_pair false s e

-- ---- tokens

-- what a token has of the tree
abbrev pub inner : Token → List ℕ
inner (Word s) = s
inner (Punct p) = []
inner (Number n) = []
inner (BigInt n) = []
inner (Quoted s) = s
inner (Pattern p f) = p
inner (Private s) = s
inner (TemplateWhole s) = s
inner (TemplateHead s) = s
inner (TemplateMiddle s) = s
inner (TemplateTail s) = s

abbrev pub has_letters : Token → Bool
has_letters (Pattern p f) = are_letters f
has_letters x = true

quoted_pair : (b : Bool) (s : List ℕ) → has_pairs false s ≡ true → has_pairs false ((if b then 39 else 34) ∷ (s ++ ((if b then 39 else 34) ∷ []))) ≡ true
quoted_pair true s e = joined false s (39 ∷ []) e refl
quoted_pair false s e = joined false s (34 ∷ []) e refl

assigned_pair : (o : AssignmentOperator) → has_pairs false (assignment_spelling o) ≡ true
assigned_pair assignment.Assign = refl
assigned_pair o = refl

spelled_pair : (x : Token) → has_letters x ≡ true → has_pairs false (inner x) ≡ true → has_pairs false (spelled x) ≡ true
spelled_pair (Word s) l e = e
spelled_pair (Punct (Assigns o)) l e = assigned_pair o
spelled_pair (Punct p) l e = refl
spelled_pair (Number n) l e = decimal_pair n
spelled_pair (BigInt n) l e = joined false (decimal n) (codes "n") (decimal_pair n) refl
spelled_pair (Quoted s) l e = quoted_pair (holds_bare 34 false s) s e
spelled_pair (Pattern p f) l e = joined false p (47 ∷ f) e (letters_pair f l)
spelled_pair (Private s) l e = e
spelled_pair (TemplateWhole s) l e = joined false s (codes "`") e refl
spelled_pair (TemplateHead s) l e = joined false s (codes "${") e refl
spelled_pair (TemplateMiddle s) l e = joined false s (codes "${") e refl
spelled_pair (TemplateTail s) l e = joined false s (codes "`") e refl

abbrev pub has_whole_text : Token → Bool
has_whole_text x = has_letters x && has_pairs false (inner x)

abbrev pub have_whole_texts : List Token → Bool
have_whole_texts [] = true
have_whole_texts (x ∷ ts) = has_whole_text x && have_whole_texts ts

token_pair : (x : Token) (ts : List Token) → have_whole_texts (x ∷ ts) ≡ true → has_pairs false (spelled x) ≡ true
token_pair x ts e = let w = and_l (has_whole_text x) (have_whole_texts ts) e in spelled_pair x (and_l (has_letters x) (has_pairs false (inner x)) w) (and_r (has_letters x) (has_pairs false (inner x)) w)

text_pair : (ts : List Token) → have_whole_texts ts ≡ true → has_pairs false (text_of ts) ≡ true
text_pair [] e = refl
text_pair (x ∷ []) e = token_pair x [] e
text_pair (x ∷ (y ∷ ts)) e = joined false (spelled x) (32 ∷ text_of (y ∷ ts)) (token_pair x (y ∷ ts) e) (text_pair (y ∷ ts) (and_r (has_whole_text x) (have_whole_texts (y ∷ ts)) e))

blank_pair : (b : Bool) (s : List ℕ) → has_pairs false s ≡ true → has_pairs false (if b then 32 ∷ s else s) ≡ true
blank_pair true s e = e
blank_pair false s e = e

compact_pair : (ts : List Token) → have_whole_texts ts ≡ true → has_pairs false (compact_text_of ts) ≡ true
compact_pair [] e = refl
compact_pair (x ∷ []) e = token_pair x [] e
compact_pair (x ∷ (y ∷ ts)) e = joined false (spelled x) (if apart x y then 32 ∷ compact_text_of (y ∷ ts) else compact_text_of (y ∷ ts)) (token_pair x (y ∷ ts) e) (blank_pair (apart x y) (compact_text_of (y ∷ ts)) (compact_pair (y ∷ ts) (and_r (has_whole_text x) (have_whole_texts (y ∷ ts)) e)))

pub text_whole : (ts : List Token) → have_whole_texts ts ≡ true → has_unpaired_surrogate (text_of ts) ≡ false
text_whole ts e = has_no_half (text_of ts) (text_pair ts e)

pub compact_whole : (ts : List Token) → have_whole_texts ts ≡ true → has_unpaired_surrogate (compact_text_of ts) ≡ false
compact_whole ts e = has_no_half (compact_text_of ts) (compact_pair ts e)

-- what the tokens of names, texts and templates have to be

abbrev pub is_spelling : List ℕ → Bool
is_spelling s = is_word s && has_pairs false s

abbrev pub is_said_raw : List ℕ → Bool
is_said_raw s = is_raw false s && has_pairs false s

pub name_is_spelled : (s : List ℕ) → is_name s ≡ true → is_spelling s ≡ true
name_is_spelled s e = both (is_word s) (has_pairs false s) (name_is_word s e) (name_has_pairs s e)

pub text_is_said : (s : List ℕ) → has_pairs false s ≡ true → (is_quotable (escaped s) && has_pairs false (escaped s)) ≡ true
text_is_said s e = both (is_quotable (escaped s)) (has_pairs false (escaped s)) (escaped_quotable s) (escaped_has_pairs s e)
