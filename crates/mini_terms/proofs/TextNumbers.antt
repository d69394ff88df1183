-- How the number of a text is read.
use Rattle.std.proofs.Common.{◌≡◌, ℕ, ℤ, zero, suc, ◌+◌, ◌<◌, ◌≤◌, Bool, true, false, List, [], ◌∷◌, length, get_or, drop, take, Option, Some, None, refl, sym, ap, ◌∙◌, true≢false, drop-cons, eqb-true, ltb-true, ltb-false, arith}
use Rattle.std.specs.Prelude.{◌-◌, ◌*◌, pos, negsuc, nat_lt, nat_eq, reverse}
use Rattle.std.proofs.Math.Seq.{take-suc}
use Rattle.std.proofs.lemmas.List.{drop_all, reverse-append, reverse-reverse}
use Rattle.mini_laws.specs.Value.{Value, Number, choose}
use Rattle.mini_laws.specs.Conversion.{Made, makes, raises, outside, is_space, without_space, digit, read_digits, read_number, signed, read_signed, base_of, read_based, read_trimmed}
use Rattle.mini_laws.specs.Operators.{number}
use Rattle.mini_terms.specs.Const.{made}
use Rattle.mini_terms.specs.Texts.{capped, IsSafe, safe_of, with_digit, read_on, read_zero}
use Rattle.mini_terms.specs.Values.{number_in}

nothing : {A : Type 0} {a : A} {B : Type 0} → None ≡ Some a → B
nothing e = cc e

-- ---- white space

first_space : (s : List ℕ) (i : ℕ) (b : Bool) → i < length s → is_space (get_or s i 0) ≡ b → without_space (drop i s) ≡ choose b (without_space (drop (suc i) s)) (get_or s i 0 ∷ drop (suc i) s)
first_space s i b h e = ap without_space (drop-cons s i 0 h) ∙ ap (λ c. choose c (without_space (drop (suc i) s)) (get_or s i 0 ∷ drop (suc i) s)) e

pub space_goes_on : (s : List ℕ) (i : ℕ) → i < length s → is_space (get_or s i 0) ≡ true → without_space (drop i s) ≡ without_space s → without_space (drop (i + 1) s) ≡ without_space s
space_goes_on s i h e inv = let next : i + 1 ≡ suc i = omega arith in ap (λ j. without_space (drop j s)) next ∙ sym (first_space s i true h e) ∙ inv

pub space_ends : (s : List ℕ) (i : ℕ) → i < length s → is_space (get_or s i 0) ≡ false → without_space (drop i s) ≡ without_space s → drop i s ≡ without_space s
space_ends s i h e inv = drop-cons s i 0 h ∙ sym (first_space s i false h e) ∙ inv

pub space_all : (s : List ℕ) (i : ℕ) → length s ≤ i → without_space (drop i s) ≡ without_space s → drop i s ≡ without_space s
space_all s i h inv = drop_all i s h ∙ sym (ap without_space (drop_all i s h)) ∙ inv

abbrev pub cut : List ℕ → List ℕ
cut s = reverse (without_space (reverse s))

last_unit : (s : List ℕ) (k : ℕ) → k < length s → reverse (take (suc k) s) ≡ get_or s k 0 ∷ reverse (take k s)
last_unit s k h = ap reverse (take-suc s k 0 h) ∙ reverse-append (take k s) (get_or s k 0 ∷ [])

last_space : (s : List ℕ) (k : ℕ) (b : Bool) → k < length s → is_space (get_or s k 0) ≡ b → cut (take (suc k) s) ≡ reverse (choose b (without_space (reverse (take k s))) (get_or s k 0 ∷ reverse (take k s)))
last_space s k b h e = ap (λ r. reverse (without_space r)) (last_unit s k h) ∙ ap (λ c. reverse (choose c (without_space (reverse (take k s))) (get_or s k 0 ∷ reverse (take k s)))) e

pub end_goes_on : (s : List ℕ) (i : ℕ) → 0 < i → i ≤ length s → is_space (get_or s (i - 1) 0) ≡ true → cut (take i s) ≡ cut s → cut (take (i - 1) s) ≡ cut s
end_goes_on s zero h k e inv = absurd (omega (arith, h))
end_goes_on s (suc i) h k e inv =
    let same : suc i - 1 ≡ i = omega arith in
    ap (λ j. cut (take j s)) same ∙ sym (last_space s i true (omega (arith, k)) (sym (ap (λ j. is_space (get_or s j 0)) same) ∙ e)) ∙ inv

pub end_ends : (s : List ℕ) (i : ℕ) → 0 < i → i ≤ length s → is_space (get_or s (i - 1) 0) ≡ false → cut (take i s) ≡ cut s → take i s ≡ cut s
end_ends s zero h k e inv = absurd (omega (arith, h))
end_ends s (suc i) h k e inv =
    let same : suc i - 1 ≡ i = omega arith in
    let less : i < length s = omega (arith, k) in
    sym (reverse-reverse (take (suc i) s))
    ∙ ap reverse (last_unit s i less)
    ∙ sym (last_space s i false less (sym (ap (λ j. is_space (get_or s j 0)) same) ∙ e))
    ∙ inv

pub end_none : (s : List ℕ) (i : ℕ) → i ≡ 0 → cut (take i s) ≡ cut s → take i s ≡ cut s
end_none s zero h inv = inv
end_none s (suc i) h inv = absurd (omega (arith, h))

-- ---- digits

-- one that is not safe never gets so
large : (n : ℕ) → 9_007_199_254_740_992 ≤ n → nat_lt n 9_007_199_254_740_992 ≡ false
large n h = go (nat_lt n 9_007_199_254_740_992) refl
  where
    go : (b : Bool) → nat_lt n 9_007_199_254_740_992 ≡ b → b ≡ false
    go false e = refl
    go true e = absurd (omega (arith, h, ltb-true n 9_007_199_254_740_992 e))

too_large : (n : ℕ) → 9_007_199_254_740_992 ≤ n → capped n ≡ None
too_large n h = ap (λ b. choose b (Some n) None) (large n h)

grown : (base n d : ℕ) → 0 < base → 9_007_199_254_740_992 ≤ n → 9_007_199_254_740_992 ≤ n * base + d
grown zero n d h k = absurd (omega (arith, h))
grown (suc b) n d h k = omega (arith, k)

none_of : (b : Bool) (o : Option ℕ) → safe_of o ≡ None → safe_of (choose b o None) ≡ None
none_of true o e = e
none_of false o e = refl

stays_large : (base : ℕ) → 0 < base → (cs : List ℕ) (n : ℕ) → 9_007_199_254_740_992 ≤ n → safe_of (read_digits base n cs) ≡ None
stays_large base h [] n k = too_large n k
stays_large base h (c ∷ cs) n k = none_of (nat_lt (digit c) base) (read_digits base (n * base + digit c) cs) (stays_large base h cs (n * base + digit c) (grown base n (digit c) h k))

nothing_read : (base : ℕ) (cs : List ℕ) → read_on base None cs ≡ None
nothing_read base [] = refl
nothing_read base (c ∷ cs) = nothing_read base cs

by_digit : (base : ℕ) (cs : List ℕ) (b : Bool) (n : ℕ) → read_on base (capped n) cs ≡ safe_of (read_digits base n cs) → read_on base (choose b (capped n) None) cs ≡ safe_of (choose b (read_digits base n cs) None)
by_digit base cs true n e = e
by_digit base cs false n e = nothing_read base cs

by_size : (base c n : ℕ) (cs : List ℕ) (b : Bool) → nat_lt n 9_007_199_254_740_992 ≡ b → 0 < base → read_on base (choose (nat_lt (digit c) base) (capped (n * base + digit c)) None) cs ≡ safe_of (read_digits base n (c ∷ cs)) → read_on base (with_digit base (choose b (Some n) None) c) cs ≡ safe_of (read_digits base n (c ∷ cs))
by_size base c n cs true e h same = same
by_size base c n cs false e h same = nothing_read base cs ∙ sym (stays_large base h (c ∷ cs) n (ltb-false n 9_007_199_254_740_992 e))

read_is : (base : ℕ) → 0 < base → (cs : List ℕ) (n : ℕ) → read_on base (capped n) cs ≡ safe_of (read_digits base n cs)
read_is base h [] n = refl
read_is base h (c ∷ cs) n = by_size base c n cs (nat_lt n 9_007_199_254_740_992) refl h (by_digit base cs (nat_lt (digit c) base) (n * base + digit c) (read_is base h cs (n * base + digit c)))

pub capped_safe : (n : ℕ) → IsSafe (capped n)
capped_safe n = go (nat_lt n 9_007_199_254_740_992) refl
  where
    go : (b : Bool) → nat_lt n 9_007_199_254_740_992 ≡ b → IsSafe (choose b (Some n) None)
    go true e = ltb-true n 9_007_199_254_740_992 e
    go false e = tt

pub digit_goes_on : (base : ℕ) (s : List ℕ) (i : ℕ) (o p r : Option ℕ) → i < length s → p ≡ with_digit base o (get_or s i 0) → read_on base o (drop i s) ≡ r → read_on base p (drop (i + 1) s) ≡ r
digit_goes_on base s i o p r h e inv =
    let next : i + 1 ≡ suc i = omega arith in
    ap (λ j. read_on base p (drop j s)) next ∙ ap (λ q. read_on base q (drop (suc i) s)) e ∙ sym (ap (read_on base o) (drop-cons s i 0 h)) ∙ inv

pub digits_end : (base : ℕ) (s : List ℕ) (i : ℕ) (o r : Option ℕ) → length s ≤ i → read_on base o (drop i s) ≡ r → o ≡ r
digits_end base s i o r h inv = sym (ap (read_on base o) (drop_all i s h)) ∙ inv

pub some_read : (base : ℕ) (s : List ℕ) → 0 < base → 0 < length s → read_on base (capped 0) s ≡ safe_of (read_number base s)
some_read base [] h k = absurd (omega (arith, k))
some_read base (c ∷ cs) h k = read_is base h (c ∷ cs) 0

-- ---- numbers

pub number_back : (r : Option ℤ) (m : Made ℤ) → number_in r ≡ made (number m) → r ≡ made m
number_back (Some n) (makes k) e = ap number_of e
  where
    number_of : Option Value → Option ℤ
    number_of (Some (Number n)) = Some n
    number_of v = None
number_back None (makes k) e = nothing e
number_back (Some n) raises e = nothing (sym e)
number_back (Some n) outside e = nothing (sym e)
number_back None raises e = refl
number_back None outside e = refl

never_signed : (minus : Bool) (n : ℕ) → nat_lt n 9_007_199_254_740_992 ≡ false → None ≡ made (signed minus n)
never_signed true zero e = refl
never_signed true (suc n) e = ap (λ b. made (choose b (makes (negsuc n)) outside)) (sym e)
never_signed false n e = ap (λ b. made (choose b (makes (pos n)) outside)) (sym e)

safe_same : (minus : Bool) (o : Option ℕ) → made (read_signed minus (safe_of o)) ≡ made (read_signed minus o)
safe_same minus None = refl
safe_same minus (Some n) = go (nat_lt n 9_007_199_254_740_992) refl
  where
    go : (b : Bool) → nat_lt n 9_007_199_254_740_992 ≡ b → made (read_signed minus (choose b (Some n) None)) ≡ made (signed minus n)
    go true e = refl
    go false e = never_signed minus n e

pub signed_read : (minus : Bool) (base : ℕ) (s : List ℕ) (o : Option ℕ) → o ≡ safe_of (read_number base s) → made (read_signed minus o) ≡ made (read_signed minus (read_number base s))
signed_read minus base s o e = ap (λ p. made (read_signed minus p)) e ∙ safe_same minus (read_number base s)

-- ---- after a `0`

pub zero_base : (s : List ℕ) → 0 < length s → base_of (get_or s 0 0) ≡ 0 → made (read_signed false (read_number 10 s)) ≡ read_zero s
zero_base [] h e = absurd (omega (arith, h))
zero_base (x ∷ cs) h e = sym (ap (λ b. made (read_based b x cs)) e)

pub other_base : (s : List ℕ) → 0 < length s → (base_of (get_or s 0 0) ≡ 0 → ⊥) → made (read_signed false (read_number (base_of (get_or s 0 0)) (drop 1 s))) ≡ read_zero s
other_base [] h e = absurd (omega (arith, h))
other_base (x ∷ cs) h e = go (base_of x) refl
  where
    go : (b : ℕ) → base_of x ≡ b → made (read_signed false (read_number b cs)) ≡ made (read_based b x cs)
    go zero f = absurd (e f)
    go (suc b) f = refl

-- ---- all

pub one_read : (s : List ℕ) → length s ≡ 1 → made (read_signed false (read_number 10 s)) ≡ made (read_trimmed s)
one_read (c ∷ []) h = refl
one_read [] h = absurd (omega (arith, h))
one_read (c ∷ (x ∷ cs)) h = absurd (omega (arith, h))

pub plus_read : (s : List ℕ) → 1 < length s → get_or s 0 0 ≡ 43 → made (read_signed false (read_number 10 (drop 1 s))) ≡ made (read_trimmed s)
plus_read [] h e = absurd (omega (arith, h))
plus_read (c ∷ []) h e = absurd (omega (arith, h))
plus_read (c ∷ (x ∷ cs)) h e = sym (ap (λ u. made (read_trimmed (u ∷ (x ∷ cs)))) e)

pub minus_read : (s : List ℕ) → 1 < length s → get_or s 0 0 ≡ 45 → made (read_signed true (read_number 10 (drop 1 s))) ≡ made (read_trimmed s)
minus_read [] h e = absurd (omega (arith, h))
minus_read (c ∷ []) h e = absurd (omega (arith, h))
minus_read (c ∷ (x ∷ cs)) h e = sym (ap (λ u. made (read_trimmed (u ∷ (x ∷ cs)))) e)

pub zero_read : (s : List ℕ) → 1 < length s → get_or s 0 0 ≡ 48 → read_zero (drop 1 s) ≡ made (read_trimmed s)
zero_read [] h e = absurd (omega (arith, h))
zero_read (c ∷ []) h e = absurd (omega (arith, h))
zero_read (c ∷ (x ∷ cs)) h e = sym (ap (λ u. made (read_trimmed (u ∷ (x ∷ cs)))) e)

unequal : (m n : ℕ) → (m ≡ n → ⊥) → nat_eq m n ≡ false
unequal m n h = go (nat_eq m n) refl
  where
    go : (b : Bool) → nat_eq m n ≡ b → b ≡ false
    go false e = refl
    go true e = absurd (h (eqb-true m n e))

pub other_read : (s : List ℕ) → 1 < length s → (get_or s 0 0 ≡ 43 → ⊥) → (get_or s 0 0 ≡ 45 → ⊥) → (get_or s 0 0 ≡ 48 → ⊥) → made (read_signed false (read_number 10 s)) ≡ made (read_trimmed s)
other_read [] h e f g = absurd (omega (arith, h))
other_read (c ∷ []) h e f g = absurd (omega (arith, h))
other_read (c ∷ (x ∷ cs)) h e f g = sym (chosen (nat_eq c 43) (nat_eq c 45) (nat_eq c 48) (unequal c 43 e) (unequal c 45 f) (unequal c 48 g))
  where
    chosen : (i j k : Bool) → i ≡ false → j ≡ false → k ≡ false → made (choose i (read_signed false (read_number 10 (x ∷ cs))) (choose j (read_signed true (read_number 10 (x ∷ cs))) (choose k (read_based (base_of x) x cs) (read_signed false (read_number 10 (c ∷ (x ∷ cs))))))) ≡ made (read_signed false (read_number 10 (c ∷ (x ∷ cs))))
    chosen false false false e f g = refl
    chosen true j k e f g = absurd (true≢false e)
    chosen false true k e f g = absurd (true≢false f)
    chosen false false true e f g = absurd (true≢false g)
