-- Tokens that are put one before the other.
use Rattle.std.proofs.Common.{◌≡◌, ℕ, zero, suc, ◌+◌, ◌-◌, List, [], ◌∷◌, ◌++◌, length, take, drop, refl, ap, sym, ◌∙◌, arith}
use Rattle.std.specs.Prelude.{option_map, slice_get}
use Rattle.std.proofs.lemmas.List.{drop-drop}
use Rattle.mini_print.specs.Token as tokens
use Rattle.mini_grammar.specs.declared.token.Token.{Token}
use Rattle.mini_grammar.specs.Views.{before, token_of}
use Rattle.mini_grammar.specs.Firsts.{first_of}

pub one_more_on : (xs : List Token) (x : Token) (ts : List tokens.Token) → before (xs ++ x ∷ []) ts ≡ token_of x ∷ before xs ts
one_more_on [] x ts = refl
one_more_on (y ∷ xs) x ts = one_more_on xs x (token_of y ∷ ts)

pub one_more : (xs : List Token) (x : Token) → before (xs ++ x ∷ []) [] ≡ token_of x ∷ before xs []
one_more xs x = one_more_on xs x []

many_on : (xs : List Token) (ts : List tokens.Token) → length (before xs ts) ≡ length xs + length ts
many_on [] ts = omega arith
many_on (x ∷ xs) ts = let more = many_on xs (token_of x ∷ ts) in omega (arith, more)

pub as_many : (xs : List Token) → length (before xs []) ≡ length xs
as_many xs = let more = many_on xs [] in omega (arith, more)

first_on : (x : Token) (xs : List Token) (ts : List tokens.Token) → option_map token_of (slice_get (x ∷ xs) (length xs)) ≡ first_of (before (x ∷ xs) ts)
first_on x [] ts = refl
first_on x (y ∷ xs) ts = first_on y xs (token_of x ∷ ts)

pub first_is : (xs : List Token) → option_map token_of (slice_get xs (length xs - 1)) ≡ first_of (before xs [])
first_is [] = refl
first_is (x ∷ xs) = let same : length (x ∷ xs) - 1 ≡ length xs = omega arith in rw same (first_on x xs [])

all_off : (xs : List Token) (ts : List tokens.Token) → drop (length xs) (before xs ts) ≡ ts
all_off [] ts = refl
all_off (x ∷ xs) ts =
    let more : drop (length xs + 1) (before xs (token_of x ∷ ts)) ≡ drop 1 (drop (length xs) (before xs (token_of x ∷ ts))) = sym (drop-drop 1 (length xs) (before xs (token_of x ∷ ts))) in
    let same : length (x ∷ xs) ≡ length xs + 1 = omega arith in
    ap (λ n. drop n (before xs (token_of x ∷ ts))) same ∙ (more ∙ ap (λ us. drop 1 us) (all_off xs (token_of x ∷ ts)))

last_on : (n : ℕ) (xs : List Token) (ts : List tokens.Token) → before (take n xs) ts ≡ drop (length xs - n) (before xs ts)
last_on zero [] ts = refl
last_on (suc n) [] ts = let same : 0 - suc n ≡ 0 = omega arith in sym (ap (λ m. drop m ts) same)
last_on zero (x ∷ xs) ts = let same : length (x ∷ xs) - 0 ≡ length (x ∷ xs) = omega arith in sym (ap (λ m. drop m (before (x ∷ xs) ts)) same ∙ all_off (x ∷ xs) ts)
last_on (suc n) (x ∷ xs) ts = let same : length (x ∷ xs) - suc n ≡ length xs - n = omega arith in last_on n xs (token_of x ∷ ts) ∙ sym (ap (λ m. drop m (before xs (token_of x ∷ ts))) same)

pub last_ones : (n : ℕ) (xs : List Token) → before (take n xs) [] ≡ drop (length (before xs []) - n) (before xs [])
last_ones n xs = last_on n xs [] ∙ ap (λ m. drop (m - n) (before xs [])) (sym (as_many xs))
