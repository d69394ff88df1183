-- Tokens, from the last one on, of which each regular expression is told from a division.
use Rattle.std.proofs.Common.{◌≡◌, ℕ, ◌+◌, ◌<◌, ◌≤◌, Bool, true, false, not, ◌&&◌, ◌||◌, List, [], ◌∷◌, length, get_or, drop, refl, sym, ap, ◌∙◌}
use Rattle.std.proofs.lemmas.List.{at_drop_more, at_drop_all}
use Rattle.std.proofs.lemmas.Bool.{false≢true}
use Rattle.mini_grammar.specs.declared.token.Token.{Token}
use Rattle.mini_grammar.specs.Views.{before, token_of}
use Rattle.mini_print.specs.Token as tokens
use Rattle.mini_print.specs.Token.{Pattern}
use Rattle.mini_print.specs.Text.{ends_operand, begins_plainly, is_told, are_told}
use Rattle.mini_tokens.specs.Spelling.{is_plain}

-- behind what is plain or not, each token that isn't stands behind one with which no operand ends
abbrev pub clear : Bool → List Token → Bool
clear p [] = true
clear p (x ∷ xs) = (p || not (ends_operand (token_of x))) && clear (is_plain (token_of x)) xs

told_is : (d : Bool) (x : tokens.Token) → is_told d x ≡ (is_plain x || not d)
told_is true (Pattern p f) = sym (or_none (begins_plainly p))
  where
    or_none : (b : Bool) → b || false ≡ b
    or_none true = refl
    or_none false = refl
told_is false (Pattern p f) = sym (or_all (begins_plainly p))
  where
    or_all : (b : Bool) → b || true ≡ true
    or_all true = refl
    or_all false = refl
told_is true x = refl
told_is false x = refl

exchanged : (a b c : Bool) → (a && (b && c)) ≡ (b && a) && c
exchanged true true c = refl
exchanged true false c = refl
exchanged false true c = refl
exchanged false false c = refl

or_not_none : (b : Bool) → b || not false ≡ true
or_not_none true = refl
or_not_none false = refl

-- the tokens behind these are told where the first of them is
told_before : (xs : List Token) (x : tokens.Token) (ts : List tokens.Token) → are_told false (before xs (x ∷ ts)) ≡ (clear (is_plain x) xs && are_told (ends_operand x) ts)
told_before [] x ts = ap (λ b. b && are_told (ends_operand x) ts) (told_is false x ∙ or_not_none (is_plain x))
told_before (y ∷ ys) x ts =
    told_before ys (token_of y) (x ∷ ts) ∙ ap (λ b. clear (is_plain (token_of y)) ys && (b && are_told (ends_operand x) ts)) (told_is (ends_operand (token_of y)) x)
    ∙ exchanged (clear (is_plain (token_of y)) ys) (is_plain x || not (ends_operand (token_of y))) (are_told (ends_operand x) ts)

and_all : (b : Bool) → (b && true) ≡ b
and_all true = refl
and_all false = refl

pub told_back : (xs : List Token) → are_told false (before xs []) ≡ clear true xs
told_back [] = refl
told_back (x ∷ xs) = told_before xs (token_of x) [] ∙ and_all (clear (is_plain (token_of x)) xs)

step : (p : Bool) (xs : List Token) (i : ℕ) (x : Token) → i < length xs → clear p (drop i xs) ≡ ((p || not (ends_operand (token_of (get_or xs i x)))) && clear (is_plain (token_of (get_or xs i x))) (drop (i + 1) xs))
step p xs i x h = at_drop_more (clear p) xs i x h

pub told_goes_on : (p q : Bool) (xs : List Token) (i : ℕ) (x : Token) → i < length xs → (not p && ends_operand (token_of (get_or xs i x))) ≡ false → q ≡ is_plain (token_of (get_or xs i x)) → clear p (drop i xs) ≡ clear true xs → clear q (drop (i + 1) xs) ≡ clear true xs
told_goes_on true q xs i x h f d inv = ap (λ k. clear k (drop (i + 1) xs)) d ∙ sym (step true xs i x h) ∙ inv
told_goes_on false q xs i x h f d inv = ap (λ k. clear k (drop (i + 1) xs)) d ∙ sym (step false xs i x h ∙ ap (λ k. not k && clear (is_plain (token_of (get_or xs i x))) (drop (i + 1) xs)) f) ∙ inv

pub told_stops : (p : Bool) (xs : List Token) (ts : List tokens.Token) (i : ℕ) (x : Token) → i < length xs → before xs [] ≡ ts → (not p && ends_operand (token_of (get_or xs i x))) ≡ true → clear p (drop i xs) ≡ clear true xs → are_told false ts ≡ false
told_stops true xs ts i x h s f inv = absurd (false≢true f)
told_stops false xs ts i x h s f inv =
    ap (are_told false) (sym s) ∙ told_back xs ∙ sym inv ∙ step false xs i x h ∙ ap (λ k. not k && clear (is_plain (token_of (get_or xs i x))) (drop (i + 1) xs)) f

pub told_ends : (p : Bool) (xs : List Token) (ts : List tokens.Token) (i : ℕ) → length xs ≤ i → before xs [] ≡ ts → clear p (drop i xs) ≡ clear true xs → are_told false ts ≡ true
told_ends p xs ts i h s inv = ap (are_told false) (sym s) ∙ told_back xs ∙ sym inv ∙ at_drop_all (clear p) xs i h
