-- Texts of tokens, one behind the other, with a blank between any two.
use Rattle.std.proofs.Common.{◌≡◌, ℕ, List, [], ◌∷◌, ◌++◌, refl, ap, sym}
use Rattle.mini_print.specs.Token.{Token}
use Rattle.mini_print.specs.Text.{spelled, text_of}

-- the text of tokens behind another one
abbrev pub rest_text : List Token → List ℕ
rest_text [] = []
rest_text (x ∷ ts) = 32 ∷ (spelled x ++ rest_text ts)

pub all_said : (t : List ℕ) → t ++ [] ≡ t
all_said [] = refl
all_said (c ∷ t) = ap (λ s. c ∷ s) (all_said t)

pub blank_step : (t s r : List ℕ) → t ++ (32 ∷ (s ++ r)) ≡ ((t ++ 32 ∷ []) ++ s) ++ r
blank_step [] s r = refl
blank_step (c ∷ t) s r = ap (λ u. c ∷ u) (blank_step t s r)

pub first_text : (x : Token) (ts : List Token) → text_of (x ∷ ts) ≡ spelled x ++ rest_text ts
first_text x [] = sym (all_said (spelled x))
first_text x (y ∷ ts) = ap (λ u. spelled x ++ (32 ∷ u)) (first_text y ts)
