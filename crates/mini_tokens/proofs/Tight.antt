-- Texts of tokens, one behind the other, with a blank where two would run together.
use Rattle.std.proofs.Common.{◌≡◌, ℕ, Bool, true, false, List, [], ◌∷◌, ◌++◌, refl, ap, sym, ◌∙◌, append_assoc}
use Rattle.std.specs.Prelude.{if◌then◌else◌}
use Rattle.mini_print.specs.Token.{Token}
use Rattle.mini_print.specs.Text.{spelled}
use Rattle.mini_print.specs.Compact.{apart, compact_text_of}
use Rattle.mini_tokens.specs.Spelling.{behind}
use Rattle.mini_tokens.proofs.Blanks.{all_said}

-- the text of tokens behind another one
abbrev pub tight_rest : Token → List Token → List ℕ
tight_rest x [] = []
tight_rest x (y ∷ ts) = behind x y ++ tight_rest y ts

from_next : (y : Token) (ts : List Token) (b : Bool) → compact_text_of (y ∷ ts) ≡ spelled y ++ tight_rest y ts → (if b then 32 ∷ compact_text_of (y ∷ ts) else compact_text_of (y ∷ ts)) ≡ (if b then 32 ∷ spelled y else spelled y) ++ tight_rest y ts
from_next y ts true h = ap (λ u. 32 ∷ u) h
from_next y ts false h = h

pub first_text : (x : Token) (ts : List Token) → compact_text_of (x ∷ ts) ≡ spelled x ++ tight_rest x ts
first_text x [] = sym (all_said (spelled x))
first_text x (y ∷ ts) = ap (λ u. spelled x ++ u) (from_next y ts (apart x y) (first_text y ts))

pub next_text : (x y : Token) (ts : List Token) (u v : List ℕ) → v ≡ u ++ behind x y → u ++ tight_rest x (y ∷ ts) ≡ v ++ tight_rest y ts
next_text x y ts u v h = sym (append_assoc u (behind x y) (tight_rest y ts)) ∙ ap (λ w. w ++ tight_rest y ts) (sym h)
