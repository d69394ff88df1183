-- The literal of a text, and the digits of a number.
use Rattle.std.proofs.Common.{◌≡◌, ℕ, ◌<◌, ◌^◌, true, List, [], ◌∷◌, ◌++◌, ap, sym, ◌∙◌, append_assoc, arith, Some, None}
use Rattle.std.proofs.lemmas.Bool.{false≢true}
use Rattle.std.specs.Prelude.{slice_get}
use Rattle.std.specs.Fmt.{decimal}
use Rattle.mini_print.specs.Token.{Quoted}
use Rattle.mini_print.specs.Text.{escaped, spelled}
use Rattle.mini_print.proofs.Escapes.{spelled_escaped}
use Rattle.mini_print.proofs.Split.{is_numeral, decimal_is_numeral}

pub literal_said : (t s : List ℕ) → ((t ++ 34 ∷ []) ++ escaped s) ++ 34 ∷ [] ≡ t ++ spelled (Quoted (escaped s))
literal_said t s =
    append_assoc (t ++ 34 ∷ []) (escaped s) (34 ∷ []) ∙ (append_assoc t (34 ∷ []) (escaped s ++ 34 ∷ []) ∙ ap (λ u. t ++ u) (sym (spelled_escaped s)))

pub literal_first : (s : List ℕ) → Some 34 ≡ slice_get (spelled (Quoted (escaped s))) 0
literal_first s = ap (λ u. slice_get u 0) (sym (spelled_escaped s))

some_first : (ds : List ℕ) → is_numeral ds ≡ true → slice_get ds 0 ≡ None → ⊥
some_first [] e h = absurd (false≢true e)
some_first (d ∷ ds) e h = absurd (cc h)

pub no_digit : (n : ℕ) → n < 2 ^ 128 → slice_get (decimal n) 0 ≡ None → ⊥
no_digit n l = some_first (decimal n) (decimal_is_numeral n (omega (arith, l)))
