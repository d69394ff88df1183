use Rattle.std.proofs.Common.{◌≡◌, ℕ, List, [], ◌∷◌, ◌++◌, ◌⊎◌, inl, inr, IsUtf8, encode_utf8, refl, sym, ap, ◌∙◌, append_assoc, append-nil}
use Rattle.std.specs.Char.Escape.{encode_utf16}
use Rattle.std.specs.Str.Iter.{encode_utf16_pending, encode_utf16_rest}
use Rattle.std.proofs.lemmas.List.{nil_from_length}
use Rattle.std.proofs.lemmas.Str.{IsUtf8-past_char}
use Rattle.mini_model.specs.Texts.{units_of}
use Rattle.mini_model.proofs.Units.{units_of-cons, units_of-nil}
use Rattle.mini_model.proofs.text.OwnedList+u16.from_str.Goals as goal

module _ (pending pending' rest rest' : List ℕ) (x : ℕ) where
  -- a unit comes off the front: the second of a pair, or the first of the next character
  abbrev Gives : Type 0
  Gives = ((pending ≡ x ∷ []) × (pending' ≡ []) × (rest' ≡ rest))
      ⊎ ((pending ≡ []) × ((c : ℕ) × (rest ≡ encode_utf8 c ++ rest') × (encode_utf16 c ≡ x ∷ pending')))

  left_after : Gives → IsUtf8 rest → pending ++ units_of rest ≡ x ∷ (pending' ++ units_of rest')
  left_after (inl second) utf8 = rw (second.0, second.1, second.2) refl
  left_after (inr first) utf8 = rw first.0 (units_of-cons rest rest' first.1.0 utf8 first.1.1 ∙ ap (λ us. us ++ units_of rest') first.1.2)

  utf8_after : Gives → IsUtf8 rest → IsUtf8 rest'
  utf8_after (inl second) utf8 = rw second.2 utf8
  utf8_after (inr first) utf8 = IsUtf8-past_char rest rest' first.1.0 utf8 first.1.1

pub loop-unit-preserved : goal.loop-unit-preserved
loop-unit-preserved c =
    let s = c.loop-unit.unit-iterator in
    let t = c.next.new.self in
    let steps = c.in-Some.ensures.steps in
    let utf8 = c.loop-unit.invariant.utf8 in
    record {
      left =
          rw (c.in_ok-push.ensures.ok, append_assoc)
          (ap (λ us. c.loop-unit.units ++ us) (sym (left_after (encode_utf16_pending s) (encode_utf16_pending t) (encode_utf16_rest s) (encode_utf16_rest t) c.in-Some.unit steps utf8))
          ∙ c.loop-unit.invariant.left);
      utf8 = utf8_after (encode_utf16_pending s) (encode_utf16_pending t) (encode_utf16_rest s) (encode_utf16_rest t) c.in-Some.unit steps utf8;
    }

pub returns : goal.returns
returns c =
    let s = c.loop-unit.unit-iterator in
    let steps = c.in-None.ensures.steps in
    let rest_is = nil_from_length (encode_utf16_rest s) steps.1 in
    let left_is : encode_utf16_pending s ++ units_of (encode_utf16_rest s) ≡ [] = rw (steps.0, rest_is) units_of-nil in
    sym (append-nil c.loop-unit.units) ∙ ap (λ us. c.loop-unit.units ++ us) (sym left_is) ∙ c.loop-unit.invariant.left
