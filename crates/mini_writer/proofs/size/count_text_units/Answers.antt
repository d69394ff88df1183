use Rattle.std.proofs.Common.{◌≡◌, ℕ, suc, List, [], ◌∷◌, ◌++◌, ◌⊎◌, inl, inr, length, IsUtf8, encode_utf8, refl, arith}
use Rattle.std.specs.Char.Escape.{encode_utf16}
use Rattle.std.specs.Str.Iter.{encode_utf16_pending, encode_utf16_rest}
use Rattle.std.proofs.lemmas.List.{nil_from_length}
use Rattle.std.proofs.lemmas.Str.{IsUtf8-past_char}
use Rattle.mini_model.specs.Texts.{units_of}
use Rattle.mini_model.proofs.Units.{units_of-cons, units_of-nil}
use Rattle.mini_writer.proofs.size.count_text_units.Goals as goal

module _ (waiting waiting' rest rest' : List ℕ) (u : ℕ) where
  -- the iterator moved over the unit u
  abbrev Moves : Type 0
  Moves = ((waiting ≡ u ∷ []) × (waiting' ≡ []) × (rest' ≡ rest))
      ⊎ ((waiting ≡ []) × ((c : ℕ) × (rest ≡ encode_utf8 c ++ rest') × (encode_utf16 c ≡ u ∷ waiting')))

  one_fewer : Moves → IsUtf8 rest → length (waiting ++ units_of rest) ≡ suc (length (waiting' ++ units_of rest'))
  one_fewer (inl (a, b, c)) utf8 = rw (a, b, c) refl
  one_fewer (inr (a, (c, at, units))) utf8 = rw (a, units_of-cons rest rest' c utf8 at, units) refl

  still_text : Moves → IsUtf8 rest → IsUtf8 rest'
  still_text (inl (a, b, c)) utf8 = rw c utf8
  still_text (inr (a, (c, at, units))) utf8 = IsUtf8-past_char rest rest' c utf8 at

pub units-preserved : goal.units-preserved
units-preserved c =
    let s = c.units.iterator' in
    let t = c.next.new.self in
    let steps = c.in-Some.ensures.steps in
    let utf8 = c.units.invariant.utf8 in
    let fewer = one_fewer (encode_utf16_pending s) (encode_utf16_pending t) (encode_utf16_rest s) (encode_utf16_rest t) c.in-Some.field-0 steps utf8 in
    record {
      left = omega (arith, fewer);
      most = omega arith;
      utf8 = still_text (encode_utf16_pending s) (encode_utf16_pending t) (encode_utf16_rest s) (encode_utf16_rest t) c.in-Some.field-0 steps utf8;
    }

pub returns : goal.returns
returns c =
    let s = c.units.iterator' in
    let steps = c.in-None.ensures.steps in
    let rest_is = nil_from_length (encode_utf16_rest s) steps.1 in
    let over : length (encode_utf16_pending s ++ units_of (encode_utf16_rest s)) ≡ 0 = rw (steps.0, rest_is, units_of-nil) refl in
    omega (arith, over)
