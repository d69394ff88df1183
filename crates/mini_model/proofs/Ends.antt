-- How raw texts end.
use Rattle.std.proofs.Common.{◌≡◌, ℕ, ◌+◌, ◌-◌, ◌<◌, ◌⊎◌, inl, inr, List, [], ◌∷◌, ◌++◌, length, get_or, take, drop, refl, sym, ap, ◌∙◌, append_assoc, add-one, length-append, arith}
use Rattle.std.proofs.Math.Seq.{drop-cons, take-append_seam}
use Rattle.std.proofs.lemmas.Bool.Decides.{eqb_tells}
use Rattle.mini_model.specs.Joined.{Ending, Backslash, Null, Dollar, Other, ending_in, ending_with, ending_from, ending_of}

pub ending_from-append : (ending : Ending) (a b : List ℕ) → ending_from ending (a ++ b) ≡ ending_from (ending_from ending a) b
ending_from-append ending [] b = refl
ending_from-append ending (u ∷ us) b = ending_from-append (ending_with ending u) us b

pub ending_of-more : (raw : List ℕ) (u : ℕ) → ending_of (raw ++ u ∷ []) ≡ ending_with (ending_of raw) u
ending_of-more raw u = ending_from-append Other raw (u ∷ [])

-- a list is empty, or has a last item
last_of : (us : List ℕ) → (us ≡ []) ⊎ ((front : List ℕ) × ((last : ℕ) × (us ≡ front ++ last ∷ [])))
last_of [] = inl refl
last_of (u ∷ us) = elim (last_of us) [
  | inl none ↦ inr ([], (u, ap (λ l. u ∷ l) none))
  | inr some ↦ inr (u ∷ some.0, (some.1.0, ap (λ l. u ∷ l) some.1.1))
]

-- a unit that no backslash escapes does not end `\0`
not_null : (u : ℕ) → ending_in u ≡ Null → ⊥
not_null u is = elim (eqb_tells u 92) [
  | inl same ↦ let e = rw same.0 at is in cc
  | inr other ↦ elim (eqb_tells u 36) [
    | inl same ↦ let e = rw (other.0, same.0) at is in cc
    | inr neither ↦ let e = rw (other.0, neither.0) at is in cc
  ]
]

null_with : (ending : Ending) (u : ℕ) → ending_with ending u ≡ Null → (ending ≡ Backslash) × (u ≡ 48)
null_with Backslash u is = elim (eqb_tells u 48) [
  | inl same ↦ (refl, same.1)
  | inr other ↦ let e = rw other.0 at is in cc
]
null_with Null u is = absurd (not_null u is)
null_with Dollar u is = absurd (not_null u is)
null_with Other u is = absurd (not_null u is)

-- without its last item
pub take-front : (front : List ℕ) (last : ℕ) → take (length (front ++ last ∷ []) - 1) (front ++ last ∷ []) ≡ front
take-front front last =
    let n : length (front ++ last ∷ []) - 1 ≡ length front = omega (arith, length-append front (last ∷ [])) in
    ap (λ k. take k (front ++ last ∷ [])) n ∙ take-append_seam front (last ∷ [])

-- what ends in `\0` has a `0` behind a backslash that no other escapes
pub null_front : (raw : List ℕ) → ending_of raw ≡ Null → (front : List ℕ) × ((raw ≡ front ++ 48 ∷ []) × (ending_of front ≡ Backslash))
null_front raw null = elim (last_of raw) [
  | inl none ↦ let e = ap ending_of none in cc
  | inr some ↦
      let parts = null_with (ending_of some.0) some.1.0 (sym (ending_of-more some.0 some.1.0) ∙ ap ending_of (sym some.1.1) ∙ null) in
      (some.0, (some.1.1 ∙ ap (λ u. some.0 ++ u ∷ []) parts.1, parts.0))
]

-- behind `x00`, and behind a backslash that no other escapes
pub ending_of-x00 : (a b c d : List ℕ) → b ≡ a ++ 120 ∷ [] → c ≡ b ++ 48 ∷ [] → d ≡ c ++ 48 ∷ [] → Other ≡ ending_of d
ending_of-x00 a b c d x zero second =
    let e : ending_of b ≡ Other = ap ending_of x ∙ ending_of-more a 120 ∙ behind_x (ending_of a) in
    let f : ending_of c ≡ Other = ap ending_of zero ∙ ending_of-more b 48 ∙ ap (λ ending. ending_with ending 48) e in
    sym (ap ending_of second ∙ ending_of-more c 48 ∙ ap (λ ending. ending_with ending 48) f)
  where
    behind_x : (ending : Ending) → ending_with ending 120 ≡ Other
    behind_x Backslash = refl
    behind_x Null = refl
    behind_x Dollar = refl
    behind_x Other = refl

pub ending_of-backslash : (a b : List ℕ) → Dollar ≡ ending_of a → b ≡ a ++ 92 ∷ [] → Backslash ≡ ending_of b
ending_of-backslash a b dollar is = sym (ap ending_of is ∙ ending_of-more a 92 ∙ ap (λ ending. ending_with ending 92) (sym dollar))

-- one more unit of a part is pushed
pub push_more : (raw new part all : List ℕ) (i : ℕ) → i < length part → new ≡ raw ++ get_or part i 0 ∷ [] → raw ++ drop i part ≡ all
    → new ++ drop (i + 1) part ≡ all
push_more raw new part all i below is left =
    rw (is, append_assoc, add-one) (ap (λ us. raw ++ us) (sym (drop-cons part i 0 below)) ∙ left)
