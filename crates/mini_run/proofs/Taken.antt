-- The first word that is this one is taken out of the words.
use Rattle.std.proofs.Common.{◌≡◌, ◌≢◌, ℕ, zero, suc, ◌+◌, ◌<◌, List, [], ◌∷◌, length, map, get_or, Bool, true, false, refl, sym, ap, ◌∙◌, inl, inr, arith}
use Rattle.std.specs.List.{remove}
use Rattle.std.proofs.lemmas.List.{get_or-map}
use Rattle.mini_run.specs.Words.{Taken}

module _ {X : Type 0} (f : X → List ℕ) (w : List ℕ) where
  pub item_at : (xs : List X) (k : ℕ) (x : X) → k < length xs → x ≡ get_or xs k x → get_or (map f xs) k [] ≡ f x
  item_at xs k x below is = get_or-map f xs k x [] below ∙ ap f (sym is)

  pub none_yet : (xs : List X) (i : ℕ) (x : X) → i < length xs → x ≡ get_or xs i x → f x ≢ w → ((k : ℕ) → k < i → get_or (map f xs) k [] ≢ w) → (k : ℕ) → k < i + 1 → get_or (map f xs) k [] ≢ w
  none_yet xs i x below is other before k upto e =
      let apart : k ≢ i = λ same. other (sym (item_at xs i x below is) ∙ sym (ap (λ j. get_or (map f xs) j []) same) ∙ e) in
      before k (omega (arith, upto, apart)) e

  pub taken_at : (xs : List X) (i : ℕ) → i < length xs → get_or (map f xs) i [] ≡ w → ((k : ℕ) → k < i → get_or (map f xs) k [] ≢ w) → Taken w (map f xs) (map f (remove xs i)) true
  taken_at [] i below is before = absurd (omega (arith, below))
  taken_at (x ∷ xs) zero below is before = inl (is, refl, refl)
  taken_at (x ∷ xs) (suc i) below is before =
      inr (before 0 (omega arith), (map f (remove xs i), refl, taken_at xs i (omega (arith, below)) is (λ k less. before (suc k) (omega (arith, less)))))

  pub none_taken : (xs : List X) → ((k : ℕ) → k < length xs → get_or (map f xs) k [] ≢ w) → Taken w (map f xs) (map f xs) false
  none_taken [] none = (refl, refl)
  none_taken (x ∷ xs) none = inr (none 0 (omega arith), (map f xs, refl, none_taken xs (λ k less. none (suc k) (omega (arith, less)))))

-- in one way
pub taken_one : (w : List ℕ) (vs us ts : List (List ℕ)) (b c : Bool) → Taken w vs us b → Taken w vs ts c → (us ≡ ts) × (b ≡ c)
taken_one w [] us ts b c p q = (p.0 ∙ sym q.0, p.1 ∙ sym q.1)
taken_one w (v ∷ vs) us ts b c (inl p) (inl q) = (p.1 ∙ sym q.1, p.2 ∙ sym q.2)
taken_one w (v ∷ vs) us ts b c (inl p) (inr q) = absurd (q.0 p.0)
taken_one w (v ∷ vs) us ts b c (inr p) (inl q) = absurd (p.0 q.0)
taken_one w (v ∷ vs) us ts b c (inr (other, (ls, p, rest))) (inr (other', (ms, q, rest'))) =
    let (same, both) = taken_one w vs ls ms b c rest rest' in
    (p ∙ ap (λ l. v ∷ l) same ∙ sym q, both)
