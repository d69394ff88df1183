-- A number is in a list where it stands there at least once.
use Rattle.std.specs.Prelude.{ℕ, zero, suc, ◌≤◌, ◌<◌, ◌≡◌, ◌⊎◌, List, [], ◌∷◌, length, slice_index_or, Contains}
use Rattle.std.proofs.Common.{subst, inl, inr, arith}
use Rattle.mini_kept.specs.KeepsNames.{count_of}
use Rattle.mini_kept.proofs.InPreorder.{tally}

-- an element of a list with a first one is that, or one of the others
pub first_or_other : {A : Type 0} (x y : A) (ys : List A) → Contains (y ∷ ys) x → (y ≡ x) ⊎ Contains ys x
first_or_other {A} x y ys c = by_index c.0 c.1 c.2
  where
    by_index : (k : ℕ) → k < suc (length ys) → slice_index_or (y ∷ ys) k x ≡ x → (y ≡ x) ⊎ Contains ys x
    by_index zero within found = inl found
    by_index (suc k) within found = inr (k, omega (arith, within), found)

pub at_other : {A : Type 0} (x y : A) (ys : List A) → Contains ys x → Contains (y ∷ ys) x
at_other x y ys c = (suc c.0, omega (arith, c.1), c.2)

pub at_first : {A : Type 0} (x y : A) (ys : List A) → y ≡ x → Contains (y ∷ ys) x
at_first x y ys e = (zero, omega arith, e)

pub counted_there : (ks : List ℕ) (k : ℕ) → Contains ks k → 1 ≤ count_of k ks
counted_there [] k c = let none : c.0 < 0 = c.1 in absurd (omega (arith, none))
counted_there (n ∷ ks) k c = elim (first_or_other k n ks c) [
  | inl e ↦ elim (tally n k) [ inl x ↦ omega (arith, x.1) | inr x ↦ absurd (x.0 e) ]
  | inr d ↦
      let rest : 1 ≤ count_of k ks = counted_there ks k d in
      omega (arith, rest)
]

pub there_counted : (ks : List ℕ) (k : ℕ) → 1 ≤ count_of k ks → Contains ks k
there_counted [] k h = absurd (omega (arith, h))
there_counted (n ∷ ks) k h = elim (tally n k) [ inl x ↦ at_first k n ks x.0 | inr x ↦ at_other k n ks (there_counted ks k (omega (arith, x.1, h))) ]

-- where none stands more often here than there, each that is here is there, and so it is behind a 0
pub still_there : (ks ns : List ℕ) → ((k : ℕ) → count_of k ks ≤ count_of k ns) → (k : ℕ) → Contains (0 ∷ ks) k → Contains (0 ∷ ns) k
still_there ks ns h k c = elim (first_or_other k 0 ks c) [
  | inl e ↦ at_first k 0 ns e
  | inr d ↦
      let here : 1 ≤ count_of k ks = counted_there ks k d in
      at_other k 0 ns (there_counted ns k (omega (arith, here, h k)))
]

-- behind a 0 that isn't among them, each stands once
pub once_behind : (ks : List ℕ) → ((k : ℕ) → count_of k ks ≤ 1) → count_of 0 ks ≡ 0 → (k : ℕ) → count_of k (0 ∷ ks) ≤ 1
once_behind ks once none k =
    let rest : count_of k ks ≤ 1 = once k in
    elim (tally 0 k) [
      | inl x ↦
          let none_left : count_of k ks ≡ 0 = subst (λ j. count_of j ks ≡ 0) x.0 none in
          omega (arith, x.1, none_left)
      | inr x ↦ omega (arith, x.1, rest)
    ]
