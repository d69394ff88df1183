-- A list in which each number stands once at most has no repeat.
use Rattle.std.proofs.Common.{ℕ, ◌≤◌, List, [], ◌∷◌, inl, inr, refl, arith}
use Rattle.std.specs.Prelude.{Contains}
use Rattle.mini_kept.specs.KeepsNames.{count_of}
use Rattle.mini_kept.proofs.Counts.{counted_there}
use Rattle.mini_kept.proofs.InPreorder.{tally}
use Rattle.mini_again.specs.Carrying.{HasNoRepeat}

pub no_repeat : (ks : List ℕ) → ((k : ℕ) → count_of k ks ≤ 1) → HasNoRepeat ks
no_repeat [] h = tt
no_repeat (n ∷ ks) h = (alone, no_repeat ks (λ k. let a : count_of k (n ∷ ks) ≤ 1 = h k in omega (arith, a)))
  where
    alone : Contains ks n → ⊥
    alone c =
        let once : count_of n (n ∷ ks) ≤ 1 = h n in
        let there : 1 ≤ count_of n ks = counted_there ks n c in
        elim (tally n n) [ inl x ↦ omega (arith, once, there, x.1) | inr x ↦ absurd (x.0 refl) ]
