-- The numbers of a tree that is numbered in preorder are those from 1 on, and it is all that its text says.
use Rattle.std.specs.Prelude.{ℕ, zero, suc, ◌+◌, ◌≤◌, ◌<◌, ◌≡◌, ◌⊎◌, refl, nat_eq, Bool, true, false, List, [], ◌∷◌, ◌++◌, length, Option, Some, option_and_then, if◌then◌else◌}
use Rattle.std.proofs.Common.{ap, ◌∙◌, sym, subst, inl, inr, arith}
use Rattle.std.proofs.lemmas.Bool.{eqb-true, eqb-false}
use Rattle.mini_model.specs.declared.name.SymbolId.{SymbolId}
use Rattle.mini_model.specs.Tree.{Tree, Trees, node, none, ◌▸◌}
use Rattle.mini_laws.specs.Resolved.{resolved_program}
use Rattle.mini_laws.specs.Symbols.{bare, all_bare}
use Rattle.mini_accept.specs.Symbols.{has_no_symbol}
use Rattle.mini_accept.specs.Numbered.{number_after, next_after, next_among}
use Rattle.mini_accept.specs.WellShaped.{IsWellShaped}
use Rattle.mini_kept.specs.Carried.{renumbered, numbers, all_numbers, number_of, number_at, NumberedAlike}
use Rattle.mini_kept.specs.KeepsNames.{count_of}
use Rattle.mini_kept.proofs.Carrying.{some_same, then_some, numbered_next, unnumbered_next, both_lengths, root_next, numbers_carried}
use Rattle.mini_kept.proofs.ReadAgain.{numbers_bare, number_bare}
use Rattle.mini_kept.proofs.Texts.{text, bare_same, read_resolved}
use Rattle.mini_kept.proofs.SameNumbers.{numbered_alike}

-- so many numbers from one on
abbrev pub from : ℕ → ℕ → List ℕ
from m zero = []
from m (suc k) = m ∷ from (suc m) k

from_both : (m a b c l : ℕ) → c ≡ a + b → l ≡ m + a → from m c ≡ from m a ++ from l b
from_both m zero b c l e f =
    let p : m ≡ l = omega (arith, f) in
    let q : c ≡ b = omega (arith, e) in
    λ k. from (p k) (q k)
from_both m (suc a) b zero l e f = absurd (omega (arith, e))
from_both m (suc a) b (suc c) l e f = ap (λ r. m ∷ r) (from_both (suc m) a b c l (omega (arith, e)) (omega (arith, f)))

mutual
  unfolding numbers

  counted : (t : Tree) (m l : ℕ) → 1 ≤ m → next_after t m ≡ Some l → (numbers t ≡ from m (length (numbers t))) × (l ≡ m + length (numbers t))
  counted (node h xs zero ts) m l p e =
      let (k, own, rest) = then_some (next_among ts) (number_after 0 m) l e in
      all_counted ts m l p (subst (λ j. next_among ts j ≡ Some l) (unnumbered_next m k p own) rest)
  counted (node h xs (suc n) ts) m l p e =
      let (k, own, rest) = then_some (next_among ts) (number_after (suc n) m) l e in
      let (at, next) = numbered_next n m k own in
      let (r, s) = all_counted ts (suc m) l (omega arith) (subst (λ j. next_among ts j ≡ Some l) next rest) in
      (λ j. at j ∷ r j, omega (arith, s))

  all_counted : (ts : Trees) (m l : ℕ) → 1 ≤ m → next_among ts m ≡ Some l → (all_numbers ts ≡ from m (length (all_numbers ts))) × (l ≡ m + length (all_numbers ts))
  all_counted none m l p e = (refl, omega (arith, some_same m l e))
  all_counted (t ▸ ts) m l p e =
      let (k, first, rest) = then_some (next_among ts) (next_after t m) l e in
      let (a, b) = counted t m k p first in
      let (c, d) = all_counted ts k l (omega (arith, p, b)) rest in
      let size : length (numbers t ++ all_numbers ts) ≡ length (numbers t) + length (all_numbers ts) = both_lengths (numbers t) (all_numbers ts) in (
        ap (λ r. r ++ all_numbers ts) a ∙ ap (λ r. from m (length (numbers t)) ++ r) c ∙ sym (from_both m (length (numbers t)) (length (all_numbers ts)) (length (numbers t ++ all_numbers ts)) k size b),
        omega (arith, b, d, size),
      )

-- ---- none of them twice

abbrev pub Tally : ℕ → ℕ → ℕ → Type 0
Tally m j n = ((m ≡ j) × (n ≡ 1)) ⊎ ((m ≡ j → ⊥) × (n ≡ 0))

tally_by : (b : Bool) (m j : ℕ) → nat_eq m j ≡ b → Tally m j (if nat_eq m j then 1 else 0)
tally_by true m j e = inl (eqb-true m j e, ap (λ b. if b then 1 else 0) e)
tally_by false m j e = inr (eqb-false m j e, ap (λ b. if b then 1 else 0) e)

pub tally : (m j : ℕ) → Tally m j (if nat_eq m j then 1 else 0)
tally m j = tally_by (nat_eq m j) m j refl

none_below : (m k j : ℕ) → j < m → count_of j (from m k) ≡ 0
none_below m zero j h = refl
none_below m (suc k) j h =
    let rest : count_of j (from (suc m) k) ≡ 0 = none_below (suc m) k j (omega arith) in
    elim (tally m j) [ inl x ↦ absurd (omega (arith, x.0)) | inr x ↦ omega (arith, x.1, rest) ]

once_from : (m k j : ℕ) → count_of j (from m k) ≤ 1
once_from m zero j = omega arith
once_from m (suc k) j =
    let rest : count_of j (from (suc m) k) ≤ 1 = once_from (suc m) k j in
    elim (tally m j) [
      | inl x ↦
          let none_left : count_of j (from (suc m) k) ≡ 0 = none_below (suc m) k j (omega (arith, x.0)) in
          omega (arith, x.1, none_left)
      | inr x ↦ omega (arith, x.1, rest)
    ]

within_from : (m k j : ℕ) → 1 ≤ count_of j (from m k) → (m ≤ j) × (j < m + k)
within_from m zero j h = absurd (omega (arith, h))
within_from m (suc k) j h = elim (tally m j) [
  | inl x ↦ (omega (arith, x.0), omega (arith, x.0))
  | inr x ↦
      let rest : (suc m ≤ j) × (j < suc m + k) = within_from (suc m) k j (omega (arith, x.1, h)) in
      (omega (arith, rest.0), omega (arith, rest.1))
]

-- ---- resolution doesn't change them

mutual
  unfolding bare

  next_bare : (t : Tree) (m : ℕ) → next_after (bare t) m ≡ next_after t m
  next_bare (node h xs n ts) m = λ k. option_and_then (λ j. all_next_bare ts j k) (number_after n m)

  all_next_bare : (ts : Trees) (m : ℕ) → next_among (all_bare ts) m ≡ next_among ts m
  all_next_bare none m = refl
  all_next_bare (t ▸ ts) m = λ k. option_and_then (λ j. all_next_bare ts j k) (next_bare t m k)

pub next_resolved : (t : Tree) (m : ℕ) → next_after (resolved_program t) m ≡ next_after t m
next_resolved t m = read_resolved (λ v. next_after v m) (λ v. next_bare v m) t

pub numbers_resolved : (t : Tree) → numbers (resolved_program t) ≡ numbers t
numbers_resolved t = read_resolved numbers numbers_bare t

pub number_resolved : (t : Tree) → number_of (resolved_program t) ≡ number_of t
number_resolved t = read_resolved number_of number_bare t

-- ---- the whole

-- what is known of a tree that is numbered in preorder, n being the next number
pub record InPreorder (t : Tree) (n : ℕ) : Type 0 where
  pub root : number_of t ≡ 0
  pub listed : numbers t ≡ from 1 (length (numbers t))
  pub next : n ≡ suc (length (numbers t))
  pub once : (k : ℕ) → count_of k (numbers t) ≤ 1
  pub within : (k : ℕ) → 1 ≤ count_of k (numbers t) → (1 ≤ k) × (k < n)

root_zero : (m l : ℕ) → number_after m 0 ≡ Some l → m ≡ 0
root_zero zero l e = refl
root_zero (suc m) l e =
    let (at, next) = numbered_next m 0 l e in
    absurd (omega (arith, at))

root_number : (t : Tree) (n : ℕ) → next_after t 0 ≡ Some n → number_of t ≡ 0
root_number (node h xs m ts) n e =
    let (k, own, rest) = then_some (next_among ts) (number_after m 0) n e in
    root_zero m k own

below_root : (t : Tree) (n : ℕ) → next_after t 0 ≡ Some n → (numbers t ≡ from 1 (length (numbers t))) × (n ≡ 1 + length (numbers t))
unfolding numbers
below_root (node h xs zero ts) n e =
    let (k, own, rest) = then_some (next_among ts) (number_after 0 0) n e in
    all_counted ts 1 n (omega arith) (subst (λ j. next_among ts j ≡ Some n) (root_next k own) rest)
below_root (node h xs (suc m) ts) n e =
    let (k, own, rest) = then_some (next_among ts) (number_after (suc m) 0) n e in
    let (at, next) = numbered_next m 0 k own in
    absurd (omega (arith, at))

pub in_preorder : (t : Tree) (n : ℕ) → next_after t 0 ≡ Some n → InPreorder t n
in_preorder t n e =
    let (are, next) = below_root t n e in
    record {
      root = root_number t n e;
      listed = are;
      next = omega (arith, next);
      once = λ k. subst (λ ns. count_of k ns ≤ 1) (sym are) (once_from 1 (length (numbers t)) k);
      within = λ k h.
          let (low, high) = within_from 1 (length (numbers t)) k (subst (λ ns. 1 ≤ count_of k ns) are h) in
          (low, omega (arith, high, next));
    }

-- two trees that are numbered in preorder, without symbols, and written alike, are one
pub preorder_same : (t u : Tree) (n m : ℕ) → next_after t 0 ≡ Some n → next_after u 0 ≡ Some m → has_no_symbol t ≡ true → has_no_symbol u ≡ true → IsWellShaped t → IsWellShaped u → text t ≡ text u → t ≡ u
preorder_same t u n m e f s r p q w =
    let a = in_preorder t n e in
    let b = in_preorder u m f in
    let one = numbers_carried t u n e b.root (subst (λ v. NumberedAlike t v) (bare_same u r) (numbered_alike t u s p q w)) in
    let other = numbers_carried t t n e a.root (subst (λ v. NumberedAlike t v) (bare_same t s) (numbered_alike t t s p p refl)) in
    let size : length (numbers t) ≡ length (numbers u) = omega (arith, one.1, other.1) in
    sym other.0 ∙ ap (λ ns. renumbered (number_at (0 ∷ ns)) t) (a.listed ∙ ap (from 1) size ∙ sym b.listed) ∙ one.0

-- a tree that is numbered in preorder, without symbols, has as many numbers as one that is written alike
pub preorder_length : (t u : Tree) (n : ℕ) → next_after t 0 ≡ Some n → number_of u ≡ 0 → has_no_symbol t ≡ true → IsWellShaped t → IsWellShaped u → text t ≡ text u → length (numbers t) ≡ length (numbers u)
preorder_length t u n e z s p q w =
    let a = in_preorder t n e in
    let one = numbers_carried t (bare u) n e (number_bare u ∙ z) (numbered_alike t u s p q w) in
    let next = a.next in
    let size : n ≡ suc (length (numbers (bare u))) = one.1 in
    let same : length (numbers (bare u)) ≡ length (numbers u) = ap length (numbers_bare u) in
    omega (arith, next, size, same)
