-- A program whose numbers and symbols stand for others, in lists, is read again.
use Rattle.std.specs.Prelude.{◌≡◌, refl, ℕ, zero, suc, ◌+◌, ◌<◌, ◌≤◌, ◌⊎◌, nat_eq, List, [], ◌∷◌, map, length, Contains, Option, Some, None, slice_index_or}
use Rattle.std.proofs.Common.{ap, inl, inr, ◌∙◌, sym, subst, arith}
use Rattle.std.proofs.lemmas.Bool.{eqb-true, eq-eqb}
use Rattle.mini_model.specs.declared.name.Name.{Name}
use Rattle.mini_model.specs.declared.name.SymbolId.{SymbolId}
use Rattle.mini_model.specs.Tree.{Tree, Trees, node, none, ◌▸◌}
use Rattle.mini_laws.specs.Renaming.{rename_name, rename_symbol, TellsApart}
use Rattle.mini_laws.specs.Symbols.{mapped, all_mapped, new_symbol, with_new}
use Rattle.mini_laws.specs.Writable.{writable_in}
use Rattle.mini_kept.proofs.Counts.{at_first, at_other}
use Rattle.mini_kept.specs.Carried.{carried, renumbered, all_renumbered, number_at}
use Rattle.mini_rows.specs.Redex.{HasNoRedex}
use Rattle.mini_again.specs.Again.{Renaming, again, all_again, other_number}
use Rattle.mini_again.specs.Carrying.{HasNoRepeat, as_symbols, IsBelow, AreBelow, IsWithin, AreWithin, CarriedIsAgain, CarriedLeavesNothing}
use Rattle.mini_again.proofs.Equal.{alike}
use Rattle.mini_again.proofs.Everywhere.{nothing_is_left}
use Rattle.mini_again.proofs.Writable.{writable_survives}

-- ---- a list as a function that tells all numbers apart: behind its end it gives larger ones

total : List ℕ → ℕ
total [] = 0
total (k ∷ ks) = k + total ks

place : List ℕ → ℕ → ℕ → ℕ
place [] bound i = suc (bound + i)
place (k ∷ ks) bound zero = k
place (k ∷ ks) bound (suc i) = place ks bound i

behind_or_in : (ks : List ℕ) (bound i : ℕ) → Contains ks (place ks bound i) ⊎ (bound < place ks bound i)
unfolding place
behind_or_in [] bound i = inr (omega arith)
behind_or_in (k ∷ ks) bound zero = inl (at_first k k ks refl)
behind_or_in (k ∷ ks) bound (suc i) = elim (behind_or_in ks bound i) [ inl c ↦ inl (at_other (place ks bound i) k ks c) | inr h ↦ inr h ]

same_place : (ks : List ℕ) (bound : ℕ) → total ks ≤ bound → HasNoRepeat ks → (m n : ℕ) → place ks bound m ≡ place ks bound n → m ≡ n
unfolding place total
same_place [] bound h once m n e = omega arith
same_place (k ∷ ks) bound h once zero zero e = refl
same_place (k ∷ ks) bound h once zero (suc n) e = elim (behind_or_in ks bound n) [ inl c ↦ absurd (once.0 (subst (Contains ks) (sym e) c)) | inr far ↦ absurd (omega (arith, far, e, h)) ]
same_place (k ∷ ks) bound h once (suc m) zero e = elim (behind_or_in ks bound m) [ inl c ↦ absurd (once.0 (subst (Contains ks) e c)) | inr far ↦ absurd (omega (arith, far, e, h)) ]
same_place (k ∷ ks) bound h once (suc m) (suc n) e = ap suc (same_place ks bound (omega (arith, h)) once.1 m n e)

-- a function that is one to one tells numbers apart
tells_apart : (f : ℕ → ℕ) → ((m n : ℕ) → f m ≡ f n → m ≡ n) → TellsApart f
tells_apart f same m n = alike (nat_eq (f m) (f n)) (nat_eq m n) (λ e. eq-eqb m n (same m n (eqb-true (f m) (f n) e))) (λ e. eq-eqb (f m) (f n) (ap f (eqb-true m n e)))

-- ---- the number before one

before : ℕ → ℕ
before zero = zero
before (suc n) = n

is_before : (k : ℕ) → (k ≡ 0 → ⊥) → suc (before k) ≡ k
unfolding before
is_before zero h = absurd (h refl)
is_before (suc k) h = refl

present : (ks : List ℕ) (bound i : ℕ) → (Contains ks 0 → ⊥) → place ks bound i ≡ 0 → ⊥
present ks bound i absent e = elim (behind_or_in ks bound i) [ inl c ↦ absent (subst (Contains ks) e c) | inr far ↦ absurd (omega (arith, far, e)) ]

same_before : (ks : List ℕ) (bound : ℕ) → total ks ≤ bound → HasNoRepeat (0 ∷ ks) → (m n : ℕ) → before (place ks bound m) ≡ before (place ks bound n) → m ≡ n
same_before ks bound h once m n e =
    same_place ks bound h once.1 m n (sym (is_before (place ks bound m) (present ks bound m once.0)) ∙ ap suc e ∙ is_before (place ks bound n) (present ks bound n once.0))

-- ---- where lists reach

number_there : (ks : List ℕ) (bound n : ℕ) → n < length ks → number_at ks n ≡ place ks bound n
unfolding place
number_there [] bound n h = absurd (omega (arith, h))
number_there (k ∷ ks) bound zero h = refl
number_there (k ∷ ks) bound (suc n) h = number_there ks bound n (omega (arith, h))

symbol_there : (ks : List ℕ) (bound n : ℕ) → n < length ks → slice_index_or (as_symbols ks) n None ≡ Some (record { 0 = place ks bound n })
unfolding place
symbol_there [] bound n h = absurd (omega (arith, h))
symbol_there (k ∷ ks) bound zero h = refl
symbol_there (k ∷ ks) bound (suc n) h = symbol_there ks bound n (omega (arith, h))

module _ (kept symbols : List ℕ) (once : HasNoRepeat (0 ∷ kept)) (apart : HasNoRepeat symbols) where
  carrying : Renaming
  carrying = record {
    symbol = place symbols (total symbols);
    apart = tells_apart (place symbols (total symbols)) (same_place symbols (total symbols) (omega arith) apart);
    number = λ n. before (place kept (total kept) n);
  }

  far : TellsApart carrying.number
  unfolding carrying
  far = tells_apart (λ n. before (place kept (total kept) n)) (same_before kept (total kept) (omega arith) once)

  number_again : (n : ℕ) → n ≤ length kept → number_at (0 ∷ kept) n ≡ other_number carrying n
  unfolding carrying
  number_again zero h = refl
  number_again (suc n) h = number_there kept (total kept) n (omega (arith, h)) ∙ sym (is_before (place kept (total kept) n) (present kept (total kept) n once.0))

  symbol_again : (s : Option SymbolId) → IsBelow (length symbols) s → new_symbol (as_symbols symbols) s ≡ rename_symbol carrying.symbol s
  unfolding carrying
  symbol_again None h = refl
  symbol_again (Some k) h = symbol_there symbols (total symbols) k.0 h

  names_again : (xs : List Name) → AreBelow (length symbols) xs → map (with_new (new_symbol (as_symbols symbols))) xs ≡ map (rename_name carrying.symbol) xs
  names_again [] h = refl
  names_again (x ∷ xs) h = let s = symbol_again x.symbol h.0 in let rest = names_again xs h.1 in λ i. record { spelling = x.spelling; symbol = s i } ∷ rest i

  mutual
    unfolding renumbered mapped

    carried_again : (t : Tree) → IsWithin (length symbols) (length kept) t → carried (0 ∷ kept) (as_symbols symbols) t ≡ again carrying t
    carried_again (node h xs n ts) w = let names = names_again xs w.0 in let number = number_again n w.1 in let rest = all_carried_again ts w.2 in λ i. node h (names i) (number i) (rest i)

    all_carried_again : (ts : Trees) → AreWithin (length symbols) (length kept) ts → all_renumbered (number_at (0 ∷ kept)) (all_mapped (new_symbol (as_symbols symbols)) ts) ≡ all_again carrying ts
    all_carried_again none w = refl
    all_carried_again (t ▸ ts) w = let first = carried_again t w.0 in let rest = all_carried_again ts w.1 in λ i. first i ▸ rest i

pub carried_is_again : CarriedIsAgain
carried_is_again kept symbols once apart = (carrying kept symbols once apart, far kept symbols once apart, carried_again kept symbols once apart)

pub carried_leaves_nothing : CarriedLeavesNothing
carried_leaves_nothing kept symbols once apart t w o p d =
    let ρ = carrying kept symbols once apart in
    nothing_is_left ρ o (writable_in t) (writable_in (again ρ t)) (writable_survives ρ t) p t (subst (λ u. HasNoRedex o (writable_in u) p u) (carried_again kept symbols once apart t w) d)
