-- The program that a later run sees is the last one of the run before it, with other symbols and
-- numbers, which are told apart.
use Rattle.std.specs.Prelude.{ℕ, zero, suc, ◌+◌, ◌<◌, ◌≤◌, ◌≡◌, ◌⊎◌, refl, nat_eq, true, false, List, [], ◌∷◌, length, Option, Some, None, if◌then◌else◌}
use Rattle.std.proofs.Common.{ap, ◌∙◌, sym, subst, inl, inr, arith, true≢false}
use Rattle.std.proofs.lemmas.Bool.{eq-eqb}
use Rattle.mini_model.specs.declared.name.Name.{Name}
use Rattle.mini_model.specs.declared.name.SymbolId.{SymbolId}
use Rattle.mini_model.specs.Tree.{Tree, Trees, node, none, ◌▸◌}
use Rattle.mini_laws.specs.declared.names.Use.TheVariants.{Read}
use Rattle.mini_laws.specs.Congruence.{NoneIn, Avoids, AllAvoid}
use Rattle.mini_laws.specs.Renaming.{TellsApart}
use Rattle.mini_laws.specs.Resolved.{resolved_program, symbols}
use Rattle.mini_laws.specs.Substitution.{alone}
use Rattle.mini_laws.specs.Symbols.{declared_symbols, symbols_to, times}
use Rattle.mini_laws.specs.Value.{Declared, variable_by, variables}
use Rattle.mini_laws.proofs.Places.{resolved_symbols}
use Rattle.mini_laws.proofs.Whole.{scoped}
use Rattle.mini_kept.specs.Carried.{numbers, all_numbers, with_number, symbol_numbers}
use Rattle.mini_kept.specs.KeepsNames.{count_of}
use Rattle.mini_kept.specs.Loosely.{symbol}
use Rattle.mini_kept.proofs.Below.{both_counts}
use Rattle.mini_kept.proofs.Gone.{avoids}
use Rattle.mini_kept.proofs.InPreorder.{tally, in_preorder, numbers_resolved}
use Rattle.mini_kept.proofs.ReadBack.{IsRead, IsReadBack}
use Rattle.mini_again.specs.Again.{Renaming, again}
use Rattle.mini_again.specs.Carrying.{IsBelow, AreBelow, IsWithin, AreWithin}
use Rattle.mini_again.proofs.Carrying.{carried_is_again}
use Rattle.mini_peephole.proofs.Repeats.{no_repeat}

-- ---- a tree all of whose symbols and numbers stand for some

compare : (s l : ℕ) → (s < l) ⊎ (l ≤ s)
compare s zero = inr (omega arith)
compare zero (suc l) = inl (omega arith)
compare (suc s) (suc l) = elim (compare s l) [ inl h ↦ inl (omega (arith, h)) | inr h ↦ inr (omega (arith, h)) ]

itself : (n : ℕ) → nat_eq n n ≡ true
itself n = eq-eqb n n refl

counted_first : (k : ℕ) (ks : List ℕ) → 1 ≤ count_of k (k ∷ ks)
counted_first k ks = subst (λ b. 1 ≤ (if b then 1 else 0) + count_of k ks) (sym (itself k)) (omega arith)

own_count : (k n : ℕ) (ns : List ℕ) → count_of k (with_number n ns) ≡ count_of k (with_number n []) + count_of k ns
own_count k zero ns = omega arith
own_count k (suc n) ns = omega arith

module _ (s n : ℕ) where
  -- it has no further symbol
  abbrev NoneBehind : Tree → Type 0
  NoneBehind t = (k : ℕ) → s ≤ k → Avoids (alone (Declared k)) t

  -- and no greater number
  abbrev AtMost : List ℕ → Type 0
  AtMost ns = (k : ℕ) → 1 ≤ count_of k ns → k ≤ n

  symbol_below : (spelling : List ℕ) (k : Option SymbolId) → ((j : ℕ) → s ≤ j → alone (Declared j) (variable_by spelling k) ≡ false) → IsBelow s k
  symbol_below spelling None h = tt
  symbol_below spelling (Some k) h = elim (compare k.0 s) [
    | inl less ↦ less
    | inr more ↦ absurd (true≢false (sym (itself k.0) ∙ h k.0 more))
  ]

  names_below : (xs : List Name) → ((j : ℕ) → s ≤ j → NoneIn (alone (Declared j)) (variables xs)) → AreBelow s xs
  names_below [] h = tt
  names_below (x ∷ xs) h = (symbol_below x.spelling x.symbol (λ j l. (h j l).0), names_below xs (λ j l. (h j l).1))

  number_within : (k : ℕ) → AtMost (with_number k []) → k ≤ n
  number_within zero h = omega arith
  number_within (suc k) h = h (suc k) (counted_first (suc k) [])

  mutual
    unfolding numbers

    is_within : (t : Tree) → NoneBehind t → AtMost (numbers t) → IsWithin s n t
    is_within (node h xs k ts) f g = (
      names_below xs (λ j l. (f j l).0),
      number_within k (λ j c. g j (let e = own_count j k (all_numbers ts) in omega (arith, e, c))),
      are_within ts (λ j l. (f j l).1) (λ j c. g j (let e = own_count j k (all_numbers ts) in omega (arith, e, c))),
    )

    are_within : (ts : Trees) → ((k : ℕ) → s ≤ k → AllAvoid (alone (Declared k)) ts) → AtMost (all_numbers ts) → AreWithin s n ts
    are_within none f g = tt
    are_within (t ▸ ts) f g = (is_within t (λ j l. (f j l).0) (λ j c. g j (let e = both_counts j (numbers t) (all_numbers ts) in omega (arith, e, c))), are_within ts (λ j l. (f j l).1) (λ j c. g j (let e = both_counts j (numbers t) (all_numbers ts) in omega (arith, e, c))))

-- ---- the program that is read back

-- the symbols of a program are numbered one after another
none_behind : (s n k : ℕ) → s + n ≤ k → times (symbol k) (symbols_to s n) ≡ 0
none_behind s zero k h = refl
none_behind s (suc n) k h = elim (tally k s) [ inl x ↦ absurd (omega (arith, h, x.0)) | inr x ↦ (let rest = none_behind (suc s) n k (omega (arith, h)) in omega (arith, rest, x.1)) ]

count_to : (s n : ℕ) → length (symbols_to s n) ≡ n
count_to s zero = refl
count_to s (suc n) = ap suc (count_to (suc s) n)

module _ (t v u : Tree) (n : ℕ) (b : IsReadBack t v u) (r : IsRead u n) where
  abbrev ss : List ℕ
  ss = symbol_numbers (declared_symbols v)

  unmentioned : NoneBehind (length ss) (length (numbers v)) (resolved_program u)
  unmentioned k h =
      let listed : declared_symbols (resolved_program u) ≡ symbols_to 0 (symbols Read u) = resolved_symbols Read [] 0 u in
      let many = ap length listed ∙ count_to 0 (symbols Read u) in
      let same = b.each_symbol in
      avoids k Read [] (resolved_program u) (scoped Read [] 0 u) refl (ap (times (symbol k)) listed ∙ none_behind 0 (symbols Read u) k (omega (arith, h, same, many)))

  numbered : AtMost (length ss) (length (numbers v)) (numbers (resolved_program u))
  numbered k c =
      let order = in_preorder u n r.preorder in
      let last = order.next in
      let (low, high) = order.within k (subst (λ ns. 1 ≤ count_of k ns) (numbers_resolved u) c) in
      let many = b.each_number in
      omega (arith, high, last, many)

  -- the last program has other symbols and numbers
  pub seen_later : (ρ : Renaming) × TellsApart ρ.number × (again ρ (resolved_program u) ≡ v)
  seen_later =
      let (ρ, far, same) = carried_is_again (numbers v) ss (no_repeat (0 ∷ numbers v) b.numbers_once) (no_repeat ss b.symbols_once) in
      (ρ, far, sym (same (resolved_program u) (is_within (length ss) (length (numbers v)) (resolved_program u) unmentioned numbered)) ∙ b.later)
