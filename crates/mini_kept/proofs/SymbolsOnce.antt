-- The numbers of distinct symbols.
use Rattle.std.specs.Prelude.{ℕ, suc, ◌+◌, ◌≤◌, ◌≡◌, refl, nat_eq, List, [], ◌∷◌, length, map, Option, Some, None, if◌then◌else◌}
use Rattle.std.proofs.Common.{ap, ◌∙◌, sym, inl, inr, arith}
use Rattle.mini_model.specs.declared.name.SymbolId.{SymbolId}
use Rattle.mini_laws.specs.Symbols.{times, Distinct}
use Rattle.mini_kept.specs.Carried.{symbol_numbers}
use Rattle.mini_kept.specs.KeepsNames.{count_of}
use Rattle.mini_kept.proofs.InPreorder.{tally}

abbrev pub symbol : ℕ → Option SymbolId
symbol n = Some (record { 0 = n })

tally_same : (k n : ℕ) → ◌≡◌ {A = ℕ} (if nat_eq n k then 1 else 0) (if nat_eq k n then 1 else 0)
tally_same k n = elim (tally n k) [
  | inl x ↦ elim (tally k n) [ inl y ↦ x.1 ∙ sym y.1 | inr y ↦ absurd (y.0 (sym x.0)) ]
  | inr x ↦ elim (tally k n) [ inl y ↦ absurd (x.0 (sym y.0)) | inr y ↦ x.1 ∙ sym y.1 ]
]

-- a number stands there as often as its symbol
pub count_symbol : (k : ℕ) (ss : List (Option SymbolId)) → count_of k (symbol_numbers ss) ≡ times (symbol k) ss
count_symbol k [] = refl
count_symbol k (None ∷ ss) =
    let rest : count_of k (symbol_numbers ss) ≡ times (symbol k) ss = count_symbol k ss in
    omega (arith, rest)
count_symbol k (Some s ∷ ss) = λ j. tally_same k s.0 j + count_symbol k ss j

pub distinct_once : (ss : List (Option SymbolId)) → Distinct ss → (k : ℕ) → count_of k (symbol_numbers ss) ≤ 1
distinct_once ss d k =
    let most : times (symbol k) ss ≤ 1 = d (symbol k) in
    let same : count_of k (symbol_numbers ss) ≡ times (symbol k) ss = count_symbol k ss in
    omega (arith, most, same)

-- and each of them has one
all_numbered : (ss : List (Option SymbolId)) → times None ss ≤ 0 → map symbol (symbol_numbers ss) ≡ ss
all_numbered [] h = refl
all_numbered (None ∷ ss) h = absurd (omega (arith, h))
all_numbered (Some s ∷ ss) h = ap (λ r. Some s ∷ r) (all_numbered ss (omega (arith, h)))

pub distinct_numbered : (ss : List (Option SymbolId)) → Distinct ss → map symbol (symbol_numbers ss) ≡ ss
distinct_numbered ss d = all_numbered ss (d None)

pub distinct_length : (ss : List (Option SymbolId)) → Distinct ss → length (symbol_numbers ss) ≡ length ss
distinct_length ss d = sym (mapped_length (symbol_numbers ss)) ∙ ap length (distinct_numbered ss d)
  where
    mapped_length : (ns : List ℕ) → length (map symbol ns) ≡ length ns
    mapped_length [] = refl
    mapped_length (n ∷ ns) = ap suc (mapped_length ns)
