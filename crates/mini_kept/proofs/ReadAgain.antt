-- A program that is written, read again and resolved.
use Rattle.std.specs.Prelude.{ℕ, ◌≡◌, refl, [], ◌∷◌, ◌++◌, map, Option, Some}
use Rattle.std.proofs.Common.{ap, ◌∙◌, sym, subst}
use Rattle.mini_model.specs.declared.name.SymbolId.{SymbolId}
use Rattle.mini_model.specs.Tree.{Tree, Trees, node, none, ◌▸◌}
use Rattle.mini_laws.specs.declared.names.Use.TheVariants.{Read}
use Rattle.mini_laws.specs.Resolved.{resolved_program}
use Rattle.mini_laws.specs.Scoped.{Scoped}
use Rattle.mini_laws.specs.Symbols.{mapped, all_mapped, with_new, bare, all_bare, renamed, new_symbol, declared_symbols, Distinct}
use Rattle.mini_laws.proofs.Places.{renamed_again}
use Rattle.mini_accept.specs.Numbered.{next_after}
use Rattle.mini_kept.specs.Carried.{renumbered, all_renumbered, numbers, all_numbers, with_number, number_of, number_at, NumberedAlike, carried}
use Rattle.mini_kept.proofs.Renumbered.{program_renumbered}
use Rattle.mini_kept.proofs.Carrying.{numbers_carried}

mutual
  unfolding renumbered mapped

  swapped : (f : ℕ → ℕ) (g : Option SymbolId → Option SymbolId) (t : Tree) → renumbered f (mapped g t) ≡ mapped g (renumbered f t)
  swapped f g (node h xs n ts) = ap (node h (map (with_new g) xs) (f n)) (all_swapped f g ts)

  all_swapped : (f : ℕ → ℕ) (g : Option SymbolId → Option SymbolId) (ts : Trees) → all_renumbered f (all_mapped g ts) ≡ all_mapped g (all_renumbered f ts)
  all_swapped f g none = refl
  all_swapped f g (t ▸ ts) = ap (λ a. a ▸ all_renumbered f (all_mapped g ts)) (swapped f g t) ∙ ap (λ a. mapped g (renumbered f t) ▸ a) (all_swapped f g ts)

mutual
  unfolding numbers bare

  pub numbers_bare : (t : Tree) → numbers (bare t) ≡ numbers t
  numbers_bare (node h xs n ts) = ap (with_number n) (all_numbers_bare ts)

  all_numbers_bare : (ts : Trees) → all_numbers (all_bare ts) ≡ all_numbers ts
  all_numbers_bare none = refl
  all_numbers_bare (t ▸ ts) = ap (λ a. a ++ all_numbers (all_bare ts)) (numbers_bare t) ∙ ap (λ a. numbers t ++ a) (all_numbers_bare ts)

pub number_bare : (u : Tree) → number_of (bare u) ≡ number_of u
unfolding bare
number_bare (node h xs n ts) = refl

-- with the numbers of u, what was read is u without symbols
unnamed : (t u : Tree) (n : ℕ) → next_after t 0 ≡ Some n → number_of u ≡ 0 → NumberedAlike t (bare u) → renumbered (number_at (0 ∷ numbers u)) t ≡ bare u
unnamed t u n e z a =
    subst (λ ns. renumbered (number_at (0 ∷ ns)) t ≡ bare u) (numbers_bare u) (numbers_carried t (bare u) n e (number_bare u ∙ z) a).0

pub program_carried : (t u : Tree) (n : ℕ) → next_after t 0 ≡ Some n → number_of u ≡ 0 → NumberedAlike t (bare u) → Scoped Read [] u → Distinct (declared_symbols u) → carried (0 ∷ numbers u) (declared_symbols u) (resolved_program t) ≡ u
program_carried t u n e z a s d =
    let f = number_at (0 ∷ numbers u) in
    swapped f (new_symbol (declared_symbols u)) (resolved_program t)
    ∙ ap (renamed (declared_symbols u)) (sym (program_renumbered f t) ∙ ap resolved_program (unnamed t u n e z a))
    ∙ renamed_again u s d
