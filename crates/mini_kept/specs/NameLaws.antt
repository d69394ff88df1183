-- What a program that is written and read again has to do with the one that was written.
use Rattle.std.specs.Prelude.{ℕ, suc, ◌≡◌, [], ◌∷◌, length, Some}
use Rattle.mini_model.specs.Tree.{Tree}
use Rattle.mini_laws.specs.Resolved.{resolved_program}
use Rattle.mini_laws.specs.declared.names.Use.TheVariants.{Read}
use Rattle.mini_laws.specs.Scoped.{Scoped}
use Rattle.mini_laws.specs.Symbols.{bare, declared_symbols, Distinct}
use Rattle.mini_accept.specs.Numbered.{next_after}
use Rattle.mini_kept.specs.Carried.{renumbered, numbers, number_at, number_of, NumberedAlike, carried}

-- resolution doesn't look at numbers
abbrev pub ResolvedRenumbered : Type 0
ResolvedRenumbered = (f : ℕ → ℕ) (t : Tree) → resolved_program (renumbered f t) ≡ renumbered f (resolved_program t)

-- a program numbered in preorder, with the numbers of another that differs from it in numbers
-- alone, is that
abbrev pub NumbersCarried : Type 0
NumbersCarried = (t u : Tree) (n : ℕ) → next_after t 0 ≡ Some n → number_of u ≡ 0 → NumberedAlike t u → (renumbered (number_at (0 ∷ numbers u)) t ≡ u) × (n ≡ suc (length (numbers u)))

-- so a program that is written, read again and resolved is, with the numbers and the symbols that
-- it stands for, the program that was written: for t read of what is written for u, which differs
-- from it in symbols and numbers alone
abbrev pub ProgramCarried : Type 0
ProgramCarried =
    (t u : Tree) (n : ℕ) → next_after t 0 ≡ Some n → number_of u ≡ 0 → NumberedAlike t (bare u) → Scoped Read [] u → Distinct (declared_symbols u) → carried (0 ∷ numbers u) (declared_symbols u) (resolved_program t) ≡ u
