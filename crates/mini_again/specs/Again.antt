-- A program that is read again: its symbols and the numbers of its nodes are others.
use Rattle.std.specs.Prelude.{ℕ, zero, suc, Option, Some, None}
use Rattle.mini_model.specs.Tree.{Tree, Trees}
use Rattle.mini_laws.specs.Renaming.{rename, rename_all, rename_variable, TellsApart}
use Rattle.mini_laws.specs.Value.{VariableSet}
use Rattle.mini_kept.specs.Without.{Assured, BodySets}
use Rattle.mini_rows.specs.Switches.{Liberties}

-- a symbol for each symbol, which tells symbols apart, and for a number above 0 the one before its
-- other number
pub record Renaming : Type 0 where
  pub symbol : ℕ → ℕ
  pub apart : TellsApart symbol
  pub number : ℕ → ℕ

-- 0, which says that a node has no number, stays
abbrev pub other_number : Renaming → ℕ → ℕ
other_number ρ zero = zero
other_number ρ (suc n) = suc (ρ.number n)

-- the tree with its other symbols and numbers
abbrev pub again : Renaming → Tree → Tree
again ρ t = rename ρ.symbol (other_number ρ) t

abbrev pub all_again : Renaming → Trees → Trees
all_again ρ ts = rename_all ρ.symbol (other_number ρ) ts

-- a tree that may be absent
abbrev pub option_again : Renaming → Option Tree → Option Tree
option_again ρ (Some t) = Some (again ρ t)
option_again ρ None = None

-- the variables whose other ones V has
abbrev pub with_others_in : Renaming → VariableSet → VariableSet
with_others_in ρ V x = V (rename_variable ρ.symbol x)

abbrev pub liberties_with_others_in : Renaming → Liberties → Liberties
liberties_with_others_in ρ V = record { writable = with_others_in ρ V.writable; switches = V.switches }

-- what is known of a body whose other symbols are known so
abbrev pub assured_with_others : Renaming → Assured → Assured
assured_with_others ρ V = record { steady = with_others_in ρ V.steady; unshared = with_others_in ρ V.unshared; initial = with_others_in ρ V.initial; has_this = V.has_this }

-- what is known of each body, by its other number
abbrev pub sets_with_others : Renaming → BodySets → BodySets
sets_with_others ρ S n = assured_with_others ρ (S (other_number ρ n))
