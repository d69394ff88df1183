-- In a program without early errors of names, what is foreign to a body by what shrinks is foreign
-- by the definition, too: what is told of a body is all that the definitions say of it.
use Rattle.std.specs.Prelude.{ℕ, ◌≡◌, Bool, true, false, not, ◌&&◌, []}
use Rattle.std.specs.List.{list_any}
use Rattle.mini_model.specs.Tree.{Tree}
use Rattle.mini_accept.specs.WellShaped.{IsWellShaped}
use Rattle.mini_laws.specs.declared.names.Use.TheVariants.{Read}
use Rattle.mini_laws.specs.Foreign.{is_write, lexical_variables, switched, moments, is_read_early, is_declared_in, is_foreign_always, is_foreign}
use Rattle.mini_laws.specs.Mentions.{is_among, outermost, program_mentions}
use Rattle.mini_laws.specs.ScopeList.{by_symbol}
use Rattle.mini_laws.specs.Scoped.{Scoped}
use Rattle.mini_laws.specs.Symbols.{declared_symbols, Distinct}
use Rattle.mini_kept.specs.KeepsNames.{NamesOnce}
use Rattle.mini_kept.specs.Without.{Within}
use Rattle.mini_shrink.specs.Exact.{exactly_of}
use Rattle.mini_shrink.specs.Pace.{pace}
use Rattle.mini_shrink.specs.Questions.{at_program, early}
use Rattle.mini_shrink.specs.Told.{is_reads, is_bound_elsewhere, is_written, is_foreign_name}
use Rattle.mini_shrink.specs.ToldOn.{told_by, told_of}

-- a program in which each name is declared once
pub record DeclaresOnce (t : Tree) : Type 0 where
  pub shaped : IsWellShaped t
  pub scoped : Scoped Read [] t
  pub distinct : Distinct (declared_symbols t)
  pub once : NamesOnce [] t

-- no symbol is bound in two bodies, but for those that are foreign always, as what a pattern binds
abbrev pub BoundOnce : Type 0
BoundOnce = (t : Tree) → DeclaresOnce t → (b s : ℕ) → is_foreign_always t (by_symbol s) ≡ false → is_bound_elsewhere t b s ≡ true → is_declared_in t b (by_symbol s) ≡ false

-- what a body reads early by the ends that scopes tell it reads early by all moments of the program
abbrev pub EarlyByMoments : Type 0
EarlyByMoments =
    (t : Tree) → DeclaresOnce t → (b s : ℕ) → is_foreign_always t (by_symbol s) ≡ false → is_among (by_symbol s) (lexical_variables false t) ≡ true → is_among (by_symbol s) (switched t) ≡ false
    → is_reads (pace (early b s) at_program [] t) ≡ true → is_read_early b (by_symbol s) (moments Read outermost t) ≡ true

abbrev pub ForeignByDefinition : Type 0
ForeignByDefinition = (t : Tree) → DeclaresOnce t → (b s : ℕ) → is_foreign_name t b s ≡ true → is_foreign t b (by_symbol s) ≡ true

-- ---- what is told

-- nothing writes a symbol, or no node does, and it isn't foreign by the definition
abbrev pub stays_by_definition : Tree → ℕ → ℕ → Bool
stays_by_definition t b s = not (is_written t s) && not (is_foreign t b (by_symbol s))

abbrev pub steady_by_definition : Tree → ℕ → ℕ → Bool
steady_by_definition t b s = not (list_any (is_write (by_symbol s)) (program_mentions t)) && not (is_foreign t b (by_symbol s))

-- all that the definitions say of a body is told of it
abbrev pub ToldIsAll : Type 0
ToldIsAll = (t : Tree) → DeclaresOnce t → (b : ℕ) → Within (told_by (stays_by_definition t) t b) (told_of t b)

abbrev pub ExactIsAll : Type 0
ExactIsAll = (t : Tree) → DeclaresOnce t → (b : ℕ) → Within (told_by (steady_by_definition t) t b) (exactly_of t b)
