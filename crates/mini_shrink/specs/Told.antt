-- What is told of a body, so that it is told of each later program: nothing writes a name, and it
-- isn't foreign; and no other body sees it. Foreign is as ever, but that of a name it is asked
-- whether another body declares it, and not whether this one doesn't; and an end of a declaration
-- is told in its scope.
use Rattle.std.specs.Prelude.{ℕ, ◌≡◌, Bool, true, false, not, ◌&&◌, ◌||◌, []}
use Rattle.std.specs.List.{list_any}
use Rattle.mini_model.specs.declared.place.Position.{Position}
use Rattle.mini_model.specs.declared.place.Position.TheVariants.{Elsewhere}
use Rattle.mini_model.specs.Tree.{Tree}
use Rattle.mini_model.specs.Rewriting.{Reaches}
use Rattle.mini_accept.specs.WellShaped.{IsWellShaped}
use Rattle.mini_laws.specs.declared.names.Use.TheVariants.{Read}
use Rattle.mini_laws.specs.ScopeList.{by_symbol}
use Rattle.mini_laws.specs.Scoped.{Scoped}
use Rattle.mini_laws.specs.Symbols.{declared_symbols, Distinct}
use Rattle.mini_laws.specs.Value.{Declared}
use Rattle.mini_laws.specs.Mentions.{same_variable, is_among, is_elsewhere, program_mentions}
use Rattle.mini_laws.specs.Shared.{script_tops, module_names, is_shared}
use Rattle.mini_laws.specs.Foreign.{imported_names, lexical_variables, switched, params_around, is_write, all_writes, is_foreign_always}
use Rattle.mini_kept.specs.KeepsShapes.{KeepsShapes}
use Rattle.mini_kept.specs.Lifted.{KeepsNames}
use Rattle.mini_kept.specs.Loosely.{undeclared}
use Rattle.mini_shrink.specs.Pace.{Pace, Reads, pace}
use Rattle.mini_shrink.specs.Questions.{at_program, early}
use Rattle.mini_shrink.specs.Facts.{ReadsLess}

abbrev pub is_reads : Pace → Bool
is_reads Reads = true
is_reads p = false

-- names that a program shows to others, and those that others may change
abbrev pub is_shown : Tree → ℕ → Bool
is_shown t s = is_among (by_symbol s) (script_tops t) || is_among (by_symbol s) (module_names t)

abbrev pub is_lent : Tree → ℕ → Bool
is_lent t s = is_among (by_symbol s) (imported_names t) || is_among (by_symbol s) (script_tops t)

-- something writes it: a node does, or a `var` of it has a value; in any body, or in another than
-- this
abbrev pub is_written : Tree → ℕ → Bool
is_written t s = list_any (is_write (by_symbol s)) (all_writes t)

abbrev pub is_written_elsewhere : Tree → ℕ → ℕ → Bool
is_written_elsewhere t b s = list_any (λ m. is_write (by_symbol s) m && is_elsewhere b m.around) (all_writes t)

-- another body declares it
abbrev pub is_bound_elsewhere : Tree → ℕ → ℕ → Bool
is_bound_elsewhere t b s = list_any (λ m. same_variable (by_symbol s) m.name && m.binds && is_elsewhere b m.around) (program_mentions t)

-- it may be uninitialised where the body reads it
abbrev pub is_unready : Tree → ℕ → ℕ → Bool
is_unready t b s =
    (is_among (by_symbol s) (lexical_variables false t) && (is_bound_elsewhere t b s || is_among (by_symbol s) (switched t) || is_reads (pace (early b s) at_program [] t)))
    || is_among (by_symbol s) (params_around b t)

-- Foreign, of a declared name
abbrev pub is_foreign_name : Tree → ℕ → ℕ → Bool
is_foreign_name t b s =
    is_foreign_always t (by_symbol s)
    || (is_shared t b (by_symbol s) && is_written_elsewhere t b s)
    || (is_bound_elsewhere t b s && is_written t s)
    || is_unready t b s

-- Steady: no node writes it, and it isn't foreign. What its own declarators give it in the body
-- doesn't count
abbrev pub is_steady : Tree → ℕ → ℕ → Bool
is_steady t b s = not (list_any (is_write (by_symbol s)) (program_mentions t)) && not (is_foreign_name t b s)

-- nothing writes it, and it isn't foreign
abbrev pub stays : Tree → ℕ → ℕ → Bool
stays t b s = not (is_written t s) && not (is_foreign_name t b s)

-- what is so of one program is so of another
pub record Shrinks (t u : Tree) (b s : ℕ) : Type 0 where
  pub shared : is_shared u b (by_symbol s) ≡ true → is_shared t b (by_symbol s) ≡ true
  pub foreign : is_foreign_name u b s ≡ true → is_foreign_name t b s ≡ true
  pub steady : is_steady t b s ≡ true → is_steady u b s ≡ true
  pub stays : stays t b s ≡ true → stays u b s ≡ true
  pub initial : is_among (by_symbol s) (lexical_variables false u) ≡ true → is_among (by_symbol s) (lexical_variables false t) ≡ true

-- Shared and Foreign only shrink over any number of steps, of each symbol that is still declared,
-- where no name is shown to others that wasn't; and what is steady in a body stays so
abbrev pub ToldShrinks : (Position → Tree → Tree → Type 0) → Type 0
ToldShrinks R =
    KeepsNames R → KeepsShapes R → ReadsLess R → (t u : Tree) → Reaches R Elsewhere t u → IsWellShaped t → Scoped Read [] t → Distinct (declared_symbols t)
    → (b s : ℕ) → undeclared u (Declared s) ≡ false → (is_shown u s ≡ true → is_shown t s ≡ true) → (is_lent u s ≡ true → is_lent t s ≡ true) → Shrinks t u b s
