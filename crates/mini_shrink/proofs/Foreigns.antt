-- What is foreign by all names and moments of a program is so by what shrinks.
use Rattle.std.specs.Prelude.{ℕ, ◌≡◌, refl, Bool, true, false, ◌&&◌, ◌||◌, not, List, [], ◌∷◌}
use Rattle.std.specs.List.{list_any}
use Rattle.std.proofs.Common.{sym, inl, inr, true≢false}
use Rattle.mini_model.specs.declared.name.Name.{Name}
use Rattle.mini_model.specs.Tree.{Tree}
use Rattle.mini_laws.specs.declared.names.Use.TheVariants.{Read}
use Rattle.mini_laws.specs.ScopeList.{by_symbol, seen_by_eval}
use Rattle.mini_laws.specs.Mentions.{Mention, outermost, same_variable, is_among, is_elsewhere, program_mentions}
use Rattle.mini_laws.specs.Shared.{script_tops, reached_by_arguments, program_pattern_writes, is_shared}
use Rattle.mini_laws.specs.Foreign.{imported_names, pattern_names, lexical_variables, switched, params_around, is_declared_in, is_read_early, moments, may_be_uninitialised, is_foreign_always, is_foreign}
use Rattle.mini_laws.specs.Value.{Declared}
use Rattle.mini_kept.specs.Loosely.{undeclared}
use Rattle.mini_shrink.specs.Pace.{pace}
use Rattle.mini_shrink.specs.Questions.{at_program, early}
use Rattle.mini_shrink.specs.Told.{is_reads, is_written, is_written_elsewhere, is_bound_elsewhere, is_unready, is_foreign_name}
use Rattle.mini_shrink.specs.Regular.{is_regular, ForeignByScopes}
use Rattle.mini_shrink.proofs.Moments.{early_by_scopes}
use Rattle.mini_shrink.proofs.Bound.{is_bound}
use Rattle.mini_shrink.proofs.Owns.{or_implied, and_implied}

-- what some name binds is bound in the body or elsewhere
bound_by : (b : ℕ) (x : Name) (ms : List Mention) → list_any (λ m. same_variable x m.name && m.binds) ms ≡ true → list_any (λ m. same_variable x m.name && m.binds && not (is_elsewhere b m.around)) ms ≡ false → list_any (λ m. same_variable x m.name && m.binds && is_elsewhere b m.around) ms ≡ true
bound_by b x [] e f = e
bound_by b x (m ∷ ms) e f = by (same_variable x m.name) m.binds (is_elsewhere b m.around) (bound_by b x ms) e f
  where
    by : (n d o : Bool) → (list_any (λ k. same_variable x k.name && k.binds) ms ≡ true → list_any (λ k. same_variable x k.name && k.binds && not (is_elsewhere b k.around)) ms ≡ false → list_any (λ k. same_variable x k.name && k.binds && is_elsewhere b k.around) ms ≡ true)
        → ((n && d) || list_any (λ k. same_variable x k.name && k.binds) ms) ≡ true → ((n && d && not o) || list_any (λ k. same_variable x k.name && k.binds && not (is_elsewhere b k.around)) ms) ≡ false → ((n && d && o) || list_any (λ k. same_variable x k.name && k.binds && is_elsewhere b k.around) ms) ≡ true
    by true true true r e f = refl
    by true true false r e f = absurd (true≢false f)
    by true false true r e f = r e f
    by true false false r e f = r e f
    by false d true r e f = r e f
    by false d false r e f = r e f

module _ (t : Tree) (b s : ℕ) (regular : is_regular s t ≡ true) (declares : undeclared t (Declared s) ≡ false) where
  abbrev x : Name
  x = by_symbol s

  elsewhere : (c : Bool) → is_declared_in t b x ≡ c → not c ≡ true → is_bound_elsewhere t b s ≡ true
  elsewhere true e f = absurd (true≢false (sym f))
  elsewhere false e f = bound_by b x (program_mentions t) (is_bound s t declares) e

  unready : may_be_uninitialised t b x ≡ true → is_unready t b s ≡ true
  unready =
      or_implied _ (is_among x (params_around b t)) _ (is_among x (params_around b t))
      (and_implied (is_among x (lexical_variables false t)) _ (is_among x (lexical_variables false t)) _ (λ e. e)
      (or_implied _ (is_read_early b x (moments Read outermost t)) _ (is_reads (pace (early b s) at_program [] t))
      (or_implied (not (is_declared_in t b x)) (is_among x (switched t)) (is_bound_elsewhere t b s) (is_among x (switched t)) (elsewhere (is_declared_in t b x) refl) (λ e. e)) (early_by_scopes t b s regular)))
      (λ e. e)

  foreign : is_foreign t b x ≡ true → is_foreign_name t b s ≡ true
  foreign =
      or_implied _ (may_be_uninitialised t b x) _ (is_unready t b s)
      (or_implied (is_foreign_always t x || (is_shared t b x && is_written_elsewhere t b s)) _ (is_foreign_always t x || (is_shared t b x && is_written_elsewhere t b s)) _ (λ e. e)
      (and_implied (not (is_declared_in t b x)) (is_written t s) (is_bound_elsewhere t b s) (is_written t s) (elsewhere (is_declared_in t b x) refl) (λ e. e)))
      unready

-- an imported name is foreign always
imported : (t : Tree) (b s : ℕ) → is_among (by_symbol s) (imported_names t) ≡ true → is_foreign_name t b s ≡ true
imported t b s e =
    let x = by_symbol s in
    λ j. ((((((e j || is_among x (script_tops t)) || is_among x (seen_by_eval t)) || is_among x (reached_by_arguments false t)) || is_among x (pattern_names t)) || is_among x (program_pattern_writes t)) || (is_shared t b x && is_written_elsewhere t b s) || (is_bound_elsewhere t b s && is_written t s)) || is_unready t b s

pub foreign_by_scopes : ForeignByScopes
foreign_by_scopes t b s (inl r) d e = foreign t b s r d e
foreign_by_scopes t b s (inr i) d e = imported t b s i
