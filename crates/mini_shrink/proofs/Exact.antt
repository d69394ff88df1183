-- The same of what no node writes.
use Rattle.std.specs.Prelude.{ℕ, ◌≡◌, ◌⊎◌, refl, Bool, true, false, not, ◌&&◌, []}
use Rattle.std.specs.List.{list_any}
use Rattle.std.proofs.Common.{sym, inl, inr, true≢false}
use Rattle.std.proofs.lemmas.Bool.{and_parts}
use Rattle.mini_model.specs.declared.place.Position.{Position}
use Rattle.mini_model.specs.declared.place.Position.TheVariants.{Elsewhere}
use Rattle.mini_model.specs.Tree.{Tree}
use Rattle.mini_model.specs.Rewriting.{Reaches}
use Rattle.mini_accept.specs.WellShaped.{IsWellShaped}
use Rattle.mini_laws.specs.declared.names.Use.TheVariants.{Read}
use Rattle.mini_laws.specs.ScopeList.{by_symbol}
use Rattle.mini_laws.specs.Scoped.{Scoped}
use Rattle.mini_laws.specs.Symbols.{declared_symbols, Distinct}
use Rattle.mini_laws.specs.Value.{Variable, Declared, Global}
use Rattle.mini_laws.specs.Mentions.{is_among, program_mentions}
use Rattle.mini_laws.specs.Foreign.{lexical_variables, is_write}
use Rattle.mini_kept.specs.KeepsShapes.{KeepsShapes}
use Rattle.mini_kept.specs.Lifted.{KeepsNames}
use Rattle.mini_kept.specs.Loosely.{undeclared}
use Rattle.mini_kept.specs.Without.{Within}
use Rattle.mini_shrink.specs.Facts.{ReadsLess}
use Rattle.mini_shrink.specs.Told.{is_foreign_name, is_steady}
use Rattle.mini_shrink.specs.ToldOn.{told_of, ShowsLess}
use Rattle.mini_shrink.specs.Exact.{exactly_of, ExactIsSo, ExactWithin}
use Rattle.mini_shrink.proofs.Either.{not_true, false_not, either}
use Rattle.mini_shrink.proofs.ToldOn.{steady_there, gone, still_native, later, shrunk, lexical_on}
use Rattle.mini_shrink.proofs.Within.{told_within}
use Rattle.mini_shrink.proofs.Tops.{shows_less}

pub exact_is_so : ExactIsSo
exact_is_so t b s r a = record {
  steady = λ e. still_native t b s r a (not_true (is_foreign_name t b s) (and_parts (not (list_any (is_write (by_symbol s)) (program_mentions t))) _ e).1);
  unwritten = λ e. not_true (list_any (is_write (by_symbol s)) (program_mentions t)) (and_parts (not (list_any (is_write (by_symbol s)) (program_mentions t))) _ e).0;
}

module _ (R : Position → Tree → Tree → Type 0) (l : KeepsNames R) (shapes : KeepsShapes R) (reads : ReadsLess R) (shows : ShowsLess R) (q v : Tree) (r : Reaches R Elsewhere q v) (e : IsWellShaped q) (a : Scoped Read [] q) (d : Distinct (declared_symbols q)) (b : ℕ) where
  steady_on : (s : ℕ) → is_steady q b s ≡ true → is_steady v b s ≡ true
  steady_on s h = by (either (undeclared v (Declared s)))
    where
      by : (undeclared v (Declared s) ≡ true) ⊎ (undeclared v (Declared s) ≡ false) → is_steady v b s ≡ true
      by (inl g) = steady_there v s (gone v s (later R l shapes reads shows q v r e a d b) g) b
      by (inr g) = (shrunk R l shapes reads shows q v r e a d b s g).steady h

  initial_on : (s : ℕ) (m k : Bool) → is_steady q b s ≡ m → not (is_among (by_symbol s) (lexical_variables false q)) ≡ k → (m && k) ≡ true → (is_steady v b s && not (is_among (by_symbol s) (lexical_variables false v))) ≡ true
  initial_on s true true f g h = (λ i. steady_on s f i && false_not (is_among (by_symbol s) (lexical_variables false v)) (lexical_on R l shapes reads shows q v r e a d b s (not_true (is_among (by_symbol s) (lexical_variables false q)) g)) i)
  initial_on s true false f g h = absurd (true≢false (sym h))
  initial_on s false k f g h = absurd (true≢false (sym h))

  pub exactly_within : Within (told_of q b) (told_of v b) → Within (exactly_of q b) (exactly_of v b)
  exactly_within w = record { steady = steady; unshared = w.unshared; initial = initial; has_this = w.has_this }
    where
      steady : (y : Variable) → (exactly_of q b).steady y ≡ true → (exactly_of v b).steady y ≡ true
      steady (Declared s) h = steady_on s h
      steady (Global s) h = absurd (true≢false (sym h))

      initial : (y : Variable) → (exactly_of q b).initial y ≡ true → (exactly_of v b).initial y ≡ true
      initial (Declared s) h = initial_on s (is_steady q b s) (not (is_among (by_symbol s) (lexical_variables false q))) refl refl h
      initial (Global s) h = absurd (true≢false (sym h))

pub exact_within : (R : Position → Tree → Tree → Type 0) → ExactWithin R
exact_within R K W S l reads q v r e a d b = exactly_within R l.places.names l.shapes reads (shows_less R l.places l.shapes) q v r e a d b (told_within R K W S l reads q v r e a d b)
