-- What is told of the bodies of a program by what shrinks is so, and is told of the bodies of each
-- later program.
use Rattle.std.specs.Prelude.{ℕ, ◌≡◌, nat_eq, Bool, true, false, not, ◌&&◌, []}
use Rattle.std.specs.List.{list_any}
use Rattle.mini_model.specs.declared.place.Position.{Position}
use Rattle.mini_model.specs.declared.place.Position.TheVariants.{Elsewhere}
use Rattle.mini_model.specs.declared.shape.Shape.{Shape}
use Rattle.mini_model.specs.Tree.{Tree}
use Rattle.mini_model.specs.Rewriting.{Step, Reaches}
use Rattle.mini_accept.specs.WellShaped.{IsWellShaped}
use Rattle.mini_laws.specs.declared.names.Use.TheVariants.{Read}
use Rattle.mini_laws.specs.Bodies.{Body, bodies_in}
use Rattle.mini_laws.specs.Foreign.{all_writes, is_foreign, is_write, lexical_variables}
use Rattle.mini_laws.specs.Mentions.{is_among}
use Rattle.mini_laws.specs.ScopeList.{by_symbol}
use Rattle.mini_laws.specs.Scoped.{Scoped}
use Rattle.mini_laws.specs.Shared.{is_shared}
use Rattle.mini_laws.specs.Symbols.{declared_symbols, Distinct}
use Rattle.mini_laws.specs.Value.{Declared, Global, VariableSet}
use Rattle.mini_kept.specs.KeepsFrames.{KeepsPlaces}
use Rattle.mini_kept.specs.KeepsShapes.{KeepsShapes}
use Rattle.mini_kept.specs.Lifted.{KeepsNames}
use Rattle.mini_kept.specs.Loosely.{LawfulUnder}
use Rattle.mini_kept.specs.Without.{BodySets, Within}
use Rattle.mini_shrink.specs.Facts.{ReadsLess}
use Rattle.mini_shrink.specs.Told.{is_shown, is_lent, stays}

-- of declared names alone
abbrev pub of_symbols : (ℕ → Bool) → VariableSet
of_symbols p (Declared s) = p s
of_symbols p (Global s) = false

-- a body with this number asks the world for `this`
abbrev pub asks_as : ℕ → Body → Bool
asks_as n b = nat_eq b.number n && b.asks_this

-- What is told of the body with a number, by the symbols that are steady in each body: no answer
-- changes those, no event shows what it doesn't share, and it begins with what of the former is
-- nowhere lexical
abbrev pub told_by : (ℕ → ℕ → Bool) → Tree → BodySets
told_by steady t b = record {
  steady = of_symbols (steady b);
  unshared = of_symbols (λ s. not (is_shared t b (by_symbol s)));
  initial = of_symbols (λ s. steady b s && not (is_among (by_symbol s) (lexical_variables false t)));
  has_this = not (list_any (asks_as b) (bodies_in t));
}

-- by what nothing writes and what isn't foreign to the body by what shrinks
abbrev pub told_of : Tree → BodySets
told_of t = told_by (stays t) t

-- what is told is so, of each symbol: no answer changes it, and nothing writes it
pub record IsSo (t : Tree) (b s : ℕ) : Type 0 where
  pub steady : (told_of t b).steady (Declared s) ≡ true → is_foreign t b (by_symbol s) ≡ false
  pub unwritten : (told_of t b).steady (Declared s) ≡ true → list_any (is_write (by_symbol s)) (all_writes t) ≡ false

abbrev pub ToldIsSo : Type 0
ToldIsSo = (t : Tree) (b s : ℕ) → IsWellShaped t → Scoped Read [] t → IsSo t b s

-- a step in a program shows no name to others that it didn't, and lends none
pub record ShowsLess (R : Position → Tree → Tree → Type 0) : Type 0 where
  pub shown : (t u : Tree) → Step R Elsewhere t u → IsWellShaped t → Scoped Read [] t → (s : ℕ) → is_shown u s ≡ true → is_shown t s ≡ true
  pub lent : (t u : Tree) → Step R Elsewhere t u → IsWellShaped t → Scoped Read [] t → (s : ℕ) → is_lent u s ≡ true → is_lent t s ≡ true

-- no body asks for `this` that didn't
abbrev pub AskNoMore : Tree → Tree → Type 0
AskNoMore t u = (b : ℕ) → list_any (asks_as b) (bodies_in u) ≡ true → list_any (asks_as b) (bodies_in t) ≡ true

-- What is told of each body of a program is told of it after any number of steps. No second look
-- has to compare
abbrev pub ToldOn : (Position → Tree → Tree → Type 0) → Type 0
ToldOn R =
    KeepsNames R → KeepsShapes R → ReadsLess R → ShowsLess R → (q v : Tree) → Reaches R Elsewhere q v → IsWellShaped q → Scoped Read [] q → Distinct (declared_symbols q)
    → AskNoMore q v → (b : ℕ) → Within (told_of q b) (told_of v b)

-- ---- what a program shows to others

-- a relation that keeps its places shows no more: where it rewrites stand no imports and no
-- exports, but in a list that has the same ones
abbrev pub PlacesShow : (Position → Tree → Tree → Type 0) → Type 0
PlacesShow R = KeepsPlaces R → KeepsShapes R → ShowsLess R

-- ---- the whole

-- So what is told of a body of a program is told of it after any number of steps of a lawful
-- relation that reads less
abbrev pub ToldWithin : (Position → Tree → Tree → Type 0) → Type 0
ToldWithin R =
    (K : Shape → Bool) (W : VariableSet) (S : BodySets) → LawfulUnder K W S R → ReadsLess R → (q v : Tree) → Reaches R Elsewhere q v → IsWellShaped q → Scoped Read [] q → Distinct (declared_symbols q)
    → (b : ℕ) → Within (told_of q b) (told_of v b)
