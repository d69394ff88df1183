-- The same of what no node writes and what isn't foreign: what the body's own declarators give a
-- name doesn't count, as it runs between two statements of the body and no answer runs it.
use Rattle.std.specs.Prelude.{ℕ, ◌≡◌, Bool, true, false, []}
use Rattle.std.specs.List.{list_any}
use Rattle.mini_model.specs.declared.place.Position.{Position}
use Rattle.mini_model.specs.declared.place.Position.TheVariants.{Elsewhere}
use Rattle.mini_model.specs.declared.shape.Shape.{Shape}
use Rattle.mini_model.specs.Tree.{Tree}
use Rattle.mini_model.specs.Rewriting.{Reaches}
use Rattle.mini_accept.specs.WellShaped.{IsWellShaped}
use Rattle.mini_laws.specs.declared.names.Use.TheVariants.{Read}
use Rattle.mini_laws.specs.Foreign.{is_foreign, is_write}
use Rattle.mini_laws.specs.Mentions.{program_mentions}
use Rattle.mini_laws.specs.ScopeList.{by_symbol}
use Rattle.mini_laws.specs.Scoped.{Scoped}
use Rattle.mini_laws.specs.Symbols.{declared_symbols, Distinct}
use Rattle.mini_laws.specs.Value.{VariableSet}
use Rattle.mini_kept.specs.Loosely.{LawfulUnder}
use Rattle.mini_kept.specs.Without.{BodySets, Within}
use Rattle.mini_shrink.specs.Facts.{ReadsLess}
use Rattle.mini_shrink.specs.Told.{is_steady}
use Rattle.mini_shrink.specs.ToldOn.{told_by}

abbrev pub exactly_of : Tree → BodySets
exactly_of t = told_by (is_steady t) t

-- it isn't foreign to the body, and no node writes it
pub record IsExactlySo (t : Tree) (b s : ℕ) : Type 0 where
  pub steady : is_steady t b s ≡ true → is_foreign t b (by_symbol s) ≡ false
  pub unwritten : is_steady t b s ≡ true → list_any (is_write (by_symbol s)) (program_mentions t) ≡ false

abbrev pub ExactIsSo : Type 0
ExactIsSo = (t : Tree) (b s : ℕ) → IsWellShaped t → Scoped Read [] t → IsExactlySo t b s

abbrev pub ExactWithin : (Position → Tree → Tree → Type 0) → Type 0
ExactWithin R =
    (K : Shape → Bool) (W : VariableSet) (S : BodySets) → LawfulUnder K W S R → ReadsLess R → (q v : Tree) → Reaches R Elsewhere q v → IsWellShaped q → Scoped Read [] q → Distinct (declared_symbols q)
    → (b : ℕ) → Within (exactly_of q b) (exactly_of v b)
