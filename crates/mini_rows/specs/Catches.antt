-- The row of what a `catch` catches: a shape and what is written in its place, with the JavaScript
-- before and after.
use Rattle.std.specs.Prelude.{◌≡◌, ◌<◌, ℕ, Bool, false, List, []}
use Rattle.mini_model.specs.declared.place.Position.{Position}
use Rattle.mini_model.specs.declared.place.Position.TheVariants.{Elsewhere}
use Rattle.mini_model.specs.declared.shape.Shape.{Shape}
use Rattle.mini_model.specs.declared.shape.Shape.TheVariants as shape
use Rattle.mini_model.specs.Tree.{Tree, node, none, ◌▸◌, absent}
use Rattle.mini_model.specs.Weight.{weight}
use Rattle.mini_laws.specs.ScopeList.{has_eval}
use Rattle.mini_kept.specs.Loosely.{LawfulLoosely}
use Rattle.mini_rows.specs.Declarations.{binding}
use Rattle.mini_rows.specs.Unused.{names, resolved}

-- `catch (e) {..}`, with what it catches in a name, or in none
abbrev pub handler : Tree → Tree → Tree
handler parameter body = node shape.CatchClause [] 0 (parameter ▸ (body ▸ none))

-- 63: `catch (e) { f(); }` becomes `catch { f(); }`, where nothing in the body has the symbol of
-- the name or its spelling, as a `var` of its name would, and no direct eval stands there, which
-- would see it
pub record Row63 (n w : Tree) : Type 0 where
  pub spelling : List ℕ
  pub symbol : ℕ
  pub body : Tree
  pub unmentioned : names (resolved spelling symbol) body ≡ false
  pub unseen : has_eval body ≡ false
  pub shape : n ≡ handler (binding (resolved spelling symbol)) body
  pub written : w ≡ handler absent body

-- a row reads n as w at this place, which a handler stands at
abbrev pub CatchRow : Position → Tree → Tree → Type 0
CatchRow Elsewhere n w = Row63 n w
CatchRow _ n w = ⊥

-- what it writes, where it weighs less
pub record CatchContracts (p : Position) (n w : Tree) : Type 0 where
  pub row : CatchRow p n w
  pub lighter : weight p w < weight p n

-- which is everywhere
abbrev pub CatchesLighter : Type 0
CatchesLighter = (p : Position) (n w : Tree) → CatchRow p n w → weight p w < weight p n

-- it drops a name that nothing mentions
abbrev pub CatchesAreLawful : Type 0
CatchesAreLawful = (K : Shape → Bool) → LawfulLoosely K CatchContracts
