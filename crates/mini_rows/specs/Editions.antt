-- Rows that write a form newer than the edition of 2015: each acts only where the edition that is
-- asked for has its form.
use Rattle.std.specs.Prelude.{◌≤◌, ℕ}
use Rattle.std.proofs.Common.{inl, inr}
use Rattle.mini_model.specs.declared.place.Position.{Position}
use Rattle.mini_model.specs.declared.place.Position.TheVariants.{Expr}
use Rattle.mini_model.specs.declared.seat.Seat.{Seat}
use Rattle.mini_model.specs.Tree.{Tree}
use Rattle.mini_laws.specs.Value.{VariableSet}
use Rattle.mini_kept.specs.Without.{Assured}
use Rattle.mini_rows.specs.Catches.{CatchContracts}
use Rattle.mini_rows.specs.Choices.{LighterRow, Decided, DecidedLast, NullishIfEqual, NullishIfUnequal, Shorter, OptionalChain, ChoiceRow, ChoiceContracts}
use Rattle.mini_rows.specs.Forms.{BareCatch, Coalescing, Chaining, Deciding, year}
use Rattle.mini_rows.specs.Steady.{OwnRows, SteadyRow}
use Rattle.mini_rows.specs.Writes.{WriteRow, WriteContracts}

-- ---- choices: 38 writes `x ||= b` and its like, 46 `x ?? b` and `x?.m`

abbrev pub LighterIn : ℕ → (s : Seat) (n w : Tree) → LighterRow s n w → Type 0
LighterIn e s n w (Decided r) = year (Deciding r.operator) ≤ e
LighterIn e s n w (DecidedLast r) = year (Deciding r.operator) ≤ e
LighterIn e s n w (NullishIfEqual r) = year Coalescing ≤ e
LighterIn e s n w (NullishIfUnequal r) = year Coalescing ≤ e
LighterIn e s n w r = Unit {0}

abbrev pub ChoiceIn : ℕ → (p : Position) (n w : Tree) → ChoiceRow p n w → Type 0
ChoiceIn e (Expr s) n w (Shorter r) = LighterIn e s n w r
ChoiceIn e (Expr s) n w (OptionalChain r) = year Chaining ≤ e
ChoiceIn e p n w r = Unit {0}

-- what a row writes where it weighs less, and the edition has its form
abbrev pub ChoicesIn : ℕ → Position → Tree → Tree → Type 0
ChoicesIn e p n w = (c : ChoiceContracts p n w) × ChoiceIn e p n w c.row

-- ---- names that can be written: 34 writes `x ||= b` and its like, 46 `(x = a) ?? b` and
-- `(x = a)?.m`

abbrev pub WriteIn : ℕ → (W : VariableSet) (p : Position) (n w : Tree) → WriteRow W p n w → Type 0
WriteIn e W (Expr s) n w (inl r) = year (Deciding r.operator) ≤ e
WriteIn e W (Expr s) n w (inr (inl r)) = year Coalescing ≤ e
WriteIn e W (Expr s) n w (inr (inr (inl r))) = Unit {0}
WriteIn e W (Expr s) n w (inr (inr (inr r))) = year Chaining ≤ e
WriteIn e W p n w r = Unit {0}

abbrev pub WritesIn : ℕ → VariableSet → Position → Tree → Tree → Type 0
WritesIn e W p n w = (c : WriteContracts W p n w) × WriteIn e W p n w c.row

-- ---- 63 writes `catch {}`

abbrev pub CatchesIn : ℕ → Position → Tree → Tree → Type 0
CatchesIn e p n w = CatchContracts p n w × (year BareCatch ≤ e)

-- ---- members of what keeps its value: 38 writes `x.k ||= b` and its like

abbrev pub SteadyIn : ℕ → (V : Assured) (p : Position) (n w : Tree) → SteadyRow V p n w → Type 0
SteadyIn e V (Expr s) n w (inl (inl r)) = year (Deciding r.operator) ≤ e
SteadyIn e V (Expr s) n w (inl (inr (inl r))) = year (Deciding r.operator) ≤ e
SteadyIn e V p n w r = Unit {0}

abbrev pub SteadyRowsIn : ℕ → OwnRows
SteadyRowsIn e V p n w = (r : SteadyRow V p n w) × SteadyIn e V p n w r

-- ---- the laws

-- the edition has the form of each row
pub record HasEach (e : ℕ) : Type 0 where
  pub choices : (p : Position) (n w : Tree) (r : ChoiceRow p n w) → ChoiceIn e p n w r
  pub writes : (W : VariableSet) (p : Position) (n w : Tree) (r : WriteRow W p n w) → WriteIn e W p n w r
  pub steady : (V : Assured) (p : Position) (n w : Tree) (r : SteadyRow V p n w) → SteadyIn e V p n w r

-- as that of 2021 has, and each later one: so by default, which is 2022, each row acts
abbrev pub LatestHasEach : Type 0
LatestHasEach = (e : ℕ) → 2021 ≤ e → HasEach e
