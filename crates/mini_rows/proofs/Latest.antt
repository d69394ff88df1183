-- The edition of 2021, and each later one, has the form of each row.
use Rattle.std.proofs.Common.{◌≤◌, ℕ, arith, inl, inr}
use Rattle.mini_model.specs.declared.place.Position.{Position}
use Rattle.mini_model.specs.declared.place.Position.TheVariants.{Expr}
use Rattle.mini_model.specs.declared.seat.Seat.{Seat}
use Rattle.mini_model.specs.Tree.{Tree}
use Rattle.mini_laws.specs.Value.{VariableSet}
use Rattle.mini_kept.specs.Without.{Assured}
use Rattle.mini_rows.specs.Choices.{LighterRow, Decided, DecidedLast, NullishIfEqual, NullishIfUnequal, Shorter, OptionalChain, ChoiceRow}
use Rattle.mini_rows.specs.Editions.{LighterIn, ChoiceIn, WriteIn, SteadyIn, HasEach, LatestHasEach}
use Rattle.mini_rows.specs.Steady.{SteadyRow}
use Rattle.mini_rows.specs.Writes.{WriteRow}

module _ (e : ℕ) (late : 2021 ≤ e) where
  lighter_in : (s : Seat) (n w : Tree) (r : LighterRow s n w) → LighterIn e s n w r
  lighter_in s n w (Decided r) = late
  lighter_in s n w (DecidedLast r) = late
  lighter_in s n w (NullishIfEqual r) = omega (arith, late)
  lighter_in s n w (NullishIfUnequal r) = omega (arith, late)
  lighter_in s n w r = tt

  choice_in : (p : Position) (n w : Tree) (r : ChoiceRow p n w) → ChoiceIn e p n w r
  choice_in (Expr s) n w (Shorter r) = lighter_in s n w r
  choice_in (Expr s) n w (OptionalChain r) = omega (arith, late)
  choice_in p n w r = tt

  write_in : (W : VariableSet) (p : Position) (n w : Tree) (r : WriteRow W p n w) → WriteIn e W p n w r
  write_in W (Expr s) n w (inl r) = late
  write_in W (Expr s) n w (inr (inl r)) = omega (arith, late)
  write_in W (Expr s) n w (inr (inr (inl r))) = tt
  write_in W (Expr s) n w (inr (inr (inr r))) = omega (arith, late)
  write_in W p n w r = absurd r

  steady_in : (V : Assured) (p : Position) (n w : Tree) (r : SteadyRow V p n w) → SteadyIn e V p n w r
  steady_in V (Expr s) n w (inl (inl r)) = late
  steady_in V (Expr s) n w (inl (inr (inl r))) = late
  steady_in V p n w r = tt

pub latest_has_each : LatestHasEach
latest_has_each e late = record { choices = choice_in e late; writes = write_in e late; steady = steady_in e late }
