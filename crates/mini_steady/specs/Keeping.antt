-- What the rows of members write is read alike, declares no name that what stood there didn't and
-- no symbol more often, and is lighter: they keep all that the code of a body has to keep.
use Rattle.std.specs.Prelude.{ℕ}
use Rattle.mini_model.specs.declared.place.Position.{Position}
use Rattle.mini_model.specs.Tree.{Tree}
use Rattle.mini_kept.specs.Without.{Assured}
use Rattle.mini_rows.specs.Editions.{SteadyRowsIn}
use Rattle.mini_rows.specs.Steady.{KeepsOwn}
use Rattle.mini_rows.proofs.SteadyKept.{steady_own}
use Rattle.mini_steady.specs.Own.{KeepsCode, KeepsEach}

pub kept_code : (V : Assured) (R : Position → Tree → Tree → Type 0) → KeepsOwn V R → KeepsCode R
kept_code V R k = record { reads = k.reads; declared = k.declared; bound = k.bound; lightens = k.lightens }

-- so do those of an edition
pub members_keep : (e : ℕ) → KeepsEach (SteadyRowsIn e)
members_keep e V = let k = steady_own V in record {
  reads = λ p n w r. k.reads p n w r.0;
  declared = λ p n w r. k.declared p n w r.0;
  bound = λ p n w r. k.bound p n w r.0;
  lightens = record {
    lighter = λ p n w r. k.lightens.lighter p n w r.0;
    absent = λ p n w r a. k.lightens.absent p n w r.0 a;
    items = λ p n w r a. k.lightens.items p n w r.0 a;
    is_zero = λ p n w r a. k.lightens.is_zero p n w r.0 a;
    chooses = λ p n w r a. k.lightens.chooses p n w r.0 a;
  };
}
