-- A handler without a name for what it catches is lighter in every place.
use Rattle.std.proofs.Common.{◌≡◌, ◌<◌, sym, ap, ◌∙◌, inl, arith}
use Rattle.mini_model.specs.declared.name.Name.{Name}
use Rattle.mini_model.specs.declared.place.Position.{Position}
use Rattle.mini_model.specs.declared.place.Position.TheVariants.{Elsewhere}
use Rattle.mini_model.specs.Tree.{Tree, absent}
use Rattle.mini_model.specs.Weight.{outline, weight}
use Rattle.mini_laws.specs.Weights.{Lightens}
use Rattle.mini_rows.specs.Catches.{handler, CatchRow, CatchContracts, CatchesLighter}
use Rattle.mini_rows.specs.Declarations.{binding}
use Rattle.mini_rows.specs.Unused.{resolved}

falls : (x : Name) (b : Tree) → weight Elsewhere (handler absent b) < weight Elsewhere (handler (binding x) b)
falls x b = omega arith

pub catches_lighter : CatchesLighter
catches_lighter Elsewhere n w r =
    let less = falls (resolved r.spelling r.symbol) r.body in
    omega (arith, less, ap (weight Elsewhere) r.shape, ap (weight Elsewhere) r.written)
catches_lighter p n w r = absurd r

row_outline : (p : Position) (n w : Tree) → CatchRow p n w → outline n ≡ outline w
row_outline Elsewhere n w r = ap outline r.shape ∙ sym (ap outline r.written)
row_outline p n w r = absurd r

pub catches_lighten : Lightens CatchContracts
catches_lighten = record {
  lighter = λ p n w c. c.lighter;
  absent = λ p n w c e. ap (λ o. o.absent) (row_outline p n w c.row);
  items = λ p n w c e. ap (λ o. o.items) (row_outline p n w c.row);
  is_zero = λ p n w c e. inl (ap (λ o. o.is_zero) (row_outline p n w c.row));
  chooses = λ p n w c e. inl (λ h. sym (ap (λ o. o.chooses) (row_outline p n w c.row)) ∙ h);
}
