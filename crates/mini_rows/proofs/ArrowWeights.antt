-- What the row of arrow functions writes is lighter in every seat.
use Rattle.std.proofs.Common.{◌≡◌, ◌<◌, refl, sym, ap, ◌∙◌, inl, arith}
use Rattle.mini_model.specs.declared.place.Position.{Position}
use Rattle.mini_model.specs.declared.place.Position.TheVariants.{Expr}
use Rattle.mini_model.specs.Tree.{Tree}
use Rattle.mini_model.specs.Position.{argument_seat, whole_seat}
use Rattle.mini_model.specs.Weight.{outline, weight}
use Rattle.mini_laws.specs.Weights.{Lightens}
use Rattle.mini_laws.proofs.Seats.{moved}
use Rattle.mini_rows.specs.Arrows.{ArrowRow, ArrowContracts, ArrowsLighter}

row_lighter : (p : Position) (n w : Tree) → ArrowRow p n w → weight p w < weight p n
row_lighter (Expr s) n w r =
    let most = moved argument_seat whole_seat refl r.value in
    omega (arith, most, ap (weight (Expr s)) r.shape, ap (weight (Expr s)) r.written)
row_lighter p n w r = absurd r

pub arrows_lighter : ArrowsLighter
arrows_lighter = row_lighter

row_outline : (p : Position) (n w : Tree) → ArrowRow p n w → outline n ≡ outline w
row_outline (Expr s) n w r = ap outline r.shape ∙ sym (ap outline r.written)
row_outline p n w r = absurd r

pub arrows_lighten : Lightens ArrowContracts
arrows_lighten = record {
  lighter = λ p n w c. c.lighter;
  absent = λ p n w c e. ap (λ o. o.absent) (row_outline p n w c.row);
  items = λ p n w c e. ap (λ o. o.items) (row_outline p n w c.row);
  is_zero = λ p n w c e. inl (ap (λ o. o.is_zero) (row_outline p n w c.row));
  chooses = λ p n w c e. inl (λ h. sym (ap (λ o. o.chooses) (row_outline p n w c.row)) ∙ h);
}
