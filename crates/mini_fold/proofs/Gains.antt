-- What is lighter by as much as a row asks, and the test of it.
use Rattle.std.proofs.Common.{◌≡◌, zero, ◌+◌, ◌<◌, ◌≤◌, ◌-◌, ◌^◌, true, arith}
use Rattle.std.specs.Prelude.{pos, Some, None}
use Rattle.std.proofs.lemmas.Bool.{leb-true, le-leb}
use Rattle.mini_model.specs.declared.place.Position.{Position}
use Rattle.mini_model.specs.declared.place.Position.TheVariants.{Expr}
use Rattle.mini_model.specs.declared.seat.Seat.{Seat}
use Rattle.mini_model.specs.declared.shape.Shape.{Shape}
use Rattle.mini_model.specs.declared.shape.Shape.TheVariants as shape
use Rattle.mini_model.specs.Tree.{Tree, shape_of}
use Rattle.mini_model.specs.Weight.{weight, capped}
use Rattle.mini_rows.specs.Constants.{gain_by, least_gain}
use Rattle.mini_fold.specs.FoldConstants.{is_lighter}

pub nothing : {A : Type 0} {a : A} {B : Type 0} → None ≡ Some a → B
nothing e = cc e

gains : (h : Shape) → 1 ≤ gain_by h
gains (shape.NumericLiteral (pos zero)) = omega arith
gains h = omega arith

pub lighter_is : (s : Seat) (w t : Tree) → is_lighter s w t ≡ true → weight (Expr s) w + least_gain w ≤ weight (Expr s) t
lighter_is s w t e = omega (arith, leb-true (least_gain w) (capped (weight (Expr s) t) - capped (weight (Expr s) w)) e, gains (shape_of w))

pub falls : (p : Position) (n w : Tree) → weight p w + least_gain w ≤ weight p n → weight p w < weight p n
falls p n w e = omega (arith, e, gains (shape_of w))

pub lighter_test : (s : Seat) (w t : Tree) → weight (Expr s) t < 2 ^ 64 → weight (Expr s) w + least_gain w ≤ weight (Expr s) t → is_lighter s w t ≡ true
lighter_test s w t small less = le-leb (least_gain w) (capped (weight (Expr s) t) - capped (weight (Expr s) w)) (omega (arith, small, less))
