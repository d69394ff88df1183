-- Rows of arrow functions read a node that is read again.
use Rattle.mini_again.proofs.ModelTreeAgain.{is_absent_again}
use Rattle.mini_again.specs.Again.{Renaming, again, other_number}
use Rattle.mini_model.specs.Tree.{Tree}
use Rattle.mini_model.specs.declared.place.Position.{Position}
use Rattle.mini_model.specs.declared.place.Position.TheVariants.{Expr}
use Rattle.mini_rows.specs.Arrows.{ArrowRow, Row59}
use Rattle.std.proofs.Common.{ap}

pub row59_again : (ρ : Renaming) (n w : Tree) → Row59 n w → Row59 (again ρ n) (again ρ w)
row59_again ρ n w r = record {
  number = other_number ρ r.number;
  parameters = again ρ r.parameters;
  value = again ρ r.value;
  there = simp (is_absent_again ρ r.value) r.there;
  shape = ap (again ρ) r.shape;
  written = ap (again ρ) r.written;
}

pub arrow_row_again : (ρ : Renaming) (p : Position) (n w : Tree) → ArrowRow p n w → ArrowRow p (again ρ n) (again ρ w)
arrow_row_again ρ (Expr s) n w r = row59_again ρ n w r
arrow_row_again ρ p0 n w r = absurd r
