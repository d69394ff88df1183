-- Rows of `catch` read a node that is read again.
use Rattle.mini_again.proofs.LawScopeListAgain.{has_eval_again}
use Rattle.mini_again.proofs.ModelWeightAgain.{weight_again}
use Rattle.mini_again.proofs.UnusedAgain.{names_again}
use Rattle.mini_again.specs.Again.{Renaming, again}
use Rattle.mini_model.specs.Tree.{Tree}
use Rattle.mini_model.specs.declared.place.Position.{Position}
use Rattle.mini_model.specs.declared.place.Position.TheVariants.{Elsewhere}
use Rattle.mini_rows.specs.Catches.{CatchContracts, CatchRow, Row63}
use Rattle.mini_rows.specs.Lists.{resolved}
use Rattle.std.proofs.Common.{ap}

pub row63_again : (ρ : Renaming) (n w : Tree) → Row63 n w → Row63 (again ρ n) (again ρ w)
row63_again ρ n w r = record {
  spelling = r.spelling;
  symbol = ρ.symbol r.symbol;
  body = again ρ r.body;
  unmentioned = simp (names_again ρ (resolved r.spelling r.symbol) r.body) r.unmentioned;
  unseen = simp (has_eval_again ρ r.body) r.unseen;
  shape = ap (again ρ) r.shape;
  written = ap (again ρ) r.written;
}

pub catch_row_again : (ρ : Renaming) (p : Position) (n w : Tree) → CatchRow p n w → CatchRow p (again ρ n) (again ρ w)
catch_row_again ρ Elsewhere n w r = row63_again ρ n w r
catch_row_again ρ p0 n w r = absurd r

pub catch_contracts_again : (ρ : Renaming) (p : Position) (n w : Tree) → CatchContracts p n w → CatchContracts p (again ρ n) (again ρ w)
catch_contracts_again ρ p n w r = record {
  row = catch_row_again ρ p n w r.row;
  lighter = simp (weight_again ρ p w, weight_again ρ p n) r.lighter;
}
