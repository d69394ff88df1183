-- Rows of a `let` with an assignment after it read a node that is read again.
use Rattle.mini_again.proofs.DeadCasesAgain.{known_again}
use Rattle.mini_again.proofs.DeadLexicalsAgain.{row77_lexical_again}
use Rattle.mini_again.proofs.InListAgain.{in_list_again}
use Rattle.mini_again.proofs.ListsAgain.{again_beginning, begins_well_again, begun_again, begun_without_again}
use Rattle.mini_again.proofs.ModelPathsAgain.{append_again}
use Rattle.mini_again.proofs.ModelWeightAgain.{weight_again}
use Rattle.mini_again.specs.Again.{Renaming, again, all_again, with_others_in}
use Rattle.mini_laws.specs.Value.{VariableSet}
use Rattle.mini_model.specs.Tree.{Tree, Trees, absent, none, ◌▸◌}
use Rattle.mini_model.specs.declared.place.Position.{Position}
use Rattle.mini_model.specs.declared.place.Position.TheVariants.{BodyList, StatementList}
use Rattle.mini_rows.specs.DeadCases.{known}
use Rattle.mini_rows.specs.Lets.{LetContracts, LetRow, LetsRow, Row70Let}
use Rattle.mini_rows.specs.Lists.{assigned, binding, declarator, resolved}
use Rattle.std.proofs.Common.{ap, inl, inr}

pub row70_let_again : (ρ : Renaming) (W : VariableSet) (a b : Trees) → Row70Let (with_others_in ρ W) a b → Row70Let W (all_again ρ a) (all_again ρ b)
row70_let_again ρ W a b r = record {
  ds = all_again ρ r.ds;
  spelling = r.spelling;
  symbol = ρ.symbol r.symbol;
  value = r.value;
  beginning = again_beginning ρ r.beginning;
  writable = r.writable;
  parts = simp (begins_well_again ρ r.beginning) r.parts;
  shape = simp (← (append_again ρ r.ds (declarator (binding (resolved r.spelling r.symbol)) absent ▸ none)), known_again ρ r.value, ← (begun_again ρ r.beginning (assigned (resolved r.spelling r.symbol) (known r.value)))) at (ap (all_again ρ) r.shape);
  written = simp (known_again ρ r.value, ← (append_again ρ r.ds (declarator (binding (resolved r.spelling r.symbol)) (known r.value) ▸ none)), ← (begun_without_again ρ r.beginning)) at (ap (all_again ρ) r.written);
}

pub lets_row_again : (ρ : Renaming) (W : VariableSet) (a b : Trees) → LetsRow (with_others_in ρ W) a b → LetsRow W (all_again ρ a) (all_again ρ b)
lets_row_again ρ W a b (inl r) = inl (row70_let_again ρ W a b r)
lets_row_again ρ W a b (inr r) = inr (row77_lexical_again ρ a b r)

pub let_row_again : (ρ : Renaming) (W : VariableSet) (p : Position) (n w : Tree) → LetRow (with_others_in ρ W) p n w → LetRow W p (again ρ n) (again ρ w)
let_row_again ρ W StatementList n w r = in_list_again ρ (lets_row_again ρ W) n w r
let_row_again ρ W BodyList n w r = in_list_again ρ (lets_row_again ρ W) n w r
let_row_again ρ W p1 n w r = absurd r

pub let_contracts_again : (ρ : Renaming) (W : VariableSet) (p : Position) (n w : Tree) → LetContracts (with_others_in ρ W) p n w → LetContracts W p (again ρ n) (again ρ w)
let_contracts_again ρ W p n w r = record {
  row = let_row_again ρ W p n w r.row;
  lighter = simp (weight_again ρ p w, weight_again ρ p n) r.lighter;
}
