-- Rows of names of functions and classes read a node that is read again.
use Rattle.mini_again.proofs.LawScopeListAgain.{any_has_eval_again}
use Rattle.mini_again.proofs.ModelWeightAgain.{weight_again}
use Rattle.mini_again.proofs.UnusedAgain.{any_names_again}
use Rattle.mini_again.specs.Again.{Renaming, again, all_again, other_number}
use Rattle.mini_model.specs.Tree.{Tree}
use Rattle.mini_model.specs.declared.place.Position.{Position}
use Rattle.mini_model.specs.declared.place.Position.TheVariants.{Expr}
use Rattle.mini_rows.specs.Lists.{resolved}
use Rattle.mini_rows.specs.Names.{AClass, AFunction, NameContracts, NameRow, Nameable, Row62, inside_of, shape_by}
use Rattle.mini_rows.specs.Switches.{Switches}
use Rattle.std.proofs.Common.{ap}
use Rattle.std.specs.Prelude.{refl, ◌≡◌}

abbrev pub again_nameable : Renaming → Nameable → Nameable
again_nameable ρ (AFunction a0 a1 a2 a3) = AFunction a0 a1 (again ρ a2) (again ρ a3)
again_nameable ρ (AClass a0 a1) = AClass (again ρ a0) (again ρ a1)

unfoldable pub inside_of_again : (ρ : Renaming) (n : Nameable) → inside_of (again_nameable ρ n) ≡ all_again ρ (inside_of n)
inside_of_again ρ (AFunction is_generator directives params body) = refl
inside_of_again ρ (AClass superclass body) = refl

pub shape_by_again : (ρ : Renaming) (n : Nameable) → shape_by (again_nameable ρ n) ≡ shape_by n
shape_by_again ρ (AFunction is_generator directives params body) = refl
shape_by_again ρ (AClass superclass body) = refl

pub row62_again : (ρ : Renaming) (o : Switches) (n w : Tree) → Row62 o n w → Row62 o (again ρ n) (again ρ w)
row62_again ρ o n w r = record {
  what = again_nameable ρ r.what;
  number = other_number ρ r.number;
  spelling = r.spelling;
  symbol = ρ.symbol r.symbol;
  let_it_go = simp (shape_by_again ρ r.what) r.let_it_go;
  unmentioned = simp (inside_of_again ρ r.what, any_names_again ρ (resolved r.spelling r.symbol) (inside_of r.what)) r.unmentioned;
  unseen = simp (inside_of_again ρ r.what, any_has_eval_again ρ (inside_of r.what)) r.unseen;
  shape = simp (← (shape_by_again ρ r.what)) at (simp (← (inside_of_again ρ r.what)) at (ap (again ρ) r.shape));
  written = simp (← (shape_by_again ρ r.what)) at (simp (← (inside_of_again ρ r.what)) at (ap (again ρ) r.written));
}

pub name_row_again : (ρ : Renaming) (o : Switches) (p : Position) (n w : Tree) → NameRow o p n w → NameRow o p (again ρ n) (again ρ w)
name_row_again ρ o (Expr s) n w r = row62_again ρ o n w r
name_row_again ρ o p1 n w r = absurd r

pub name_contracts_again : (ρ : Renaming) (o : Switches) (p : Position) (n w : Tree) → NameContracts o p n w → NameContracts o p (again ρ n) (again ρ w)
name_contracts_again ρ o p n w r = record {
  row = name_row_again ρ o p n w r.row;
  lighter = simp (weight_again ρ p w, weight_again ρ p n) r.lighter;
}
