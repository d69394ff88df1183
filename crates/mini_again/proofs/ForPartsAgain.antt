-- Rows of the head of a `for` read a node that is read again.
use Rattle.mini_again.proofs.TermEffectsAgain.{ef_again}
use Rattle.mini_again.proofs.TermPartsAgain.{leaves_nothing_again, weighs_again}
use Rattle.mini_again.proofs.TermReadingAgain.{is_plain_part_again}
use Rattle.mini_again.specs.Again.{Renaming, again}
use Rattle.mini_model.specs.Tree.{Tree}
use Rattle.mini_rows.specs.ForParts.{ForPartRow, Row22Init, Row22Update}
use Rattle.std.proofs.Common.{ap, inl, inr}
use Rattle.std.specs.Prelude.{true}

pub row22_init_again : (ρ : Renaming) (n w : Tree) → Row22Init n w → Row22Init (again ρ n) (again ρ w)
row22_init_again ρ n w r = record {
  init = again ρ r.init;
  test = again ρ r.test;
  update = again ρ r.update;
  body = again ρ r.body;
  idle = simp (ef_again ρ true r.init, leaves_nothing_again ρ r.init, weighs_again ρ r.init, is_plain_part_again ρ r.init) r.idle;
  shape = ap (again ρ) r.shape;
  written = ap (again ρ) r.written;
}

pub row22_update_again : (ρ : Renaming) (n w : Tree) → Row22Update n w → Row22Update (again ρ n) (again ρ w)
row22_update_again ρ n w r = record {
  init = again ρ r.init;
  test = again ρ r.test;
  update = again ρ r.update;
  body = again ρ r.body;
  idle = simp (ef_again ρ true r.update, leaves_nothing_again ρ r.update, weighs_again ρ r.update, is_plain_part_again ρ r.update) r.idle;
  shape = ap (again ρ) r.shape;
  written = ap (again ρ) r.written;
}

pub for_part_row_again : (ρ : Renaming) (n w : Tree) → ForPartRow n w → ForPartRow (again ρ n) (again ρ w)
for_part_row_again ρ n w (inl r) = inl (row22_init_again ρ n w r)
for_part_row_again ρ n w (inr r) = inr (row22_update_again ρ n w r)
