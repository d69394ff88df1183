-- 71 past such names in modules reads a node that is read again.
use Rattle.mini_again.proofs.PastAgain.{past_row_again}
use Rattle.mini_again.specs.Again.{Renaming, again, all_again, liberties_with_others_in, sets_with_others}
use Rattle.mini_kept.specs.Without.{BodySets}
use Rattle.mini_model.specs.Tree.{Tree, listed, none}
use Rattle.mini_model.specs.declared.place.Position.{Position}
use Rattle.mini_model.specs.declared.place.Position.TheVariants.{Elsewhere}
use Rattle.mini_rows.specs.PastModules.{PastModule, PastModuleRow}
use Rattle.mini_rows.specs.Switches.{Liberties}
use Rattle.std.proofs.Common.{ap}

pub past_module_row_again : (ρ : Renaming) (S : BodySets) (W : Liberties) (n w : Tree) → PastModuleRow (sets_with_others ρ S) (liberties_with_others_in ρ W) n w → PastModuleRow S W (again ρ n) (again ρ w)
past_module_row_again ρ S W n w r = record {
  directives = r.directives;
  before = all_again ρ r.before;
  after = all_again ρ r.after;
  row = past_row_again ρ (S 0) W (listed none) r.before r.after r.row;
  shape = ap (again ρ) r.shape;
  written = ap (again ρ) r.written;
}

pub past_module_again : (ρ : Renaming) (S : BodySets) (W : Liberties) (p : Position) (n w : Tree) → PastModule (sets_with_others ρ S) (liberties_with_others_in ρ W) p n w → PastModule S W p (again ρ n) (again ρ w)
past_module_again ρ S W Elsewhere n w r = past_module_row_again ρ S W n w r
past_module_again ρ S W p2 n w r = absurd r
