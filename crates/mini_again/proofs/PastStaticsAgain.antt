-- 71 past such names in static blocks reads a node that is read again.
use Rattle.mini_again.proofs.PastAgain.{past_row_again}
use Rattle.mini_again.specs.Again.{Renaming, again, all_again, liberties_with_others_in, other_number, sets_with_others}
use Rattle.mini_kept.specs.Without.{BodySets}
use Rattle.mini_model.specs.Tree.{Tree, listed, none}
use Rattle.mini_model.specs.declared.place.Position.{Position}
use Rattle.mini_model.specs.declared.place.Position.TheVariants.{Elsewhere}
use Rattle.mini_rows.specs.PastStatics.{PastStatic, PastStaticRow}
use Rattle.mini_rows.specs.Switches.{Liberties}
use Rattle.std.proofs.Common.{ap}

pub past_static_row_again : (ρ : Renaming) (S : BodySets) (W : Liberties) (n w : Tree) → PastStaticRow (sets_with_others ρ S) (liberties_with_others_in ρ W) n w → PastStaticRow S W (again ρ n) (again ρ w)
past_static_row_again ρ S W n w r = record {
  number = other_number ρ r.number;
  before = all_again ρ r.before;
  after = all_again ρ r.after;
  row = past_row_again ρ (S (other_number ρ r.number)) W (listed none) r.before r.after r.row;
  shape = ap (again ρ) r.shape;
  written = ap (again ρ) r.written;
}

pub past_static_again : (ρ : Renaming) (S : BodySets) (W : Liberties) (p : Position) (n w : Tree) → PastStatic (sets_with_others ρ S) (liberties_with_others_in ρ W) p n w → PastStatic S W p (again ρ n) (again ρ w)
past_static_again ρ S W Elsewhere n w r = past_static_row_again ρ S W n w r
past_static_again ρ S W p2 n w r = absurd r
