-- Rows on `this` that does nothing read a node that is read again.
use Rattle.mini_again.proofs.FoldingAgain.{is_spelled_again}
use Rattle.mini_again.proofs.ModelPathsAgain.{append_again}
use Rattle.mini_again.proofs.ModelTreeAgain.{count_again, shape_of_again}
use Rattle.mini_again.proofs.NodeChildrenAgain.{names_of_again}
use Rattle.mini_again.proofs.TermEffectsAgain.{ef_again}
use Rattle.mini_again.proofs.TermPartsAgain.{is_number_again, leaves_nothing_again, weighs_again}
use Rattle.mini_again.proofs.TermReadingAgain.{is_item_again, is_plain_part_again, is_typed_by_again, stands_again}
use Rattle.mini_again.specs.Again.{Renaming, again, all_again, assured_with_others}
use Rattle.mini_kept.specs.Without.{Assured}
use Rattle.mini_model.specs.Paths.{append}
use Rattle.mini_model.specs.Tree.{Tree, shape_of, ◌▸◌}
use Rattle.mini_model.specs.declared.seat.Seat.{Seat}
use Rattle.mini_node.specs.Children.{names_of}
use Rattle.mini_rows.specs.Idle.{IdleRow, IdleStatement, Row21AloneThis, Row21This, Row22InitThis, Row22This, Row22UpdateThis}
use Rattle.std.proofs.Common.{ap, inl, inr}
use Rattle.std.specs.Prelude.{codes, false}

pub row21_alone_this_again : (ρ : Renaming) (V : Assured) (s : Seat) (n w : Tree) → Row21AloneThis (assured_with_others ρ V) s n w → Row21AloneThis V s (again ρ n) (again ρ w)
row21_alone_this_again ρ V s n w r = record {
  idle = again ρ r.idle;
  last = again ρ r.last;
  kept = r.kept;
  still = simp (ef_again ρ false r.idle, leaves_nothing_again ρ r.idle, weighs_again ρ r.idle) r.still;
  seated = r.seated;
  stays = simp (is_plain_part_again ρ r.last, is_item_again ρ r.last, stands_again ρ r.last, is_number_again ρ r.last, shape_of_again ρ r.last, names_of_again ρ r.last, is_spelled_again ρ (names_of r.last) (codes "eval"), is_typed_by_again ρ (shape_of r.last) (names_of r.last)) r.stays;
  shape = ap (again ρ) r.shape;
  written = ap (again ρ) r.written;
}

pub row21_this_again : (ρ : Renaming) (V : Assured) (n w : Tree) → Row21This (assured_with_others ρ V) n w → Row21This V (again ρ n) (again ρ w)
row21_this_again ρ V n w r = record {
  before = all_again ρ r.before;
  idle = again ρ r.idle;
  next = again ρ r.next;
  after = all_again ρ r.after;
  kept = r.kept;
  still = simp (ef_again ρ false r.idle, leaves_nothing_again ρ r.idle, weighs_again ρ r.idle) r.still;
  several = simp (append_again ρ r.before (r.next ▸ r.after), count_again ρ (append r.before (r.next ▸ r.after))) r.several;
  shape = simp (← (append_again ρ r.before (r.idle ▸ (r.next ▸ r.after)))) at (ap (again ρ) r.shape);
  written = simp (← (append_again ρ r.before (r.next ▸ r.after))) at (ap (again ρ) r.written);
}

pub idle_row_again : (ρ : Renaming) (V : Assured) (s : Seat) (n w : Tree) → IdleRow (assured_with_others ρ V) s n w → IdleRow V s (again ρ n) (again ρ w)
idle_row_again ρ V s n w (inl r) = inl (row21_this_again ρ V n w r)
idle_row_again ρ V s n w (inr r) = inr (row21_alone_this_again ρ V s n w r)

pub row22_init_this_again : (ρ : Renaming) (V : Assured) (n w : Tree) → Row22InitThis (assured_with_others ρ V) n w → Row22InitThis V (again ρ n) (again ρ w)
row22_init_this_again ρ V n w r = record {
  init = again ρ r.init;
  test = again ρ r.test;
  update = again ρ r.update;
  body = again ρ r.body;
  kept = r.kept;
  still = simp (ef_again ρ false r.init, leaves_nothing_again ρ r.init, weighs_again ρ r.init, is_plain_part_again ρ r.init) r.still;
  shape = ap (again ρ) r.shape;
  written = ap (again ρ) r.written;
}

pub row22_this_again : (ρ : Renaming) (V : Assured) (n w : Tree) → Row22This (assured_with_others ρ V) n w → Row22This V (again ρ n) (again ρ w)
row22_this_again ρ V n w r = record {
  expression = again ρ r.expression;
  kept = r.kept;
  still = simp (ef_again ρ false r.expression, leaves_nothing_again ρ r.expression, weighs_again ρ r.expression) r.still;
  shape = ap (again ρ) r.shape;
  written = ap (again ρ) r.written;
}

pub row22_update_this_again : (ρ : Renaming) (V : Assured) (n w : Tree) → Row22UpdateThis (assured_with_others ρ V) n w → Row22UpdateThis V (again ρ n) (again ρ w)
row22_update_this_again ρ V n w r = record {
  init = again ρ r.init;
  test = again ρ r.test;
  update = again ρ r.update;
  body = again ρ r.body;
  kept = r.kept;
  still = simp (ef_again ρ false r.update, leaves_nothing_again ρ r.update, weighs_again ρ r.update, is_plain_part_again ρ r.update) r.still;
  shape = ap (again ρ) r.shape;
  written = ap (again ρ) r.written;
}

pub idle_statement_again : (ρ : Renaming) (V : Assured) (n w : Tree) → IdleStatement (assured_with_others ρ V) n w → IdleStatement V (again ρ n) (again ρ w)
idle_statement_again ρ V n w (inl r) = inl (row22_this_again ρ V n w r)
idle_statement_again ρ V n w (inr (inl r)) = inr (inl (row22_init_this_again ρ V n w r))
idle_statement_again ρ V n w (inr (inr r)) = inr (inr (row22_update_this_again ρ V n w r))
