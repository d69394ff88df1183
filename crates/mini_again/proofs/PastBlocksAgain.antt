-- 71 past such names in blocks reads a node that is read again.
use Rattle.mini_again.proofs.ModelPathsAgain.{append_again}
use Rattle.mini_again.proofs.PastAgain.{past_row_again}
use Rattle.mini_again.specs.Again.{Renaming, again, all_again, assured_with_others}
use Rattle.mini_kept.specs.Without.{Assured}
use Rattle.mini_model.specs.Tree.{Tree, absent, listed, node, none, ◌▸◌}
use Rattle.mini_rows.specs.Cases.{switch_case}
use Rattle.mini_rows.specs.Lists.{for_loop}
use Rattle.mini_rows.specs.PastBlocks.{PastBlockRow, PastCaseRow, PastHeadRow, PastStatementRow}
use Rattle.mini_rows.specs.Switches.{Switches, without_vars}
use Rattle.mini_rows.specs.Unused.{switch_around}
use Rattle.std.proofs.Common.{ap, inl, inr}
use Rattle.std.specs.Prelude.{[]}
use Rattle.mini_model.specs.declared.shape.Shape.TheVariants as shape

pub past_block_row_again : (ρ : Renaming) (o : Switches) (V : Assured) (n w : Tree) → PastBlockRow o (assured_with_others ρ V) n w → PastBlockRow o V (again ρ n) (again ρ w)
past_block_row_again ρ o V n w r = record {
  before = all_again ρ r.before;
  after = all_again ρ r.after;
  row = past_row_again ρ V (without_vars o) (listed none) r.before r.after r.row;
  shape = ap (again ρ) r.shape;
  written = ap (again ρ) r.written;
}

pub past_case_row_again : (ρ : Renaming) (o : Switches) (V : Assured) (n w : Tree) → PastCaseRow o (assured_with_others ρ V) n w → PastCaseRow o V (again ρ n) (again ρ w)
past_case_row_again ρ o V n w r = record {
  discriminant = again ρ r.discriminant;
  first = all_again ρ r.first;
  test = again ρ r.test;
  before = all_again ρ r.before;
  last = all_again ρ r.last;
  after = all_again ρ r.after;
  row = simp (← (append_again ρ r.first (node shape.SwitchCase [] 0 (r.test ▸ (absent ▸ none)) ▸ r.last))) at (past_row_again ρ V (without_vars o) (switch_around r.discriminant r.first r.test r.last) r.before r.after r.row);
  shape = simp (← (append_again ρ r.first (switch_case r.test r.before ▸ r.last))) at (ap (again ρ) r.shape);
  written = simp (← (append_again ρ r.first (switch_case r.test r.after ▸ r.last))) at (ap (again ρ) r.written);
}

pub past_head_row_again : (ρ : Renaming) (o : Switches) (V : Assured) (n w : Tree) → PastHeadRow o (assured_with_others ρ V) n w → PastHeadRow o V (again ρ n) (again ρ w)
past_head_row_again ρ o V n w r = record {
  before = again ρ r.before;
  after = again ρ r.after;
  test = again ρ r.test;
  update = again ρ r.update;
  body = again ρ r.body;
  row = past_row_again ρ V (without_vars o) (for_loop absent r.test r.update r.body) (r.before ▸ none) (r.after ▸ none) r.row;
  shape = ap (again ρ) r.shape;
  written = ap (again ρ) r.written;
}

pub past_statement_row_again : (ρ : Renaming) (o : Switches) (V : Assured) (n w : Tree) → PastStatementRow o (assured_with_others ρ V) n w → PastStatementRow o V (again ρ n) (again ρ w)
past_statement_row_again ρ o V n w (inl r) = inl (past_block_row_again ρ o V n w r)
past_statement_row_again ρ o V n w (inr (inl r)) = inr (inl (past_case_row_again ρ o V n w r))
past_statement_row_again ρ o V n w (inr (inr r)) = inr (inr (past_head_row_again ρ o V n w r))
