-- Rows of guards in the bodies of loops read a node that is read again.
use Rattle.mini_again.proofs.BranchesAgain.{again_surrounding, around_again, is_loop_again}
use Rattle.mini_again.proofs.ListsAgain.{row75_again, row75_block_again}
use Rattle.mini_again.proofs.ModelPathsAgain.{append_again}
use Rattle.mini_again.specs.Again.{Renaming, again, all_again}
use Rattle.mini_model.specs.Paths.{append}
use Rattle.mini_model.specs.Tree.{Tree, Trees, none, ◌▸◌}
use Rattle.mini_model.specs.declared.place.Position.{Position}
use Rattle.mini_model.specs.declared.place.Position.TheVariants.{Stmt}
use Rattle.mini_rows.specs.Branches.{bare_continue}
use Rattle.mini_rows.specs.Lists.{block}
use Rattle.mini_rows.specs.LoopGuards.{LoopGuardRow, Row75Loop, Row75Whole, TurnsGuard, TurnsRow}
use Rattle.mini_rows.specs.Switches.{Switches}
use Rattle.std.proofs.Common.{ap, inl, inr}

pub turns_guard_again : (ρ : Renaming) (a b : Trees) → TurnsGuard a b → TurnsGuard (all_again ρ a) (all_again ρ b)
turns_guard_again ρ a b (inl r) = inl (row75_again ρ bare_continue a b r)
turns_guard_again ρ a b (inr r) = inr (row75_block_again ρ bare_continue a b r)

pub row75_loop_again : (ρ : Renaming) (n w : Tree) → Row75Loop n w → Row75Loop (again ρ n) (again ρ w)
row75_loop_again ρ n w r = record {
  place = again_surrounding ρ r.place;
  before = all_again ρ r.before;
  read = all_again ρ r.read;
  put = all_again ρ r.put;
  loop = simp (is_loop_again ρ r.place) r.loop;
  row = turns_guard_again ρ r.read r.put r.row;
  shape = simp (← (append_again ρ r.before r.read), ← (around_again ρ r.place (block (append r.before r.read)))) at (ap (again ρ) r.shape);
  written = simp (← (append_again ρ r.before r.put), ← (around_again ρ r.place (block (append r.before r.put)))) at (ap (again ρ) r.written);
}

pub row75_whole_again : (ρ : Renaming) (n w : Tree) → Row75Whole n w → Row75Whole (again ρ n) (again ρ w)
row75_whole_again ρ n w r = record {
  place = again_surrounding ρ r.place;
  guard = again ρ r.guard;
  made = again ρ r.made;
  loop = simp (is_loop_again ρ r.place) r.loop;
  row = turns_guard_again ρ (r.guard ▸ none) (r.made ▸ none) r.row;
  shape = simp (← (around_again ρ r.place r.guard)) at (ap (again ρ) r.shape);
  written = simp (← (around_again ρ r.place r.made)) at (ap (again ρ) r.written);
}

pub turns_row_again : (ρ : Renaming) (n w : Tree) → TurnsRow n w → TurnsRow (again ρ n) (again ρ w)
turns_row_again ρ n w (inl r) = inl (row75_loop_again ρ n w r)
turns_row_again ρ n w (inr r) = inr (row75_whole_again ρ n w r)

pub loop_guard_row_again : (ρ : Renaming) (o : Switches) (p : Position) (n w : Tree) → LoopGuardRow o p n w → LoopGuardRow o p (again ρ n) (again ρ w)
loop_guard_row_again ρ o (Stmt q) n w r = (r.0, turns_row_again ρ n w r.1)
loop_guard_row_again ρ o p n w r = absurd r
