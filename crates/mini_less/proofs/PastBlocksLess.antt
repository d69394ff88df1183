-- 71 past names that keep their value reads less in a block, in a case of a `switch`, and in the
-- head of a `for`.
use Rattle.std.specs.Prelude.{ℕ, refl, false, ◌||◌}
use Rattle.std.proofs.Common.{ap, inl, inr}
use Rattle.mini_model.specs.declared.place.Position.{Position}
use Rattle.mini_model.specs.declared.place.Position.TheVariants.{Stmt, Elsewhere}
use Rattle.mini_model.specs.Tree.{Tree, none, listed}
use Rattle.mini_kept.specs.Without.{Assured}
use Rattle.mini_shrink.specs.Facts.{ReadsLess}
use Rattle.mini_rows.specs.PastBlocks.{PastBlockRow, PastBlocks, PastCaseRow}
use Rattle.mini_rows.specs.Switches.{Switches, without_vars}
use Rattle.mini_rows.specs.Unused.{switch_around}
use Rattle.mini_rows.proofs.PastInsideKept.{of_behind}
use Rattle.mini_kept.specs.KeepsShapes.{KeepsShapes}
use Rattle.mini_kept.specs.Lifted.{KeepsNames}
use Rattle.mini_rows.proofs.PastBlockKept.{lost_in_block}
use Rattle.mini_rows.proofs.PastCaseKept.{lost_in_case}
use Rattle.mini_rows.proofs.PastHeadKept.{lost_in_head}
use Rattle.mini_rows.proofs.PastLost.{Loses, loses_names, loses_shapes, names_there}
use Rattle.mini_less.proofs.OwnLess.{own_less}
use Rattle.mini_rows.proofs.PastStretches.{behind}
use Rattle.mini_less.specs.Families.{LessAt}
use Rattle.mini_less.specs.Own.{PastBlocksReadLess}
use Rattle.mini_less.proofs.LessRows.{reads_less_by}
use Rattle.mini_less.proofs.LosingLists.{block_less}
use Rattle.mini_less.proofs.NextHeads.{past_head_less}
use Rattle.mini_less.proofs.PastLess.{unseen_parts}
use Rattle.mini_less.proofs.RowsOnce.{past_list, past_unseen}
use Rattle.mini_less.proofs.RowsUnused.{switch_unseen}
use Rattle.mini_less.proofs.SwitchHolds.{switch_drops}

module _ (o : Switches) (V : Assured) where
  in_block : (p : Position) (n w : Tree) → PastBlockRow o V n w → LessAt p n w
  in_block p n w r =
      let out = listed none in
      let W = without_vars o in
      let t = of_behind V W.writable out r.before r.after (behind V W out r.before r.after r.row) in
      block_less r.before r.after t (past_list V W out r.before r.after r.row) (names_there V out r.before r.after r.row) p n w r.shape r.written (unseen_parts out r.before (past_unseen V W out r.before r.after r.row)).inside

  in_case : (p : Position) (n w : Tree) → PastCaseRow o V n w → LessAt p n w
  in_case p n w r =
      let out = switch_around r.discriminant r.first r.test r.last in
      let W = without_vars o in
      let there = behind V W out r.before r.after r.row in
      let seen = unseen_parts out r.before (past_unseen V W out r.before r.after r.row) in
      switch_drops r.before r.after (of_behind V W.writable out r.before r.after there) (past_list V W out r.before r.after r.row) r.discriminant r.first r.test r.last (ap (λ b. b || false) there.outer)
      (switch_unseen o r.discriminant r.first r.test r.last r.before seen.outside seen.inside) (names_there V out r.before r.after r.row) p n w r.shape r.written

  pub blocks_less : (p : Position) (n w : Tree) → PastBlocks o V p n w → LessAt p n w
  blocks_less (Stmt q) n w (inl r) = in_block (Stmt q) n w r
  blocks_less (Stmt q) n w (inr (inl r)) = in_case (Stmt q) n w r
  blocks_less (Stmt q) n w (inr (inr r)) = past_head_less o V q n w r
  blocks_less Elsewhere n w r = in_block Elsewhere n w r
  blocks_less p n w r = absurd r

  -- ---- names and shapes stay

  lost : (p : Position) (n w : Tree) → PastBlocks o V p n w → (k : ℕ) × Loses k p n w
  lost (Stmt q) n w (inl r) = let (k, l) = lost_in_block V (Stmt q) refl n w r in (k, (V, l))
  lost (Stmt q) n w (inr (inl r)) = let (k, l) = lost_in_case V q n w r in (k, (V, l))
  lost (Stmt q) n w (inr (inr r)) = let (k, l) = lost_in_head V q n w r in (k, (V, l))
  lost Elsewhere n w r = let (k, l) = lost_in_block V Elsewhere refl n w r in (k, (V, l))
  lost p n w r = absurd r

  blocks_names : KeepsNames (PastBlocks o V)
  blocks_names = record {
    places = λ p n w r. let (k, l) = lost p n w r in (loses_names k).places p n w l;
    pieces = λ p n w r. let (k, l) = lost p n w r in (loses_names k).pieces p n w l;
    keeps = λ p n w r. let (k, l) = lost p n w r in (loses_names k).keeps p n w l;
  }

  pub blocks_shapes : KeepsShapes (PastBlocks o V)
  blocks_shapes = record {
    fitting = λ p n w r. let (k, l) = lost p n w r in (loses_shapes k).fitting p n w l;
    asked = λ p n w r. let (k, l) = lost p n w r in (loses_shapes k).asked p n w l;
  }

pub block_rows_read_less : (o : Switches) (V : Assured) → ReadsLess (PastBlocks o V)
block_rows_read_less o V = reads_less_by (PastBlocks o V) (blocks_less o V)

-- in the own code of each body
pub past_blocks_read_less : PastBlocksReadLess
past_blocks_read_less o = own_less (PastBlocks o) (blocks_names o) (blocks_shapes o) (block_rows_read_less o)
