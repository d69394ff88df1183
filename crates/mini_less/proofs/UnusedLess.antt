-- Rows of a name that nothing mentions, and of one that is read once, read less; so do all rows.
use Rattle.std.specs.Prelude.{◌⊎◌}
use Rattle.std.proofs.Common.{inl, inr}
use Rattle.mini_model.specs.declared.place.Position.{Position}
use Rattle.mini_model.specs.declared.place.Position.TheVariants.{Expr, Stmt, Method, Elsewhere}
use Rattle.mini_model.specs.Tree.{Tree}
use Rattle.mini_laws.specs.Value.{VariableSet}
use Rattle.mini_rows.specs.Catches.{CatchContracts}
use Rattle.mini_rows.specs.Editions.{CatchesIn, WritesIn}
use Rattle.mini_rows.specs.Lets.{LetContracts}
use Rattle.mini_rows.specs.Names.{NameContracts}
use Rattle.mini_rows.specs.Redex.{Contracts}
use Rattle.mini_rows.specs.Switches.{Liberties, Switches, liberties}
use Rattle.mini_rows.specs.Unused.{UnusedRow, UnusedContracts}
use Rattle.mini_rows.specs.Writes.{WriteContracts}
use Rattle.mini_less.specs.Families.{LessAt}
use Rattle.mini_less.specs.Rows.{RewritesReadLess}
use Rattle.mini_less.specs.Unused.{UnusedReadLess}
use Rattle.mini_less.proofs.FadedLess.{lets_read_less}
use Rattle.mini_less.proofs.ForHeadLess.{for_row_less}
use Rattle.mini_less.proofs.Joined.{reads_less_joins, reads_less_narrows}
use Rattle.mini_less.proofs.LessRows.{reads_less_by}
use Rattle.mini_less.proofs.NamesLess.{names_read_less, catches_read_less}
use Rattle.mini_less.proofs.NextHeads.{for_next_less}
use Rattle.mini_less.proofs.RowsUnused.{arrow_row_less, block_row_less, function_row_less, module_row_less, static_row_less, switch_row_less}
use Rattle.mini_less.proofs.Whole.{rows_read_less}
use Rattle.mini_less.proofs.WritesLess.{writes_read_less}

row_less : (W : Liberties) (p : Position) (n w : Tree) → UnusedRow W p n w → LessAt p n w
row_less W (Stmt q) n w (inl r) = block_row_less W.switches (Stmt q) n w r
row_less W (Stmt q) n w (inr (inl r)) = function_row_less W (Stmt q) n w r
row_less W (Stmt q) n w (inr (inr (inl r))) = switch_row_less W.switches (Stmt q) n w r
row_less W (Stmt q) n w (inr (inr (inr (inl r)))) = for_row_less q n w r
row_less W (Stmt q) n w (inr (inr (inr (inr r)))) = for_next_less W.switches q n w r
row_less W (Expr s) n w (inl r) = arrow_row_less W (Expr s) n w r
row_less W (Expr s) n w (inr r) = function_row_less W (Expr s) n w r
row_less W Method n w r = function_row_less W Method n w r
row_less W Elsewhere n w (inl r) = function_row_less W Elsewhere n w r
row_less W Elsewhere n w (inr (inl r)) = module_row_less W Elsewhere n w r
row_less W Elsewhere n w (inr (inr (inl r))) = static_row_less W Elsewhere n w r
row_less W Elsewhere n w (inr (inr (inr r))) = block_row_less W.switches Elsewhere n w r
row_less W p n w r = absurd r

pub unused_read_less : UnusedReadLess
unused_read_less W = reads_less_by (UnusedContracts W) (λ p n w c. row_less W p n w c.row)

-- ---- all rows

module _ (o : Switches) (W : VariableSet) where
  abbrev Last : Position → Tree → Tree → Type 0
  Last p n w = WritesIn o.edition W p n w ⊎ LetContracts W p n w

  abbrev Caught : Position → Tree → Tree → Type 0
  Caught p n w = CatchesIn o.edition p n w ⊎ Last p n w

  abbrev Named : Position → Tree → Tree → Type 0
  Named p n w = NameContracts o p n w ⊎ Caught p n w

  abbrev Lost : Position → Tree → Tree → Type 0
  Lost p n w = UnusedContracts (liberties o W) p n w ⊎ Named p n w

pub rewrites_read_less : RewritesReadLess
rewrites_read_less o W =
    reads_less_joins (Contracts o) (Lost o W) (rows_read_less o)
    (reads_less_joins (UnusedContracts (liberties o W)) (Named o W) (unused_read_less (liberties o W))
    (reads_less_joins (NameContracts o) (Caught o W) (names_read_less o)
    (reads_less_joins (CatchesIn o.edition) (Last o W) (reads_less_narrows (CatchesIn o.edition) CatchContracts (λ p n w c. c.0) catches_read_less)
    (reads_less_joins (WritesIn o.edition W) (LetContracts W) (reads_less_narrows (WritesIn o.edition W) (WriteContracts W) (λ p n w c. c.0) (writes_read_less W)) (lets_read_less W)))))
