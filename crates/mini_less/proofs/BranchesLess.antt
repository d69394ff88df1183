-- All rows of branches read less.
use Rattle.std.proofs.Common.{inl, inr}
use Rattle.mini_model.specs.declared.place.Position.{Position}
use Rattle.mini_model.specs.declared.place.Position.TheVariants.{Stmt}
use Rattle.mini_model.specs.declared.seat.StmtSeat.{StmtSeat}
use Rattle.mini_model.specs.Tree.{Tree}
use Rattle.mini_rows.specs.Branches.{BodyRow, StatementRow, BranchRow, BranchContracts}
use Rattle.mini_less.specs.Families.{LessAt}
use Rattle.mini_less.specs.SwitchRows.{SwitchRowsLess, BranchesReadLess}
use Rattle.mini_less.proofs.BodiesLess.{body_rows_less}
use Rattle.mini_less.proofs.BodyEndsLess.{body_ends_less}
use Rattle.mini_less.proofs.DeadCasesLess.{row_81}
use Rattle.mini_less.proofs.IfsLess.{if_rows_less}
use Rattle.mini_less.proofs.LessRows.{reads_less_by}
use Rattle.mini_less.proofs.OneCaseLess.{row_80}

pub switch_rows_less : SwitchRowsLess
switch_rows_less = record { row_80 = row_80; row_81 = row_81 }

statement_less : (q : StmtSeat) (n w : Tree) → StatementRow n w → LessAt (Stmt q) n w
statement_less q n w (inl r) = if_rows_less.returns q n w r
statement_less q n w (inr (inl r)) = row_80 q n w r
statement_less q n w (inr (inr r)) = row_81 q n w r

body_less : (q : StmtSeat) (n w : Tree) → BodyRow n w → LessAt (Stmt q) n w
body_less q n w (inl r) = body_rows_less.row_79 q n w r
body_less q n w (inr (inl (inl r))) = body_ends_less.row_78_block q n w r
body_less q n w (inr (inl (inr r))) = body_rows_less.row_78_whole q n w r
body_less q n w (inr (inr (inl (inl r)))) = body_ends_less.row_78_once q n w r
body_less q n w (inr (inr (inl (inr r)))) = body_rows_less.row_78_never q n w r
body_less q n w (inr (inr (inr r))) = body_rows_less.row_84 q n w r

row_less : (p : Position) (n w : Tree) → BranchRow p n w → LessAt p n w
row_less (Stmt q) n w (inl r) = statement_less q n w r
row_less (Stmt q) n w (inr (inl r)) = body_less q n w r
row_less (Stmt q) n w (inr (inr r)) = if_rows_less.ifs q n w r
row_less p n w r = absurd r

pub branches_read_less : BranchesReadLess
branches_read_less = reads_less_by BranchContracts (λ p n w c. row_less p n w c.row)
