use Rattle.mini_stmt.proofs.Bodies.{no_row}
use Rattle.mini_stmt.proofs.statements.no_row_reads_a_quiet_list.Goals as goal

pub returns : goal.returns
returns c = no_row
