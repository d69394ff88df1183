use Rattle.mini_rows.proofs.ArrangedBetween.{in_list_kept}
use Rattle.mini_rows.proofs.ArrangedRows.{row_82_else_kept, row_82_and_kept}
use Rattle.mini_rows.proofs.ArrangedStatements as law
use Rattle.mini_rows.proofs.ArrangedTwice.{lists_arranged_once}
use Rattle.mini_rows.proofs.arrangements.statements_arranged.Goals as goal

pub returns-clause-any : goal.returns-clause-any
returns-clause-any c = law.statements_arranged

pub returns-clause-lists : goal.returns-clause-lists
returns-clause-lists c = law.lists_arranged

pub returns-clause-neighbours : goal.returns-clause-neighbours
returns-clause-neighbours c = in_list_kept

pub returns-clause-row_82_else : goal.returns-clause-row_82_else
returns-clause-row_82_else c = row_82_else_kept

pub returns-clause-row_82_and : goal.returns-clause-row_82_and
returns-clause-row_82_and c = row_82_and_kept

pub returns-clause-once : goal.returns-clause-once
returns-clause-once c = lists_arranged_once
