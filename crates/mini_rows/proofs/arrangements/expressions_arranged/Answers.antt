use Rattle.mini_rows.proofs.ArrangedExpressions as law
use Rattle.mini_rows.proofs.ArrangedRows.{row_40_kept}
use Rattle.mini_rows.proofs.arrangements.expressions_arranged.Goals as goal

pub returns-clause-any : goal.returns-clause-any
returns-clause-any c = law.expressions_arranged_freely

pub returns-clause-row_40 : goal.returns-clause-row_40
returns-clause-row_40 c = row_40_kept
