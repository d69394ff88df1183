use Rattle.mini_rows.proofs.ArrangedRewritten as law
use Rattle.mini_rows.proofs.ArrangedRows.{row_82_or_kept}
use Rattle.mini_rows.proofs.arrangements.statements_rewritten.Goals as goal

pub returns-clause-any : goal.returns-clause-any
returns-clause-any c = law.statements_rewritten

pub returns-clause-row_82_or : goal.returns-clause-row_82_or
returns-clause-row_82_or c = row_82_or_kept
