use Rattle.mini_rows.proofs.LexicalKept.{lexical_more}
use Rattle.mini_rows.proofs.SteadyKept.{steady_rows_more}
use Rattle.mini_rows.proofs.steady.rows_read_more.Goals as goal

pub returns-clause-members : goal.returns-clause-members
returns-clause-members c = steady_rows_more

pub returns-clause-lexical : goal.returns-clause-lexical
returns-clause-lexical c = lexical_more
