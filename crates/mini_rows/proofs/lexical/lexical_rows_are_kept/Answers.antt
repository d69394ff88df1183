use Rattle.mini_rows.proofs.LexicalKept.{lexical_own}
use Rattle.mini_rows.proofs.lexical.lexical_rows_are_kept.Goals as goal

pub returns : goal.returns
returns c = lexical_own
