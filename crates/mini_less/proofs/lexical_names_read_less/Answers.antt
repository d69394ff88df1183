use Rattle.mini_less.proofs.LexicalLess as law
use Rattle.mini_less.proofs.lexical_names_read_less.Goals as goal

pub returns-clause-rows : goal.returns-clause-rows
returns-clause-rows c = law.lexical_rows_less

pub returns-clause-family : goal.returns-clause-family
returns-clause-family c = law.lexical_names_read_less
