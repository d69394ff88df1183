use Rattle.mini_less.proofs.OwnLess as law
use Rattle.mini_less.proofs.LexicalLess as lexical
use Rattle.mini_less.proofs.PastBlocksLess as past
use Rattle.mini_less.proofs.own_rows_read_less.Goals as goal

pub returns-clause-steady : goal.returns-clause-steady
returns-clause-steady c = law.steady_reads_less

pub returns-clause-lexical : goal.returns-clause-lexical
returns-clause-lexical c = lexical.lexical_reads_less

pub returns-clause-past : goal.returns-clause-past
returns-clause-past c = past.past_blocks_read_less
