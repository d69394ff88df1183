use Rattle.mini_logic.proofs.MinimizeNegation as lemma
use Rattle.mini_logic.proofs.laws.negations_are_rows.Goals as goal

pub returns-clause-written : goal.returns-clause-written
returns-clause-written c = lemma.written_is_row

pub returns-clause-unwritten : goal.returns-clause-unwritten
returns-clause-unwritten c = lemma.unwritten_rests
