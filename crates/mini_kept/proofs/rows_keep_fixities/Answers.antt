use Rattle.mini_kept.proofs.Fixed as law
use Rattle.mini_kept.proofs.rows_keep_fixities.Goals as goal

pub returns-clause-rows : goal.returns-clause-rows
returns-clause-rows c = law.rows_keep_fixities

pub returns-clause-program : goal.returns-clause-program
returns-clause-program c = law.program_keeps_fixities
