use Rattle.mini_kept.proofs.Lawful as law
use Rattle.mini_kept.proofs.rows_are_lawful.Goals as goal

pub returns : goal.returns
returns c = law.rows_are_lawful
