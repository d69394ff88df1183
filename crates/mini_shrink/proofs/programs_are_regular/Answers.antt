use Rattle.mini_shrink.proofs.Regulars as law
use Rattle.mini_shrink.proofs.programs_are_regular.Goals as goal

pub returns : goal.returns
returns g = law.programs_are_regular
