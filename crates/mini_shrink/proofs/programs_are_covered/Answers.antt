use Rattle.mini_shrink.proofs.Covering as law
use Rattle.mini_shrink.proofs.programs_are_covered.Goals as goal

pub returns : goal.returns
returns g = law.programs_are_covered
