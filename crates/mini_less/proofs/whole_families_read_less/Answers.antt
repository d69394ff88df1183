use Rattle.mini_less.proofs.Whole as law
use Rattle.mini_less.proofs.whole_families_read_less.Goals as goal

pub returns : goal.returns
returns c = law.whole_families_read_less
