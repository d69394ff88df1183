use Rattle.mini_again.proofs.ForeignAgain as law
use Rattle.mini_again.proofs.told_survives.Goals as goal

pub returns : goal.returns
returns c = law.told_survives
