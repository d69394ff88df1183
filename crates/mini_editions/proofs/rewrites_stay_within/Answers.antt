use Rattle.mini_editions.proofs.Rows as law
use Rattle.mini_editions.proofs.rewrites_stay_within.Goals as goal

pub returns : goal.returns
returns c = law.rewrites_stay_within
