use Rattle.mini_less.proofs.BodyEndsLess as law
use Rattle.mini_less.proofs.body_ends_less.Goals as goal

pub returns : goal.returns
returns c = law.body_ends_less
