use Rattle.mini_again.proofs.Everywhere as law
use Rattle.mini_again.proofs.nothing_is_left.Goals as goal

pub returns : goal.returns
returns c = law.nothing_is_left
