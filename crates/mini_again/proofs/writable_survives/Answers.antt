use Rattle.mini_again.proofs.Writable as law
use Rattle.mini_again.proofs.writable_survives.Goals as goal

pub returns : goal.returns
returns c = law.writable_survives
