use Rattle.mini_rows.proofs.ListEnds as law
use Rattle.mini_rows.proofs.lists.terminated_never_ends.Goals as goal

pub returns : goal.returns
returns c = law.terminated_never_ends
