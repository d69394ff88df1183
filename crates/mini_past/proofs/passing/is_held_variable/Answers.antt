use Rattle.mini_past.proofs.StillTold.{nowhere_told}
use Rattle.mini_past.proofs.passing.is_held_variable.Goals as goal

pub is_bound_in-requires : goal.is_bound_in-requires
is_bound_in-requires g c = nowhere_told c.args.lets.now c.args.statements.now c.args.declarators.now c.args.at c.args.which c.requires.told
