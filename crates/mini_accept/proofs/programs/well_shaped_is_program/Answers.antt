use Rattle.mini_accept.proofs.Root.{root}
use Rattle.mini_accept.proofs.programs.well_shaped_is_program.Goals as goal

pub returns : goal.returns
returns c = root
