use Rattle.mini_kept.proofs.ReadAgain.{program_carried}
use Rattle.mini_kept.proofs.program_carried.Goals as goal

pub returns : goal.returns
returns c = program_carried
