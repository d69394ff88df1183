use Rattle.mini_accept.proofs.Places.{program_located}
use Rattle.mini_accept.proofs.laws.faults_are_there.Goals as goal

pub returns : goal.returns
returns c = program_located
