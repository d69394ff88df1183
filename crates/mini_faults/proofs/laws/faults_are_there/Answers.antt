use Rattle.mini_faults.proofs.There.{first_is_there, none_is_faultless}
use Rattle.mini_faults.proofs.laws.faults_are_there.Goals as goal

pub returns-clause-there : goal.returns-clause-there
returns-clause-there c = first_is_there

pub returns-clause-none : goal.returns-clause-none
returns-clause-none c = none_is_faultless
