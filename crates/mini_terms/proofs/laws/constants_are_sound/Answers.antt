use Rattle.mini_terms.proofs.ConstantTable.{constant_is_const, constant_truth_is}
use Rattle.mini_terms.proofs.laws.constants_are_sound.Goals as goal

pub returns-clause-value : goal.returns-clause-value
returns-clause-value c = constant_is_const

pub returns-clause-truth : goal.returns-clause-truth
returns-clause-truth c = constant_truth_is
