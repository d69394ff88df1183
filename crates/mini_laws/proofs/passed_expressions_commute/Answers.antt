use Rattle.mini_laws.proofs.Moving as lemma
use Rattle.mini_laws.proofs.passed_expressions_commute.Goals as goal

pub returns-clause-commutes : goal.returns-clause-commutes
returns-clause-commutes c = lemma.commutes

pub returns-clause-number : goal.returns-clause-number
returns-clause-number c = lemma.number_passes

pub returns-clause-steady : goal.returns-clause-steady
returns-clause-steady c = lemma.steady_passes
