use Rattle.mini_terms.proofs.Truths.{truth_sound, truth_of_value}
use Rattle.mini_terms.proofs.laws.truth_is_sound.Goals as goal

pub returns-clause-test : goal.returns-clause-test
returns-clause-test c = truth_sound

pub returns-clause-value : goal.returns-clause-value
returns-clause-value c = truth_of_value
