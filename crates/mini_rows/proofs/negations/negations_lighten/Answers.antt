use Rattle.mini_rows.proofs.NegationLawful as lemma
use Rattle.mini_rows.proofs.negations.negations_lighten.Goals as goal

pub returns : goal.returns
returns c = lemma.negations_lighten
