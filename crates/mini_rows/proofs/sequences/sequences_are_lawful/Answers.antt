use Rattle.mini_rows.proofs.SequenceLawful.{sequences_lawful}
use Rattle.mini_rows.proofs.sequences.sequences_are_lawful.Goals as goal

pub returns : goal.returns
returns c = sequences_lawful
