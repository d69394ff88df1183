use Rattle.mini_rows.proofs.SequenceMeaning.{sequences_same}
use Rattle.mini_rows.proofs.sequences.sequences_mean_the_same.Goals as goal

pub returns : goal.returns
returns c = sequences_same
