use Rattle.mini_kept.proofs.Whole.{reaches_keep}
use Rattle.mini_kept.proofs.rewriting_keeps_names.Goals as goal

pub returns : goal.returns
returns c = reaches_keep
