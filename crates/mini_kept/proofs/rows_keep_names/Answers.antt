use Rattle.mini_kept.proofs.Instances.{contracts_keep}
use Rattle.mini_kept.proofs.rows_keep_names.Goals as goal

pub returns : goal.returns
returns c = contracts_keep
