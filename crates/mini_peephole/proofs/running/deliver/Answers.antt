use Rattle.mini_peephole.proofs.Finished.{delivered}
use Rattle.mini_peephole.proofs.running.deliver.Goals as goal

pub returns : goal.returns
returns g c = delivered _ _ _ _ _ _ _ c.settle-outcome.ensures c.finish.ensures
