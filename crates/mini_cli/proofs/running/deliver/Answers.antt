use Rattle.mini_cli.proofs.Delivered.{delivered}
use Rattle.mini_cli.proofs.running.deliver.Goals as goal

pub returns : goal.returns
returns g c = delivered _ _ _ _ _ _ c.settle-outcome.ensures c.finish.ensures
