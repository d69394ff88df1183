use Rattle.mini_peephole.proofs.Finished.{delivered_script}
use Rattle.mini_peephole.proofs.running.deliver_script.Goals as goal

pub returns : goal.returns
returns g c = delivered_script _ _ _ _ _ _ c.settle_script-outcome.ensures c.finish.ensures
