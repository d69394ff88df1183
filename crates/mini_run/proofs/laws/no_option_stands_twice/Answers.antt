use Rattle.mini_run.proofs.AnyOrder.{twice_is_bad}
use Rattle.mini_run.proofs.laws.no_option_stands_twice.Goals as goal

pub returns : goal.returns
returns c = twice_is_bad
