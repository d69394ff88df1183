use Rattle.mini_rows.proofs.ArrowRuns.{arrows_same}
use Rattle.mini_rows.proofs.arrows.arrows_mean_the_same.Goals as goal

pub returns : goal.returns
returns c = arrows_same
