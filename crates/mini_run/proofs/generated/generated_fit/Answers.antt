use Rattle.mini_run.proofs.Sizes.{script_fits}
use Rattle.mini_run.proofs.generated.generated_fit.Goals as goal

pub returns : goal.returns
returns c = script_fits
