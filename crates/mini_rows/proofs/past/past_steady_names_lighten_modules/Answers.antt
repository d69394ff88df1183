use Rattle.mini_rows.proofs.PastModuleLawful.{past_modules_are_lighter}
use Rattle.mini_rows.proofs.past.past_steady_names_lighten_modules.Goals as goal

pub returns : goal.returns
returns c = past_modules_are_lighter
