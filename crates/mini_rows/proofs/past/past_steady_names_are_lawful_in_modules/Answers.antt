use Rattle.mini_rows.proofs.PastModuleLawful.{past_modules_are_lawful}
use Rattle.mini_rows.proofs.past.past_steady_names_are_lawful_in_modules.Goals as goal

pub returns : goal.returns
returns c = past_modules_are_lawful
