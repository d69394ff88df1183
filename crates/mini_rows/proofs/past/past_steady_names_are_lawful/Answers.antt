use Rattle.mini_rows.proofs.PastLawful.{past_is_lawful}
use Rattle.mini_rows.proofs.past.past_steady_names_are_lawful.Goals as goal

pub returns : goal.returns
returns c = past_is_lawful
