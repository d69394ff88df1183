use Rattle.mini_rows.proofs.PastLawful.{past_is_lighter}
use Rattle.mini_rows.proofs.past.past_steady_names_lighten.Goals as goal

pub returns : goal.returns
returns c = past_is_lighter
