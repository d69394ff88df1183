use Rattle.mini_rows.proofs.PastArrowLawful.{past_arrows_are_lighter}
use Rattle.mini_rows.proofs.past.past_steady_names_lighten_arrows.Goals as goal

pub returns : goal.returns
returns c = past_arrows_are_lighter
