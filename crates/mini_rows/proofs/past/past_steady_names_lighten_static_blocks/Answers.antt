use Rattle.mini_rows.proofs.PastStaticLawful.{past_statics_are_lighter}
use Rattle.mini_rows.proofs.past.past_steady_names_lighten_static_blocks.Goals as goal

pub returns : goal.returns
returns c = past_statics_are_lighter
