use Rattle.mini_rows.proofs.PastStaticLawful.{past_statics_are_lawful}
use Rattle.mini_rows.proofs.past.past_steady_names_are_lawful_in_static_blocks.Goals as goal

pub returns : goal.returns
returns c = past_statics_are_lawful
