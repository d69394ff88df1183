use Rattle.mini_rows.proofs.PastInsideLawful.{past_inside_is_lawful}
use Rattle.mini_rows.proofs.past.past_steady_names_are_lawful_inside.Goals as goal

pub returns : goal.returns
returns c = past_inside_is_lawful
