use Rattle.mini_model.proofs.Inside.{joined_inside}
use Rattle.mini_model.proofs.literal_laws.joined_stays_inside.Goals as goal

pub returns : goal.returns
returns c = joined_inside
