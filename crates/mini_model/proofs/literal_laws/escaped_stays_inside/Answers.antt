use Rattle.mini_model.proofs.Inside.{escaped_inside}
use Rattle.mini_model.proofs.literal_laws.escaped_stays_inside.Goals as goal

pub returns : goal.returns
returns c = escaped_inside
