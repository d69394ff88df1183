use Rattle.mini_model.proofs.Joins.{joined_cooks}
use Rattle.mini_model.proofs.literal_laws.joined_cooks_to_joined.Goals as goal

pub returns : goal.returns
returns c = joined_cooks
