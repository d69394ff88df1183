use Rattle.mini_model.proofs.Raw.{escaped_cooks}
use Rattle.mini_model.proofs.literal_laws.escaped_cooks_to_itself.Goals as goal

pub returns : goal.returns
returns c = escaped_cooks
