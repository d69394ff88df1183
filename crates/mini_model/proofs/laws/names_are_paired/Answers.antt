use Rattle.mini_model.proofs.Units.{is_identifier_name-paired}
use Rattle.mini_model.proofs.laws.names_are_paired.Goals as goal

pub returns : goal.returns
returns c = is_identifier_name-paired
