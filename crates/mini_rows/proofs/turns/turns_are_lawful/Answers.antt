use Rattle.mini_rows.proofs.TurnLawful.{turns_lawful}
use Rattle.mini_rows.proofs.turns.turns_are_lawful.Goals as goal

pub returns : goal.returns
returns c = turns_lawful
