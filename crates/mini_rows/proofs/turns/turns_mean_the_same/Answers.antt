use Rattle.mini_rows.proofs.TurnMeaning.{turns_same}
use Rattle.mini_rows.proofs.turns.turns_mean_the_same.Goals as goal

pub returns : goal.returns
returns c = turns_same
