use Rattle.mini_rows.proofs.ChoiceMeaning.{choices_same}
use Rattle.mini_rows.proofs.choices.choices_mean_the_same.Goals as goal

pub returns : goal.returns
returns c = choices_same
