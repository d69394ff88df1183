use Rattle.mini_kept.proofs.Carrying.{numbers_carried}
use Rattle.mini_kept.proofs.numbers_carried.Goals as goal

pub returns : goal.returns
returns c = numbers_carried
