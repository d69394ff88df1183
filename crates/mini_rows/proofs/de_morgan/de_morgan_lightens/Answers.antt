use Rattle.mini_rows.proofs.DeMorganLawful.{de_morgan_lighten}
use Rattle.mini_rows.proofs.de_morgan.de_morgan_lightens.Goals as goal

pub returns : goal.returns
returns c = de_morgan_lighten
