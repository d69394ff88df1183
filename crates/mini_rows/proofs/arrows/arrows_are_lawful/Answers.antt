use Rattle.mini_rows.proofs.ArrowLawful.{arrows_lawful}
use Rattle.mini_rows.proofs.arrows.arrows_are_lawful.Goals as goal

pub returns : goal.returns
returns c = arrows_lawful
