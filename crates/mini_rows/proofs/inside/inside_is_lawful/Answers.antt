use Rattle.mini_rows.proofs.InsideLawful.{inside_loose}
use Rattle.mini_rows.proofs.inside.inside_is_lawful.Goals as goal

pub returns : goal.returns
returns c = inside_loose
