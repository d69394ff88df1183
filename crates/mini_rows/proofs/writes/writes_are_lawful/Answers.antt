use Rattle.mini_rows.proofs.WriteLawful.{writes_lawful}
use Rattle.mini_rows.proofs.writes.writes_are_lawful.Goals as goal

pub returns : goal.returns
returns c = writes_lawful
