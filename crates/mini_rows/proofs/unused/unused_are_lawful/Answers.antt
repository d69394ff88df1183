use Rattle.mini_rows.proofs.FunctionBodyLawful.{unused_loose}
use Rattle.mini_rows.proofs.unused.unused_are_lawful.Goals as goal

pub returns : goal.returns
returns c = unused_loose
