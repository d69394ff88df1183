use Rattle.mini_rows.proofs.UnbrokenRuns.{never_breaks_out}
use Rattle.mini_rows.proofs.branches.never_breaks_out.Goals as goal

pub returns : goal.returns
returns c = never_breaks_out
