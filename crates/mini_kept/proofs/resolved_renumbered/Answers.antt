use Rattle.mini_kept.proofs.Renumbered.{program_renumbered}
use Rattle.mini_kept.proofs.resolved_renumbered.Goals as goal

pub returns : goal.returns
returns c = program_renumbered
