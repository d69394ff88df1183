use Rattle.mini_log.proofs.Logs.{a_way, all_kept}
use Rattle.mini_log.proofs.Weights.{log_lighter}
use Rattle.mini_log.proofs.laws.accepted_logs_keep.Goals as goal

pub returns-clause-way : goal.returns-clause-way
returns-clause-way c = a_way

pub returns-clause-keeps : goal.returns-clause-keeps
returns-clause-keeps c = all_kept

pub returns-clause-lighter : goal.returns-clause-lighter
returns-clause-lighter c = log_lighter
