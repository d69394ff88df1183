use Rattle.mini_kept.proofs.Loosely.{loosely_keeps, lawful_is_loose}
use Rattle.mini_kept.proofs.loose_rewriting_keeps.Goals as goal

pub returns-clause-keeps : goal.returns-clause-keeps
returns-clause-keeps g c = loosely_keeps g.R.Rewrites.gives

pub returns-clause-lawful : goal.returns-clause-lawful
returns-clause-lawful g c = lawful_is_loose g.R.Rewrites.gives
