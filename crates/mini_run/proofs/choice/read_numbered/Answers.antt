use Rattle.mini_run.proofs.Spelled.{none_numbered}
use Rattle.mini_run.proofs.choice.read_numbered.Goals as goal

pub returns-in-None-read_edition : goal.returns-in-None-read_edition
returns-in-None-read_edition c = none_numbered c.args.word.now c.in-None.ensures c.in-None-read_depth.ensures c.in-None-read_count.ensures c.in-None-read_edition.ensures
