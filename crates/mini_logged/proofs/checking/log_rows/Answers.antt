use Rattle.mini_logged.proofs.Told.{counted_anew}
use Rattle.mini_logged.proofs.checking.log_rows.Goals as goal

pub returns-clause-counts : goal.returns-clause-counts
returns-clause-counts c = let (o, k) = c.requires.known in counted_anew c.look.new.context o c.make_rows.new.program (c.in_ok-look.ensures o c.args.program.now k)
