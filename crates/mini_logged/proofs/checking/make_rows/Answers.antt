use Rattle.mini_laws.specs.Writable.{writable_in}
use Rattle.mini_logged.proofs.Told.{rows_told}
use Rattle.mini_logged.proofs.checking.make_rows.Goals as goal

pub returns-clause-replays : goal.returns-clause-replays
returns-clause-replays c = λ o k. c.log_rows_by-log.ensures.replays o.sequences (writable_in c.args.program.now) (rows_told c.args.context.now o c.args.program.now k)

pub returns-clause-all : goal.returns-clause-all
returns-clause-all c = λ o k. c.log_rows_by-log.ensures.all o.sequences (writable_in c.args.program.now) (rows_told c.args.context.now o c.args.program.now k)

pub returns-clause-upheld : goal.returns-clause-upheld
returns-clause-upheld c = λ o k. c.log_rows_by-log.ensures.upheld o (rows_told c.args.context.now o c.args.program.now k) c.requires.shaped
