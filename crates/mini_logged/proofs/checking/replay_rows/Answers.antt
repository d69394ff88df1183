use Rattle.mini_laws.specs.Writable.{writable_in}
use Rattle.mini_logged.proofs.Told.{rows_told}
use Rattle.mini_logged.proofs.checking.replay_rows.Goals as goal

pub returns-clause-judged : goal.returns-clause-judged
returns-clause-judged c = λ o k. c.check_by-verdict.ensures.judged o.sequences (writable_in c.args.program.now) (rows_told c.args.context.now o c.args.program.now k)

pub returns-clause-upheld : goal.returns-clause-upheld
returns-clause-upheld c = λ o k. c.check_by-verdict.ensures.upheld o (rows_told c.args.context.now o c.args.program.now k) c.requires.shaped
