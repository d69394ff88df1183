use Rattle.mini_replay.specs.Logged.{Further}
use Rattle.mini_replay.proofs.logging.make_all.Given as goal

abbrev pub invariant-loop-at : goal.invariant-loop-at
invariant-loop-at g l = Further (g.S.Making.makes l.rows) l.fn.program l.program l.fn.log l.log l.max_entries
