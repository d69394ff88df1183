use Rattle.std.proofs.Common.{◌≡◌, ◌≤◌, ◌-◌, Some, length}
use Rattle.mini_checker.specs.Checked.{replayed_by}
use Rattle.mini_replay.proofs.logging.log_by.Given as goal

abbrev pub invariant-drafts : goal.invariant-drafts
invariant-drafts g l = record {
  replays : replayed_by (g.S.Making.makes l.rows) l.fn.program l.log ≡ Some l.program;
  bound : length l.log ≤ l.max_entries;
}

abbrev pub decreases-drafts : goal.decreases-drafts
decreases-drafts g l = l.max_entries - length l.log

abbrev pub invariant-steps : goal.invariant-steps
invariant-steps g l = record {
  replays : replayed_by (g.S.Making.makes l.rows) l.fn.program l.log ≡ Some l.program;
  bound : length l.log ≤ l.max_entries;
}

abbrev pub decreases-steps : goal.decreases-steps
decreases-steps g l = l.max_entries - length l.log
