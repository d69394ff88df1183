use Rattle.std.proofs.Common.{◌≡◌, Some, take}
use Rattle.mini_checker.specs.Checked.{replayed_by}
use Rattle.mini_checker.proofs.replaying.replay.Given as goal

abbrev pub invariant-loop-at : goal.invariant-loop-at
invariant-loop-at g l = replayed_by (g.M.Making.makes l.making) l.initial.program (take l.at l.entries) ≡ Some l.program
