use Rattle.std.proofs.Common.{◌≤◌, take}
use Rattle.mini_steps.specs.Rows.{rows_in}
use Rattle.mini_steps.specs.Steps.{Followed}
use Rattle.mini_steps.proofs.steps.take_steps.Given as goal

abbrev pub invariant-loop-at : goal.invariant-loop-at
invariant-loop-at l = Followed (rows_in l.context) (take l.at l.steps) l.initial.program l.program l.changed × (l.changed ≤ l.at)
