use Rattle.std.proofs.Common.{◌+◌, ◌-◌, ◌≤◌, vec_len}
use Rattle.std.specs.Io.KnownBytes.{Consumes}
use Rattle.mini_run.proofs.outside.read_all.Given as goal

abbrev pub invariant-reading : goal.invariant-reading
invariant-reading g l = Consumes (g.S.Source.left l.initial.source) (g.S.Source.left l.source) l.input.items × (g.S.Source.faults l.initial.source ≤ g.S.Source.faults l.source) × (l.steps ≤ l.initial.steps + vec_len l.input) × (l.steps ≤ l.initial.steps + 16777217)

abbrev pub decreases-reading : goal.decreases-reading
decreases-reading g l = 16777217 - vec_len l.input
