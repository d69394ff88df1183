use Rattle.std.proofs.Common.{◌-◌, ◌≤◌, length, take}
use Rattle.std.specs.Io.KnownBytes.{Appends}
use Rattle.mini_run.proofs.outside.write_all.Given as goal

abbrev pub invariant-writing : goal.invariant-writing
invariant-writing g l = record { bytes : Appends (g.K.Sink.written l.initial.sink) (g.K.Sink.written l.sink) (take l.at l.bytes); faults : g.K.Sink.faults l.initial.sink ≤ g.K.Sink.faults l.sink; within : l.at ≤ length l.bytes }

abbrev pub decreases-writing : goal.decreases-writing
decreases-writing g l = length l.bytes - l.at
