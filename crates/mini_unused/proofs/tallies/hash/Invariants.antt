use Rattle.std.proofs.Common.{◌≡◌, ◌<◌, drop}
use Rattle.mini_unused.specs.Tallies.{hash_from}
use Rattle.mini_unused.proofs.tallies.hash.Given as goal

abbrev pub invariant-loop-unit : goal.invariant-loop-unit
invariant-loop-unit l = (hash_from l.value (drop l.unit-index l.unit-items) ≡ hash_from 0 l.text) × (l.value < 4294967296)
