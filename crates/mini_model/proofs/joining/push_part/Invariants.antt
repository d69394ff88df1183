-- What was pushed, with what is left of the part, is what was there with all of it; and the tail says how it ends.
use Rattle.std.proofs.Common.{◌≡◌, ◌++◌, drop}
use Rattle.mini_model.specs.Joined.{ending_of}
use Rattle.mini_model.specs.Tails.{ending_at}
use Rattle.mini_model.proofs.joining.push_part.Given as goal

abbrev pub invariant-loop-unit : goal.invariant-loop-unit
invariant-loop-unit l = record {
  left : l.raw ++ drop l.unit-index l.part ≡ l.initial.raw ++ l.part;
  ends : ending_at l.tail ≡ ending_of l.raw;
}
