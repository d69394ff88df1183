use Rattle.std.proofs.Common.{◌≡◌, ◌++◌, take}
use Rattle.mini_replay.proofs.drafting.put_behind.Given as goal

abbrev pub invariant-loop-number : goal.invariant-loop-number
invariant-loop-number l = l.numbers ≡ l.initial.numbers ++ take l.number-index l.more
