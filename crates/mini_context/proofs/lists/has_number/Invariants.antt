use Rattle.std.specs.Prelude.{nat_eq, false}
use Rattle.std.specs.List.{list_any}
use Rattle.std.proofs.Common.{◌≡◌, take}
use Rattle.mini_context.proofs.lists.has_number.Given as goal

abbrev pub invariant-loop-other : goal.invariant-loop-other
invariant-loop-other l = list_any (nat_eq l.number) (take l.other-index l.list) ≡ false
