use Rattle.std.specs.Prelude.{false}
use Rattle.std.specs.List.{list_any}
use Rattle.std.proofs.Common.{◌≡◌, take}
use Rattle.mini_context.specs.Lists.{holds}
use Rattle.mini_context.proofs.params.is_any_around.Given as goal

abbrev pub invariant-loop-function : goal.invariant-loop-function
invariant-loop-function l = list_any (λ k. holds l.params.by_number.items l.body k) (take l.function-index l.functions) ≡ false
