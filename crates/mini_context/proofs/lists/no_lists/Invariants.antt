use Rattle.std.proofs.Common.{◌≡◌, [], replicate}
use Rattle.mini_context.proofs.lists.no_lists.Given as goal

abbrev pub invariant-loop-done : goal.invariant-loop-done
invariant-loop-done l = l.lists.items ≡ replicate l.done []
