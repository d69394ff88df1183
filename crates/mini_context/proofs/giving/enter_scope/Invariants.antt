use Rattle.std.proofs.Common.{◌≡◌, ◌++◌}
use Rattle.std.specs.Vec.Iter.{into_iter_items}
use Rattle.mini_context.proofs.giving.enter_scope.Given as goal

abbrev pub invariant-loop-binding : goal.invariant-loop-binding
invariant-loop-binding l = (l.environment ≡ l.initial.environment ++ l.yielded) × (l.yielded ++ into_iter_items l.binding-iterator ≡ l.fn.scope.items)
