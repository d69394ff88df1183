use Rattle.std.proofs.Common.{◌≡◌, ◌+◌, ◌++◌, length}
use Rattle.std.specs.Vec.Iter.{into_iter_items}
use Rattle.mini_laws.specs.Resolved.{numbered}
use Rattle.mini_scope.proofs.environment.Environment.enter.Given as goal

abbrev pub invariant-loop-binding : goal.invariant-loop-binding
invariant-loop-binding l = (l.symbol ≡ l.fn.next + length l.yielded) × (l.self ≡ l.initial.self ++ numbered l.fn.next l.yielded) × (l.yielded ++ into_iter_items l.binding-iterator ≡ l.fn.scope.items)
