use Rattle.std.proofs.Common.{◌≡◌, ◌++◌}
use Rattle.std.specs.Vec.Iter.{into_iter_items}
use Rattle.mini_scope.specs.ScopeAt.{bound}
use Rattle.mini_scope.proofs.distinct.bindings_of.Given as goal

abbrev pub invariant-loop-name : goal.invariant-loop-name
invariant-loop-name l = l.scope.items ++ bound l.hoists (into_iter_items l.name-iterator) ≡ bound l.hoists l.fn.names.items
