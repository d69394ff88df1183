use Rattle.std.proofs.Common.{◌≡◌, ◌++◌, List}
use Rattle.std.specs.Vec.Iter.{into_iter_items}
use Rattle.mini_model.specs.declared.name.Name.{Name}
use Rattle.mini_laws.specs.DeclaredNames.{with_names}
use Rattle.mini_scope.specs.ScopeAt.{bound}
use Rattle.mini_scope.proofs.distinct.add_distinct.Given as goal

abbrev pub invariant-loop-name : goal.invariant-loop-name
invariant-loop-name l = ((seen : List Name) → l.initial.scope ≡ bound l.hoists seen → l.scope ≡ bound l.hoists (with_names seen l.yielded)) × (l.yielded ++ into_iter_items l.name-iterator ≡ l.fn.names.items)
