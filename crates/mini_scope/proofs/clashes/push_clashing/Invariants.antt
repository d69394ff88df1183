use Rattle.std.proofs.Common.{◌≡◌, ◌++◌, map, []}
use Rattle.std.specs.Vec.Iter.{into_iter_items}
use Rattle.mini_laws.specs.Early.{clashing}
use Rattle.mini_scope.proofs.Earlier.{as_binding}
use Rattle.mini_scope.proofs.clashes.push_clashing.Given as goal

abbrev pub invariant-loop-declaration : goal.invariant-loop-declaration
invariant-loop-declaration l = record {
  earlier : l.earlier ≡ map as_binding l.yielded;
  found : l.found.items ++ clashing l.yielded (into_iter_items l.declaration-iterator) ≡ l.initial.found.items ++ clashing [] l.fn.declarations.items;
}
