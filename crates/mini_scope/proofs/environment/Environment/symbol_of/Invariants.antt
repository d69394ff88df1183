use Rattle.std.proofs.Common.{◌≡◌, take}
use Rattle.mini_scope.specs.Spelled.{spelled}
use Rattle.mini_scope.proofs.Places.{through}
use Rattle.mini_scope.proofs.environment.Environment.symbol_of.Given as goal

abbrev pub invariant-loop-place : goal.invariant-loop-place
invariant-loop-place l = (l.found ≡ through l.usage l.spelling l.self-inside.bindings.items (take l.place-index l.place-items)) × (l.place-items ≡ spelled l.spelling 0 l.self-inside.bindings.items)
