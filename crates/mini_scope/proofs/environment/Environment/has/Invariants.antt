use Rattle.std.proofs.Common.{◌≡◌, drop}
use Rattle.mini_scope.specs.Spelled.{spelled, has_name}
use Rattle.mini_scope.proofs.Places.{has_any}
use Rattle.mini_scope.proofs.environment.Environment.has.Given as goal

abbrev pub invariant-loop-place : goal.invariant-loop-place
invariant-loop-place l = (has_any l.usage l.spelling l.self-inside.bindings.items (drop l.place-index l.place-items) ≡ has_name l.usage l.spelling l.self-inside.bindings.items) × (l.place-items ≡ spelled l.spelling 0 l.self-inside.bindings.items)
