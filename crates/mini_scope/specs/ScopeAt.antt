-- The scopes that a node opens, as the code holds them.
use Rattle.std.specs.Prelude.{ℕ, zero, suc, Bool, List, [], map}
use Rattle.mini_model.specs.declared.name.Name.{Name}
use Rattle.mini_laws.specs.declared.names.Binding.{Binding}
use Rattle.mini_scope.specs.declared.opening.OpenScopes.{OpenScopes}

-- the names that are declared before the child at an index
abbrev pub scope_at : OpenScopes → ℕ → List Binding
scope_at s zero = s.first.items
scope_at s (suc zero) = s.second.items
scope_at s (suc (suc zero)) = s.third.items
scope_at s (suc (suc (suc i))) = []

-- names as the bindings of a scope
abbrev pub bound : Bool → List Name → List Binding
bound h xs = map (λ x. record { name = x; hoists = h }) xs
