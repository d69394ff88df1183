use Rattle.std.proofs.Common.{take}
use Rattle.mini_laws.specs.ScopeList.{names_in}
use Rattle.mini_context.specs.Tables.{OwnedBy}
use Rattle.mini_context.proofs.listing.own_bindings.Given as goal

abbrev pub invariant-loop-binding : goal.invariant-loop-binding
invariant-loop-binding l = OwnedBy l.scope (names_in (take l.binding-index l.bindings)) l.initial.owners.items l.owners.items
