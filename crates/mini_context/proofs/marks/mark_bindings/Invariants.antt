use Rattle.std.proofs.Common.{take}
use Rattle.mini_laws.specs.ScopeList.{names_in}
use Rattle.mini_context.specs.Tables.{Marked}
use Rattle.mini_context.proofs.marks.mark_bindings.Given as goal

abbrev pub invariant-loop-binding : goal.invariant-loop-binding
invariant-loop-binding l = Marked (names_in (take l.binding-index l.scope)) l.initial.marks.items l.marks.items
