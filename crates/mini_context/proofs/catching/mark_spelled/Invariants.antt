use Rattle.std.proofs.Common.{◌≡◌, take, List, ℕ}
use Rattle.mini_model.specs.declared.name.Name.{Name}
use Rattle.mini_laws.specs.declared.names.Use.TheVariants as variant
use Rattle.mini_laws.specs.DeclaredNames.{is_spelled}
use Rattle.mini_laws.specs.Shared.{spelled_among}
use Rattle.mini_scope.specs.Spelled.{has_name}
use Rattle.mini_context.specs.Tables.{Marked}
use Rattle.mini_context.proofs.catching.mark_spelled.Given as goal

abbrev pub invariant-loop-name : goal.invariant-loop-name
invariant-loop-name l = (xs : List Name) → ((s : List ℕ) → has_name variant.Read s l.table ≡ is_spelled s xs) → Marked (spelled_among xs (take l.name-index l.names)) l.initial.marks.items l.marks.items
