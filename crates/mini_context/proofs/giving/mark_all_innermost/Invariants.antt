use Rattle.std.proofs.Common.{take, map}
use Rattle.mini_laws.specs.declared.names.Use.TheVariants.{Read}
use Rattle.mini_laws.specs.Resolved.{with_symbol}
use Rattle.mini_context.specs.Tables.{Marked}
use Rattle.mini_context.proofs.giving.mark_all_innermost.Given as goal

abbrev pub invariant-loop-name : goal.invariant-loop-name
invariant-loop-name l = Marked (map (with_symbol Read l.environment) (take l.name-index l.names)) l.initial.marks.items l.marks.items
