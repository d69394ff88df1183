use Rattle.std.proofs.Common.{take, map}
use Rattle.mini_laws.specs.Shared.{write_at}
use Rattle.mini_context.specs.Mentioned.{Joined}
use Rattle.mini_context.proofs.giving.join_all.Given as goal

abbrev pub invariant-loop-name : goal.invariant-loop-name
invariant-loop-name l = Joined (map (write_at l.around) (take l.name-index l.names)) l.initial.given.items l.given.items
