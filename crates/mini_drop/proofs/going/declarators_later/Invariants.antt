use Rattle.std.specs.Prelude.{slice_index}
use Rattle.mini_context.specs.Tables.{mark_at}
use Rattle.mini_drop.specs.Going.{declarators_later}
use Rattle.mini_drop.proofs.Every.{Until}
use Rattle.mini_drop.proofs.going.declarators_later.Given as goal

abbrev pub invariant-loop-at : goal.invariant-loop-at
invariant-loop-at l = Until (λ i ts. declarators_later (mark_at l.set) (slice_index l.rounds) ts) l.nodes 0 l.at l.all
