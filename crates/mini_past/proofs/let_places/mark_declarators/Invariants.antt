use Rattle.mini_past.specs.LetPlaces.{Placed}
use Rattle.mini_past.proofs.let_places.mark_declarators.Given as goal

abbrev pub invariant-loop-at : goal.invariant-loop-at
invariant-loop-at l = Placed l.fn.by_let l.fn.is_lexical l.fn.declarators l.at l.fn.places l.places
