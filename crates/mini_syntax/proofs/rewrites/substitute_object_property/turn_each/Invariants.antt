use Rattle.mini_syntax.proofs.Keys.{TurnedTo}
use Rattle.mini_syntax.proofs.rewrites.substitute_object_property.turn_each.Given as goal

abbrev pub invariant-loop-at : goal.invariant-loop-at
invariant-loop-at l = TurnedTo l.at l.fn.properties l.properties l.changed
