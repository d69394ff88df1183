use Rattle.std.specs.Prelude.{not}
use Rattle.mini_node.specs.Children.{first_children}
use Rattle.mini_rows.specs.Past.{all_of}
use Rattle.mini_past.specs.LetPlaces.{Marked, passes_here}
use Rattle.mini_past.proofs.let_places.mark_statements.Given as goal

abbrev pub invariant-loop-at : goal.invariant-loop-at
invariant-loop-at l = Marked (λ k. not (all_of (passes_here l.fn.by_let k) (first_children l.at l.fn.statements))) 0 l.fn.places l.places
