use Rattle.std.specs.Prelude.{not}
use Rattle.mini_node.specs.Children.{first_children}
use Rattle.mini_rows.specs.Past.{all_of, spares}
use Rattle.mini_past.specs.LetPlaces.{Marked}
use Rattle.mini_past.proofs.let_places.+marking.Given as goal

abbrev pub invariant-mark_all-loop-at : goal.invariant-mark_all-loop-at
invariant-mark_all-loop-at l = Marked (λ k. not (all_of (spares k) (first_children l.at l.fn.nodes))) l.fn.place l.fn.places l.places
