use Rattle.std.specs.Prelude.{not}
use Rattle.mini_node.specs.Children.{first_children}
use Rattle.mini_rows.specs.Past.{all_of, lets_at_most}
use Rattle.mini_past.specs.LetPlaces.{Marked}
use Rattle.mini_past.proofs.let_places.mark_all_hidden.Given as goal

abbrev pub invariant-loop-at : goal.invariant-loop-at
invariant-loop-at l = Marked (λ k. not (all_of (lets_at_most l.fn.is_lexical k) (first_children l.at l.fn.declarators))) 0 l.fn.places l.places
