use Rattle.mini_node.specs.Children.{first_children}
use Rattle.mini_past.proofs.FirstPlaces.{placed_all}
use Rattle.mini_past.proofs.let_places.places_by.Goals as goal

pub returns : goal.returns
returns c = placed_all c.args.by_let c.args.is_lexical c.args.declarators.now (first_children c.args.end c.args.statements.now) c.new-places.result c.mark_statements.new.places c.mark_declarators.new.places c.new-places.ensures.empty c.in_ok-mark_statements.ensures c.in_ok-mark_declarators.ensures
