use Rattle.mini_past.proofs.FirstPlaces.{all_told}
use Rattle.mini_past.proofs.let_places.all_places.Goals as goal

pub returns : goal.returns
returns c = all_told c.new-places.result c.mark_all.new.places c.args.statements.now c.new-places.ensures.empty c.in_ok-mark_all.ensures
