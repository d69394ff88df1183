use Rattle.std.specs.Prelude.{Some, None}
use Rattle.mini_past.proofs.FirstPlaces.{reaches_at}
use Rattle.mini_past.proofs.let_places.reaches.Goals as goal

pub returns-in-Some : goal.returns-in-Some
returns-in-Some c = reaches_at c.args.places.now c.args.symbol c.args.place (Some c.in-Some.first.now) c.in-Some.ensures.value

pub returns-in-None : goal.returns-in-None
returns-in-None c = reaches_at c.args.places.now c.args.symbol c.args.place None c.in-None.ensures.value
