use Rattle.std.proofs.Common.{◌∙◌, sym}
use Rattle.mini_past.proofs.FirstPlaces.{marked_kept, marked_put}
use Rattle.mini_past.proofs.let_places.mark.Goals as goal

pub returns-then-reaches : goal.returns-then-reaches
returns-then-reaches c = marked_kept c.args.places.now c.args.symbol c.args.place (sym c.reaches.ensures ∙ c.if-reaches.true)

pub returns-in-Ok : goal.returns-in-Ok
returns-in-Ok c = marked_put c.args.places.now c.insert.new.self c.args.symbol c.args.place c.in-Ok.ensures.updates (sym c.reaches.ensures ∙ c.if-reaches.false)
