use Rattle.std.proofs.Common.{◌∙◌, sym}
use Rattle.serde_json.specs.View.{view}
use Rattle.mini_fields.specs.Views.{place_of}
use Rattle.mini_fields.proofs.Nowhere.{nowhere}
use Rattle.mini_fields.proofs.standing.may_stand.Goals as goal

pub returns-in-None : goal.returns-in-None
returns-in-None c = sym (nowhere (place_of c.args.place) (view c.args.value.now) (sym c.kind_of.ensures ∙ c.in-None.is))
