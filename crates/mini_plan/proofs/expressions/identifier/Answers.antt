use Rattle.std.proofs.Common.{Some, ◌∙◌, ap}
use Rattle.std.specs.Prelude.{option_map}
use Rattle.serde_json.specs.View.{view}
use Rattle.mini_accept.specs.Expressions.{identifier_in}
use Rattle.mini_fields.specs.Views.{place_of}
use Rattle.mini_plan.proofs.expressions.identifier.Goals as goal

pub returns : goal.returns
returns c = ap Some (c.identifier_in.ensures (view c.args.value.now)) ∙ ap (option_map (identifier_in (place_of c.args.place))) c.in_ok-text.ensures
