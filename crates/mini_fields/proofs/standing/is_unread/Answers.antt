use Rattle.std.proofs.Common.{◌∙◌, sym}
use Rattle.serde_json.specs.View.{view}
use Rattle.mini_fields.specs.Views.{place_of}
use Rattle.mini_fields.proofs.Typed.{unread_by}
use Rattle.mini_fields.proofs.standing.is_unread.Goals as goal

pub returns : goal.returns
returns c = λ is. c.is_unread_of.ensures ∙ sym (unread_by c.args.strict (place_of c.args.place) c.args.kind (view c.args.value.now) is)
