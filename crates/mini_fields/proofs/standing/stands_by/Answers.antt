use Rattle.std.proofs.Common.{ap, ◌∙◌}
use Rattle.serde_json.specs.View.{view}
use Rattle.mini_fields.specs.Stands.{stands_otherwise}
use Rattle.mini_fields.proofs.Stands.{by_asked, stands_told}
use Rattle.mini_fields.proofs.standing.stands_by.Goals as goal

pub returns-in-Some : goal.returns-in-Some
returns-in-Some c = let d = view c.args.value.now in c.has_type.ensures ∙ (ap (λ o. by_asked o (stands_otherwise c.args.class c.args.kind d) d) c.in-Some.ensures ∙ stands_told c.args.kind d c.requires c.args.class)

pub returns-in-None : goal.returns-in-None
returns-in-None c = let d = view c.args.value.now in c.stands_otherwise.ensures ∙ (ap (λ o. by_asked o (stands_otherwise c.args.class c.args.kind d) d) c.in-None.ensures ∙ stands_told c.args.kind d c.requires c.args.class)
