use Rattle.std.proofs.Common.{◌≡◌, IfOk, ap, sym, subst}
use Rattle.serde_json.specs.Data.{Items}
use Rattle.serde_json.specs.View.{items_view}
use Rattle.mini_writer.specs.WithBody.{body_of, with_last}
use Rattle.mini_writer.proofs.bodies.with_body.Goals as goal

pub returns-in-Some : goal.returns-in-Some
returns-in-Some c =
    let f = body_of c.args.is_program c.args.directives.now in
    subst (λ (x : Items). IfOk c.with_last.result (λ vs. items_view vs.items ≡ x)) (ap (λ vs. with_last f (items_view vs)) (sym c.in-Some.ensures.items)) c.with_last.ensures
