use Rattle.std.proofs.Common.{◌≡◌, Some, true, ◌∙◌, sym, ap, IsUtf8}
use Rattle.std.specs.Prelude.{codes, is_some, not}
use Rattle.serde_json.specs.Data.{null}
use Rattle.serde_json.specs.Find.{get}
use Rattle.serde_json.specs.View.{view}
use Rattle.mini_model.specs.Texts.{units_of}
use Rattle.mini_model.specs.Templates.{cooked}
use Rattle.mini_accept.specs.Fields.{text_at}
use Rattle.mini_fields.proofs.Texts.{view-Null}
use Rattle.mini_plan.proofs.Texts.{malformed_plan}
use Rattle.mini_plan.proofs.templates.texts_plan.Goals as goal

pub returns-in-Tagged : goal.returns-in-Tagged
returns-in-Tagged c = λ d.
    let raw : text_at (codes "raw") (view c.args.texts.now) ≡ Some c.in_ok-raw.raw.now = sym c.in_ok-raw.ensures in
    let utf8 : IsUtf8 c.in_ok-raw.raw.now = search in
    let found : get (codes "cooked") (view c.args.texts.now) ≡ Some null = sym c.in_ok-cooked.ensures ∙ ap (λ v. Some (view v)) c.in-Null.is ∙ ap Some view-Null in
    let malformed : not (is_some (cooked (units_of c.in_ok-raw.raw.now))) ≡ true = sym c.is_malformed.ensures ∙ c.if-is_malformed.true in
    rw c.in-Tagged.is (sym (malformed_plan (view c.args.texts.now) c.args.tail c.in_ok-raw.raw.now raw utf8 found malformed))
