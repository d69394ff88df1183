use Rattle.std.proofs.Common.{◌≡◌, ◌∙◌, sym, ap, Some}
use Rattle.std.specs.Prelude.{not, is_some, ◌||◌, ◌&&◌}
use Rattle.serde_json.specs.View.{view}
use Rattle.mini_accept.specs.Fields.{kind_of}
use Rattle.mini_accept.specs.Standing.{is_unread, may_stand}
use Rattle.mini_fields.specs.Views.{place_of}
use Rattle.mini_fields.proofs.Stands.{stands_placed, stands_nowhere}
use Rattle.mini_fields.proofs.Typed.{unknown_stands}
use Rattle.mini_fields.proofs.standing.is_misplaced.Goals as goal

pub returns-in_default : goal.returns-in_default
returns-in_default c =
    let d = view c.args.value.now in let p = place_of c.args.place in
    sym (ap (λ b. not b || (not (is_unread c.args.strict p d) && (is_some (kind_of d) && not (may_stand p d)))) (sym c.is_object.ensures ∙ c.if-not-is_object.false)
    ∙ unknown_stands c.args.strict p d (sym c.kind_of.ensures ∙ c.in_default.is))

pub returns-then-may_stand_by : goal.returns-then-may_stand_by
returns-then-may_stand_by c =
    let d = view c.args.value.now in let p = place_of c.args.place in
    sym (ap (λ b. not b || (not (is_unread c.args.strict p d) && (is_some (kind_of d) && not (may_stand p d)))) (sym c.is_object.ensures ∙ c.if-not-is_object.false)
    ∙ stands_placed c.args.strict p d (sym c.may_stand_by.ensures ∙ c.if-may_stand_by.true))

pub returns : goal.returns
returns c =
    let d = view c.args.value.now in let p = place_of c.args.place in
    let is : kind_of d ≡ Some c.in-Some.kind = sym c.kind_of.ensures ∙ c.in-Some.is in
    ap not (c.is_unread.ensures is)
    ∙ sym (ap (λ b. not b || (not (is_unread c.args.strict p d) && (is_some (kind_of d) && not (may_stand p d)))) (sym c.is_object.ensures ∙ c.if-not-is_object.false)
    ∙ stands_nowhere c.args.strict p d c.in-Some.kind is (sym c.may_stand_by.ensures ∙ c.if-may_stand_by.false))
