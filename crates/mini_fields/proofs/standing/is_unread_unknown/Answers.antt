use Rattle.std.proofs.Common.{◌∙◌, sym, ap}
use Rattle.std.specs.Prelude.{codes, not, ◌||◌, ◌&&◌}
use Rattle.serde_json.specs.View.{view}
use Rattle.mini_accept.specs.Fields.{is_bare}
use Rattle.mini_fields.specs.Unread.{is_for_text}
use Rattle.mini_fields.specs.Views.{place_of}
use Rattle.mini_fields.proofs.Typed.{unknown_unread}
use Rattle.mini_fields.proofs.standing.is_unread_unknown.Goals as goal

pub returns-then-has_unread_type : goal.returns-then-has_unread_type
returns-then-has_unread_type c = λ strict none.
    let d = view c.args.value.now in let p = place_of c.args.place in
    c.if-has_unread_type.true ∙ sym (unknown_unread strict p d none ∙ ap (λ b. b || (not (is_for_text p) && not (is_bare (codes "decorators") d))) (sym c.has_unread_type.ensures ∙ c.if-has_unread_type.true))

pub returns-then-not-is_for_text : goal.returns-then-not-is_for_text
returns-then-not-is_for_text c = λ strict none.
    let d = view c.args.value.now in let p = place_of c.args.place in
    ap not c.is_bare.ensures
    ∙ sym (unknown_unread strict p d none
    ∙ (ap (λ b. b || (not (is_for_text p) && not (is_bare (codes "decorators") d))) (sym c.has_unread_type.ensures ∙ c.if-has_unread_type.false)
    ∙ ap (λ b. not b && not (is_bare (codes "decorators") d)) (sym c.is_for_text.ensures ∙ c.if-not-is_for_text.true)))

pub returns-else-not-is_for_text : goal.returns-else-not-is_for_text
returns-else-not-is_for_text c = λ strict none.
    let d = view c.args.value.now in let p = place_of c.args.place in
    ap not c.if-not-is_for_text.false
    ∙ sym (unknown_unread strict p d none
    ∙ (ap (λ b. b || (not (is_for_text p) && not (is_bare (codes "decorators") d))) (sym c.has_unread_type.ensures ∙ c.if-has_unread_type.false)
    ∙ ap (λ b. not b && not (is_bare (codes "decorators") d)) (sym c.is_for_text.ensures ∙ c.if-not-is_for_text.false)))
