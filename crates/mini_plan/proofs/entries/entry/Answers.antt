use Rattle.std.proofs.Common.{◌∙◌, sym, ap, true}
use Rattle.std.specs.Prelude.{option_map}
use Rattle.serde_json.specs.View.{view}
use Rattle.mini_accept.specs.Plans.{node_of}
use Rattle.mini_fields.specs.Views.{place_of}
use Rattle.mini_plan.specs.Plains.{plain_shape, plain_children, other_entry}
use Rattle.mini_plan.specs.Views.{plan_of}
use Rattle.mini_plan.proofs.Plains.{by_parts, entry_told}
use Rattle.mini_plan.proofs.entries.entry.Goals as goal

pub returns-then-not-has_its_list : goal.returns-then-not-has_its_list
returns-then-not-has_its_list c =
    let k = c.args.kind in let p = place_of c.args.place in let d = view c.args.value.now in
    sym (ap (λ b. by_parts b (plain_shape k) (plain_children k d) (other_entry k p d)) (sym c.has_its_list.ensures ∙ c.if-not-has_its_list.true)) ∙ entry_told k p d

pub returns-in-None : goal.returns-in-None
returns-in-None c =
    let k = c.args.kind in let p = place_of c.args.place in let d = view c.args.value.now in
    c.other_entry.ensures
    ∙ (sym (ap (λ b. by_parts b (plain_shape k) (plain_children k d) (other_entry k p d)) (sym c.has_its_list.ensures ∙ c.if-not-has_its_list.false)
    ∙ ap (λ o. by_parts true o (plain_children k d) (other_entry k p d)) (sym c.plain_shape.ensures ∙ c.in-None.is))
    ∙ entry_told k p d)

pub returns-in-Some : goal.returns-in-Some
returns-in-Some c =
    let k = c.args.kind in let p = place_of c.args.place in let d = view c.args.value.now in
    ap (option_map (plan_of d)) c.of.ensures
    ∙ (ap (node_of c.in-Some.shape) (c.plain_children.ensures d)
    ∙ (sym (ap (λ b. by_parts b (plain_shape k) (plain_children k d) (other_entry k p d)) (sym c.has_its_list.ensures ∙ c.if-not-has_its_list.false)
    ∙ ap (λ o. by_parts true o (plain_children k d) (other_entry k p d)) (sym c.plain_shape.ensures ∙ c.in-Some.is))
    ∙ entry_told k p d))
