use Rattle.std.proofs.Common.{◌∙◌, ap, sym, true, false}
use Rattle.std.specs.Prelude.{option_map}
use Rattle.serde_json.specs.View.{view}
use Rattle.mini_plan.specs.Views.{plan_of}
use Rattle.mini_plan.proofs.Members.{no_pattern, pattern_plan, pattern_planned}
use Rattle.mini_plan.proofs.patterns.pattern_property.Goals as goal

pub returns-in_err-fields : goal.returns-in_err-fields
returns-in_err-fields c = let d = view c.args.value.now in ap (option_map (plan_of d)) c.from_residual.ensures ∙ no_pattern c.args.binds d (sym c.in_err-fields.ensures)

pub returns-then-not-is_pattern_property : goal.returns-then-not-is_pattern_property
returns-then-not-is_pattern_property c = pattern_planned c.args.binds (view c.args.value.now) c.in_ok-fields.fields false (sym c.in_ok-fields.ensures) (sym c.is_pattern_property.ensures ∙ c.if-not-is_pattern_property.true)

pub returns-then-binds : goal.returns-then-binds
returns-then-binds c =
    let d = view c.args.value.now in
    let x = c.in_ok-fields.fields in
    c.binding_property.ensures d
    ∙ (sym (ap (λ b. pattern_plan b d x) c.if-binds.true)
    ∙ pattern_planned c.args.binds d x true (sym c.in_ok-fields.ensures) (sym c.is_pattern_property.ensures ∙ c.if-not-is_pattern_property.false))

pub returns-else-binds : goal.returns-else-binds
returns-else-binds c =
    let d = view c.args.value.now in
    let x = c.in_ok-fields.fields in
    c.target_property.ensures
    ∙ (sym (ap (λ b. pattern_plan b d x) c.if-binds.false)
    ∙ pattern_planned c.args.binds d x true (sym c.in_ok-fields.ensures) (sym c.is_pattern_property.ensures ∙ c.if-not-is_pattern_property.false))
