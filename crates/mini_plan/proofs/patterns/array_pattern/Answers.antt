use Rattle.std.proofs.Common.{◌≡◌, ◌∙◌, sym, ap, false, Option, []}
use Rattle.std.specs.Prelude.{◌∷◌, is_some, codes}
use Rattle.serde_json.specs.View.{view}
use Rattle.mini_model.specs.declared.shape.Shape.TheVariants as shape
use Rattle.mini_accept.specs.WellShaped as shaped
use Rattle.mini_accept.specs.Fields.{◌>>=◌, list_at}
use Rattle.mini_accept.specs.Plans.{Child, node_of, each, or_rest, or_hole, target_part}
use Rattle.mini_accept.specs.Patterns.{is_binding}
use Rattle.mini_fields.specs.Views.{place_of}
use Rattle.mini_plan.proofs.Listed.{missing, none_either}
use Rattle.mini_plan.proofs.patterns.array_pattern.Goals as goal

pub returns-then-not-has_list : goal.returns-then-not-has_list
returns-then-not-has_list c =
    let d = view c.args.value.now in
    let gone : is_some (list_at (codes "elements") d) ≡ false = sym c.has_list.ensures ∙ c.if-not-has_list.true in
    none_either (is_binding (place_of c.args.place)) _ _
    (ap (λ (o : Option Child). o >>= (λ ps. node_of shape.ArrayPattern (ps ∷ []))) (missing (or_hole (or_rest (each shaped.a_pattern_element) shaped.a_pattern_rest)) (codes "elements") d gone))
    (ap (λ (o : Option Child). o >>= (λ ps. node_of shape.ArrayAssignmentTarget (ps ∷ []))) (missing (or_hole (or_rest (target_part shaped.a_target_element) shaped.a_target_rest)) (codes "elements") d gone))
