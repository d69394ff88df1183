use Rattle.std.proofs.Common.{◌≡◌, IfOk, ap, ◌∙◌, subst}
use Rattle.serde_json.specs.Data.{Data}
use Rattle.serde_json.specs.View.{view, items_view}
use Rattle.mini_writer.specs.WithBody.{arrow_row}
use Rattle.mini_writer.specs.Rows.{row_data}
use Rattle.std.specs.Prelude.{not}
use Rattle.mini_writer.proofs.WithBody.{arrow_data, last_told}
use Rattle.mini_writer.proofs.bodies.arrow.Goals as goal

pub returns-in_ok-all-in-Some : goal.returns-in_ok-all-in-Some
returns-in_ok-all-in-Some c =
    let vs = c.pop.new.self.items in let last = c.in-Some.last in
    let expression = not c.is_array-is_expression.result in
    let written = ap (λ r. row_data r (items_view c.in_ok-all-in-Some.all.items)) c.arrow_row.ensures
    ∙ (ap (row_data (arrow_row expression)) c.in_ok-all-in-Some.ensures
    ∙ arrow_data c.args.directives.now expression c.args.below.items vs last c.in-Some.ensures.items (ap not c.is_array-is_expression.ensures ∙ last_told (view last))) in
    subst (λ (x : Data). IfOk c.row_value.result (λ v. view v ≡ x)) written c.row_value.ensures
