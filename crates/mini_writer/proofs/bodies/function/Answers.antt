use Rattle.std.proofs.Common.{◌≡◌, IfOk, ap, ◌∙◌, subst}
use Rattle.serde_json.specs.Data.{Data}
use Rattle.serde_json.specs.View.{view, items_view}
use Rattle.mini_writer.specs.WithBody.{function_row}
use Rattle.mini_writer.specs.Rows.{row_data}
use Rattle.mini_writer.proofs.WithBody.{function_data}
use Rattle.mini_writer.proofs.bodies.function.Goals as goal

pub returns : goal.returns
returns c =
    let written = ap (λ r. row_data r (items_view c.in_ok-values.values.items)) c.function_row.ensures
    ∙ (ap (row_data (function_row c.args.declaration c.args.generator)) c.in_ok-values.ensures ∙ function_data c.args.declaration c.args.generator c.args.directives.now (items_view c.args.below.items)) in
    subst (λ (x : Data). IfOk c.row_value.result (λ v. view v ≡ x)) written c.row_value.ensures
