use Rattle.std.proofs.Common.{◌≡◌, IfOk, ap, ◌∙◌, subst}
use Rattle.serde_json.specs.Data.{Data}
use Rattle.serde_json.specs.View.{view, items_view}
use Rattle.mini_writer.specs.WithBody.{program_row}
use Rattle.mini_writer.specs.Rows.{row_data}
use Rattle.mini_writer.proofs.WithBody.{program_written}
use Rattle.mini_writer.proofs.bodies.program.Goals as goal

pub returns : goal.returns
returns c =
    let written = ap (λ r. row_data r (items_view c.in_ok-values.values.items)) c.program_row.ensures
    ∙ (ap (row_data (program_row c.args.is_module)) c.in_ok-values.ensures ∙ program_written c.args.is_module c.args.directives.now (items_view c.args.below.items)) in
    subst (λ (x : Data). IfOk c.row_value.result (λ v. view v ≡ x)) written c.row_value.ensures
