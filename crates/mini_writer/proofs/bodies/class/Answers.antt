use Rattle.std.proofs.Common.{◌≡◌, IfOk, ap, ◌∙◌, subst}
use Rattle.serde_json.specs.Data.{Data}
use Rattle.serde_json.specs.View.{view, items_view}
use Rattle.mini_writer.specs.Rows.{row_data}
use Rattle.mini_writer.proofs.WithBody.{class_written}
use Rattle.mini_writer.proofs.bodies.class.Goals as goal

pub returns-in-Some : goal.returns-in-Some
returns-in-Some c =
    let written = ap (λ r. row_data r (items_view c.pop.new.self.items)) c.class_row.ensures
    ∙ class_written c.args.declaration c.args.below.items c.pop.new.self.items c.in-Some._again c.in-Some.ensures.items in
    subst (λ (x : Data). IfOk c.row_value.result (λ v. view v ≡ x)) written c.row_value.ensures
