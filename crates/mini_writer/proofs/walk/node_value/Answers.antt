use Rattle.std.proofs.Common.{sym, ◌∙◌}
use Rattle.serde_json.specs.View.{items_view}
use Rattle.mini_node.specs.Children.{names}
use Rattle.mini_writer.specs.Views.{row_of}
use Rattle.mini_writer.proofs.Table.{row_written}
use Rattle.mini_writer.proofs.walk.node_value.Goals as goal

pub returns-in_ok-value-in-Some : goal.returns-in_ok-value-in-Some
returns-in_ok-value-in-Some c = c.in_ok-value-in-Some.ensures ∙ row_written c.args.shape.now (names c.args.name.now) (items_view c.args.below.items) (row_of c.in-Some.found) (sym c.in-Some.ensures)
