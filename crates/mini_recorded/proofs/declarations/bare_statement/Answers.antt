use Rattle.std.proofs.Common.{◌∙◌, sym}
use Rattle.mini_log.specs.ListRows.{bare_let, first_by, in_list}
use Rattle.mini_recorded.proofs.ListEdits.{list_made, no_list, nothing_made}
use Rattle.mini_recorded.proofs.declarations.bare_statement.Goals as goal

pub returns-then-not-is_statement_list : goal.returns-then-not-is_statement_list
returns-then-not-is_statement_list c =
    nothing_made (in_list (first_by bare_let) c.args.place c.args.node.now c.args.index) c.args.node.now (no_list (first_by bare_let) c.args.place c.args.node.now c.args.index (sym c.is_statement_list.ensures ∙ c.if-not-is_statement_list.true))

pub returns : goal.returns
returns c =
    list_made (first_by bare_let) c.args.place c.args.node.now c.args.index c.children_mut.result.now c.bare_let_at.new.nodes c.bare_let_at.result (sym c.is_statement_list.ensures ∙ c.if-not-is_statement_list.false) c.children_mut.ensures.value c.bare_let_at.ensures
