use Rattle.std.proofs.Common.{false, ◌∙◌, sym}
use Rattle.std.proofs.lemmas.Result.{IfOk-weaker}
use Rattle.mini_log.specs.ListRows.{gone, joined}
use Rattle.mini_node.specs.Lends.{with_children}
use Rattle.mini_recorded.proofs.ListEdits.{two_made, nothing_joined}
use Rattle.mini_recorded.proofs.Stepping.{joined_made}
use Rattle.mini_recorded.proofs.lists.row_66.Goals as goal

pub returns-then-not-is_statement_list : goal.returns-then-not-is_statement_list
returns-then-not-is_statement_list c =
    joined_made c.args.sequences c.args.place c.args.node.now c.args.node.now c.args.index false (nothing_joined c.args.sequences c.args.place c.args.node.now c.args.index (sym c.is_statement_list.ensures ∙ c.if-not-is_statement_list.true))

pub returns : goal.returns
returns c =
    IfOk-weaker c.edit_66.result _ _
    (λ b m.
    joined_made c.args.sequences c.args.place c.args.node.now (with_children c.args.node.now c.edit_66.new.nodes) c.args.index b
    (two_made gone (joined c.args.sequences) c.args.place c.args.node.now c.args.index c.children_mut.result.now c.edit_66.new.nodes b (sym c.is_statement_list.ensures ∙ c.if-not-is_statement_list.false) c.children_mut.ensures.value m))
    c.edit_66.ensures
