use Rattle.std.proofs.Common.{◌∙◌, sym}
use Rattle.std.proofs.lemmas.Result.{IfOk-weaker}
use Rattle.mini_log.specs.ListRows.{in_list, spread}
use Rattle.mini_recorded.proofs.ListEdits.{list_made, no_list, nothing_made}
use Rattle.mini_recorded.proofs.lists.spread_block.Goals as goal

pub returns-then-not-is_statement_list : goal.returns-then-not-is_statement_list
returns-then-not-is_statement_list c =
    nothing_made (in_list spread c.args.place c.args.node.now c.args.index) c.args.node.now (no_list spread c.args.place c.args.node.now c.args.index (sym c.is_statement_list.ensures ∙ c.if-not-is_statement_list.true))

pub returns : goal.returns
returns c =
    IfOk-weaker c.spread.result _ _
    (λ b m. list_made spread c.args.place c.args.node.now c.args.index c.children_mut.result.now c.spread.new.nodes b (sym c.is_statement_list.ensures ∙ c.if-not-is_statement_list.false) c.children_mut.ensures.value m)
    c.spread.ensures
