use Rattle.std.proofs.Common.{◌∙◌, sym}
use Rattle.std.proofs.lemmas.Result.{IfOk-weaker}
use Rattle.mini_recorded.proofs.Stepping.{spread_made, unwrapped_made}
use Rattle.mini_recorded.proofs.row_steps.row_79.Goals as goal

pub returns-then-is_statement_place : goal.returns-then-is_statement_place
returns-then-is_statement_place c =
    unwrapped_made c.args.place c.args.node.now c.unwrap_block.new.node c.args.index c.unwrap_block.result (sym c.is_statement_place.ensures ∙ c.if-is_statement_place.true) c.unwrap_block.ensures

pub returns-else-is_statement_place : goal.returns-else-is_statement_place
returns-else-is_statement_place c =
    IfOk-weaker c.spread_block.result _ _
    (λ b m. spread_made c.args.place c.args.node.now c.spread_block.new.node c.args.index b (sym c.is_statement_place.ensures ∙ c.if-is_statement_place.false) m)
    c.spread_block.ensures
