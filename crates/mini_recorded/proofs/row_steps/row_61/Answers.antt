use Rattle.std.proofs.Common.{◌∙◌, sym}
use Rattle.mini_recorded.proofs.Stepping.{head_made, statement_made}
use Rattle.mini_recorded.proofs.row_steps.row_61.Goals as goal

pub returns-then-is_statement_place : goal.returns-then-is_statement_place
returns-then-is_statement_place c =
    head_made c.args.place c.args.node.now c.bare_head.new.node c.args.index c.bare_head.result (sym c.is_statement_place.ensures ∙ c.if-is_statement_place.true) c.bare_head.ensures

pub returns-else-is_statement_place : goal.returns-else-is_statement_place
returns-else-is_statement_place c =
    statement_made c.args.place c.args.node.now c.bare_statement.new.node c.args.index c.bare_statement.result (sym c.is_statement_place.ensures ∙ c.if-is_statement_place.false) c.bare_statement.ensures
