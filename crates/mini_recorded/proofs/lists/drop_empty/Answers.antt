use Rattle.std.proofs.Common.{◌∙◌, refl, sym, ap, arith}
use Rattle.mini_node.specs.Children.{without}
use Rattle.mini_node.specs.Kinds.{is_empty_statement}
use Rattle.mini_log.specs.ListRows.{gone, within}
use Rattle.mini_recorded.proofs.ListEdits.{nothing, something, past_end, goes, stays}
use Rattle.mini_recorded.proofs.lists.drop_empty.Goals as goal

pub returns-then-at-len : goal.returns-then-at-len
returns-then-at-len c = nothing (within gone c.args.nodes.now c.args.at) c.args.nodes.now (past_end gone c.args.nodes.now c.args.at refl (omega arith))

pub returns-then-not-is_empty_statement : goal.returns-then-not-is_empty_statement
returns-then-not-is_empty_statement c =
    nothing (within gone c.args.nodes.now c.args.at) c.args.nodes.now (stays c.args.nodes.now c.args.at (omega arith) (sym (c.is_empty_statement.ensures ∙ ap is_empty_statement c.child.ensures.value) ∙ c.if-not-is_empty_statement.true))

pub returns : goal.returns
returns c =
    something (within gone c.args.nodes.now c.args.at) c.args.nodes.now (without c.args.nodes.now c.args.at) c.remove.new.self
    (goes c.args.nodes.now c.args.at (omega arith) (sym (c.is_empty_statement.ensures ∙ ap is_empty_statement c.child.ensures.value) ∙ c.if-not-is_empty_statement.false)) c.remove.ensures.rest
