use Rattle.std.proofs.Common.{◌∙◌, ap, sym, arith}
use Rattle.mini_node.specs.Walks.{from_first}
use Rattle.mini_rows.specs.Lists.{is_terminated}
use Rattle.mini_stmt.specs.DropUnreached.{after_jump}
use Rattle.mini_stmt.proofs.Unreached.{jump_found, jump_later, no_jump}
use Rattle.mini_stmt.proofs.rewrites.drop_unreached.ends_at.Goals as goal

pub loop-at-init : goal.loop-at-init
loop-at-init c = ap after_jump (from_first c.args.list.now)

pub returns-then-is_terminated : goal.returns-then-is_terminated
returns-then-is_terminated c = jump_found c.args.list.now c.loop-at.at (omega arith) (sym (c.is_terminated.ensures ∙ ap is_terminated c.child.ensures.value) ∙ c.if-is_terminated.true) c.loop-at.invariant

pub loop-at-preserved : goal.loop-at-preserved
loop-at-preserved c = jump_later c.args.list.now c.loop-at.at (omega arith) (sym (c.is_terminated.ensures ∙ ap is_terminated c.child.ensures.value) ∙ c.if-is_terminated.false) c.loop-at.invariant

pub returns : goal.returns
returns c = no_jump c.args.list.now c.loop-at.at (omega arith) c.loop-at.invariant
