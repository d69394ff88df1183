use Rattle.std.proofs.Common.{◌∙◌, ap, sym, arith}
use Rattle.mini_node.specs.Walks.{from_first}
use Rattle.mini_rows.specs.Lists.{is_terminated}
use Rattle.mini_stmt.proofs.Parts.{some_ends, ends_here, ends_later, ends_nowhere}
use Rattle.mini_stmt.proofs.terms.+ending.Goals as goal

pub has_terminated-loop-at-init : goal.has_terminated-loop-at-init
has_terminated-loop-at-init t c = ap some_ends (from_first c.args.nodes.now)

pub has_terminated-returns-then-is_terminated : goal.has_terminated-returns-then-is_terminated
has_terminated-returns-then-is_terminated t c = ends_here c.args.nodes.now c.loop-at.at (omega arith) (sym (c.is_terminated.ensures ∙ ap is_terminated c.child.ensures.value) ∙ c.if-is_terminated.true) c.loop-at.invariant

pub has_terminated-loop-at-preserved : goal.has_terminated-loop-at-preserved
has_terminated-loop-at-preserved t c = ends_later c.args.nodes.now c.loop-at.at (omega arith) (sym (c.is_terminated.ensures ∙ ap is_terminated c.child.ensures.value) ∙ c.if-is_terminated.false) c.loop-at.invariant

pub has_terminated-returns : goal.has_terminated-returns
has_terminated-returns t c = ends_nowhere c.args.nodes.now c.loop-at.at (omega arith) c.loop-at.invariant
