use Rattle.std.proofs.Common.{◌<◌, ◌≤◌, ◌+◌, ◌∙◌, sym, ap, arith}
use Rattle.std.specs.Prelude.{◌||◌}
use Rattle.mini_model.specs.Tree.{count}
use Rattle.mini_node.specs.Children.{rest_children}
use Rattle.mini_rows.specs.Past.{is_writer, any_write}
use Rattle.mini_rows.specs.Unused.{any_names}
use Rattle.mini_steady.proofs.Written.{by_writer, write_first, write_step, write_end}
use Rattle.mini_steady.proofs.writing.+writing.Goals as goal

pub any_write-loop-at-init : goal.any_write-loop-at-init
any_write-loop-at-init t c = write_first c.args.name.now c.args.nodes.now

pub any_write-returns-then-writes : goal.any_write-returns-then-writes
any_write-returns-then-writes t c =
    let inside : c.loop-at.at < count c.args.nodes.now = omega arith in
    sym (c.loop-at.invariant ∙ write_step c.args.name.now c.args.nodes.now c.loop-at.at c.child.result.now inside c.child.ensures.value ∙ ap (λ b. b || any_write c.args.name.now (rest_children (c.loop-at.at + 1) c.args.nodes.now)) (sym c.if-writes.ensures))

pub any_write-loop-at-preserved : goal.any_write-loop-at-preserved
any_write-loop-at-preserved t c =
    let inside : c.loop-at.at < count c.args.nodes.now = omega arith in
    c.loop-at.invariant ∙ write_step c.args.name.now c.args.nodes.now c.loop-at.at c.child.result.now inside c.child.ensures.value ∙ ap (λ b. b || any_write c.args.name.now (rest_children (c.loop-at.at + 1) c.args.nodes.now)) (sym c.if-writes.ensures)

pub any_write-returns : goal.any_write-returns
any_write-returns t c =
    let over : count c.args.nodes.now ≤ c.loop-at.at = omega arith in
    sym (c.loop-at.invariant ∙ write_end c.args.name.now c.args.nodes.now c.loop-at.at over)

pub writes-returns-then-is_writer : goal.writes-returns-then-is_writer
writes-returns-then-is_writer t c =
    c.is_mentioned_from.ensures ∙ ap (λ ts. any_names c.args.name.now (rest_children 0 ts)) c.children.ensures
    ∙ sym (by_writer c.args.name.now c.args.node.now c.is_own_write.result c.is_writer.result c.is_own_write.ensures c.if-is_own_write.false (c.is_writer.ensures ∙ ap is_writer c.shape.ensures) c.if-is_writer.true)
