use Rattle.std.proofs.Common.{◌∙◌, arith}
use Rattle.mini_replay.proofs.Indices.{none_before, one_more, all_before}
use Rattle.mini_replay.proofs.widths.+widths.Goals as goal

pub widths_of-loop-at-init : goal.widths_of-loop-at-init
widths_of-loop-at-init t c = none_before c.args.nodes.now

pub widths_of-loop-at-preserved : goal.widths_of-loop-at-preserved
widths_of-loop-at-preserved t c =
    one_more c.args.nodes.now c.loop-at.at c.loop-at.total c.in_ok-width.width c.in_ok-total.total c.child.result.now (omega arith) c.child.ensures.value c.in_ok-width.ensures c.in_ok-total.ensures c.loop-at.invariant

pub widths_of-returns : goal.widths_of-returns
widths_of-returns t c = c.loop-at.invariant ∙ all_before c.args.nodes.now c.loop-at.at (omega arith)
