use Rattle.std.proofs.Common.{◌∙◌, ap, sym, arith}
use Rattle.mini_node.specs.Walks.{from_first}
use Rattle.mini_rows.specs.DeadLexicals.{gives, all_give}
use Rattle.mini_stmt.proofs.Fading.{giving_stops, giving_goes_on, giving_ends}
use Rattle.mini_stmt.proofs.rewrites.fading.+giving.Goals as goal

pub all_give-loop-at-init : goal.all_give-loop-at-init
all_give-loop-at-init t c = ap all_give (from_first c.args.nodes.now)

pub all_give-returns-then-not-gives : goal.all_give-returns-then-not-gives
all_give-returns-then-not-gives t c = giving_stops c.args.nodes.now c.loop-at.at (omega arith) (sym (c.gives.ensures ∙ ap gives c.child.ensures.value) ∙ c.if-not-gives.true) c.loop-at.invariant

pub all_give-loop-at-preserved : goal.all_give-loop-at-preserved
all_give-loop-at-preserved t c = giving_goes_on c.args.nodes.now c.loop-at.at (omega arith) (sym (c.gives.ensures ∙ ap gives c.child.ensures.value) ∙ c.if-not-gives.false) c.loop-at.invariant

pub all_give-returns : goal.all_give-returns
all_give-returns t c = giving_ends c.args.nodes.now c.loop-at.at (omega arith) c.loop-at.invariant
