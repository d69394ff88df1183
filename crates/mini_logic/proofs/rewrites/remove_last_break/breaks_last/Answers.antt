use Rattle.std.proofs.Common.{◌-◌, ◌∙◌, sym, ap, arith}
use Rattle.mini_logic.specs.LastBreak.{breaks}
use Rattle.mini_logic.proofs.LastContinue.{last_at}
use Rattle.mini_logic.proofs.LastBreak.{none_breaks}
use Rattle.mini_logic.proofs.rewrites.remove_last_break.breaks_last.Goals as goal

pub returns-then-count-eq0 : goal.returns-then-count-eq0
returns-then-count-eq0 c = sym (none_breaks c.args.statements.now (sym c.len-count.ensures ∙ c.if-count-eq0.true))

pub returns : goal.returns
returns c = c.breaks.ensures ∙ ap breaks (c.child.ensures.value ∙ last_at c.args.statements.now (c.len-count.result - 1) (grind (arith, c.len-count.ensures, c.if-count-eq0.false)))
