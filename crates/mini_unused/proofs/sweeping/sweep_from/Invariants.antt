use Rattle.mini_unused.specs.RemoveUnusedDeclaration.{allowed, open_in}
use Rattle.mini_unused.specs.Sweep.{Swept}
use Rattle.mini_unused.proofs.sweeping.sweep_from.Given as goal

abbrev pub invariant-loop-at : goal.invariant-loop-at
invariant-loop-at l = Swept (open_in l.fn.outside (allowed l.fn.context)) l.fn.tallies l.fn.outside l.fn.list l.list
