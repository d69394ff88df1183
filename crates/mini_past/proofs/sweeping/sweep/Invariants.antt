use Rattle.mini_model.specs.Tree.{children}
use Rattle.mini_past.specs.LetPlaces.{ToldNowhere}
use Rattle.mini_past.specs.SubstitutePast.{Swept}
use Rattle.mini_past.proofs.sweeping.sweep.Given as goal

abbrev pub invariant-loop-at : goal.invariant-loop-at
invariant-loop-at g l = Swept (g.S.SteadyNames.sets l.fn.steady l.fn.body) (g.S.PastNames.lets l.fn.steady) l.tallies l.fn.outside l.fn.list l.list × ToldNowhere l.lets (children l.list)
