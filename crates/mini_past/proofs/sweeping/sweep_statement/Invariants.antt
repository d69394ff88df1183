use Rattle.std.proofs.Common.{◌≡◌, ℕ, ◌+◌}
use Rattle.mini_past.specs.LetPlaces.{ToldAt}
use Rattle.mini_past.specs.SubstitutePast.{Swept}
use Rattle.mini_past.proofs.sweeping.sweep_statement.Given as goal

abbrev pub invariant-loop-passed : goal.invariant-loop-passed
invariant-loop-passed g l =
    Swept (g.S.SteadyNames.sets l.fn.steady l.fn.body) (g.S.PastNames.lets l.fn.steady) l.fn.tallies l.fn.outside l.fn.list l.list × ((n : ℕ) → n + l.passed ≡ l.count → ToldAt l.lets l.list l.fn.at n)
