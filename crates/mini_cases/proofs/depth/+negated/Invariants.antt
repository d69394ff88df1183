use Rattle.mini_cases.proofs.depth.+negated.Given as goal

abbrev pub decreases-negated : goal.decreases-negated
decreases-negated l = l.count
