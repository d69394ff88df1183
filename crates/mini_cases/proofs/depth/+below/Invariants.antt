use Rattle.mini_cases.proofs.depth.+below.Given as goal

abbrev pub decreases-below : goal.decreases-below
decreases-below l = l.count
