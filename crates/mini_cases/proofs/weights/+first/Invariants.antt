use Rattle.mini_cases.proofs.weights.+first.Given as goal

abbrev pub decreases-first : goal.decreases-first
decreases-first l = l.steps
