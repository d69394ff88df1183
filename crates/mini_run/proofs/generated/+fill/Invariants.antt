use Rattle.mini_run.proofs.generated.+fill.Given as goal

abbrev pub decreases-fill : goal.decreases-fill
decreases-fill l = l.more
