use Rattle.mini_cases.proofs.nested.+nested_blocks.Given as goal

abbrev pub decreases-nested_blocks : goal.decreases-nested_blocks
decreases-nested_blocks l = l.count
