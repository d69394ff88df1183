use Rattle.mini_texts.proofs.printing.tree_of.Goals as goal

pub returns-in-Ok-clause-tree : goal.returns-in-Ok-clause-tree
returns-in-Ok-clause-tree c = (c.in-Ok.numbered.numbers, rw c.program_in.ensures at c.in-Ok.ensures.tree)
