use Rattle.mini_context.proofs.context.TraverseCtx.replace_expression.Given as goal

abbrev pub ghosts-count_out : goal.ghosts-count_out
ghosts-count_out a = record { name = a.blank.name; parts = a.blank.parts }
