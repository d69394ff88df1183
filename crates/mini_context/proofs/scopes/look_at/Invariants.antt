use Rattle.mini_context.proofs.scopes.look_at.Given as goal

abbrev pub ghosts-own_counts : goal.ghosts-own_counts
ghosts-own_counts a = record { name = a.blank.name; parts = a.blank.parts }
