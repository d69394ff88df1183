use Rattle.mini_peephole.proofs.running.run_read.Given as goal

abbrev pub ghosts-read_input : goal.ghosts-read_input
ghosts-read_input g a = record { name = a.blank.name; parts = a.blank.parts }
