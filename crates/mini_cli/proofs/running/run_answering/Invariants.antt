use Rattle.mini_cli.proofs.running.run_answering.Given as goal

abbrev pub ghosts-read_input : goal.ghosts-read_input
ghosts-read_input g a = record { name = a.blank.name; parts = a.blank.parts }
