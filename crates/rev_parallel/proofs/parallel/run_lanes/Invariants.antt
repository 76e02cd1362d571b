use Rattle.rev_parallel.proofs.parallel.run_lanes.Given as goal

abbrev pub ghosts-run_under : goal.ghosts-run_under
ghosts-run_under g a = record { name = a.blank.name; parts = a.blank.parts }
