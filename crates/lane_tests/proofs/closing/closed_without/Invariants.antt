use Rattle.lane_tests.proofs.closing.closed_without.Given as goal

abbrev pub ghosts-close_without : goal.ghosts-close_without
ghosts-close_without g a = record { name = a.blank.name; parts = a.blank.parts }
