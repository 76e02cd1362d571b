use Rattle.lane_tests.proofs.turns.turns_of.Given as goal

abbrev pub ghosts-turns : goal.ghosts-turns
ghosts-turns g a = record { name = a.blank.name; parts = a.blank.parts }
