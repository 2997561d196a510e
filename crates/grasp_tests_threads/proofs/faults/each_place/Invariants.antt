use Rattle.grasp_tests_threads.proofs.faults.each_place.Given as goal

abbrev pub ghosts-differs : goal.ghosts-differs
ghosts-differs g a = record { name = a.blank.name; parts = a.blank.parts }
