use Rattle.grasp_wire.proofs.cutter.Cutter.next.Given as goal

abbrev pub ghosts-next_in : goal.ghosts-next_in
ghosts-next_in a = record { name = a.blank.name; parts = a.blank.parts }
