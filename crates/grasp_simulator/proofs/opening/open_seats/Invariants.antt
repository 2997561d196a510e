use Rattle.std.proofs.Common.{map}
use Rattle.grasp_model_network.specs.Openings.{first_seat}
use Rattle.grasp_simulator.specs.Seats.{AreFirst}
use Rattle.grasp_model_network.specs.Setting.{numbers_from, script_member}
use Rattle.grasp_simulator.proofs.opening.open_seats.Given as goal

-- those before this one
abbrev pub invariant-loop-before : goal.invariant-loop-before
invariant-loop-before l = AreFirst l.seats.items (map first_seat (map (script_member l.plan) (numbers_from 1 l.before)))
