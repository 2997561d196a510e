use Rattle.std.proofs.Common.{◌≡◌, ◌++◌, map, take}
use Rattle.grasp_node_main.specs.Crew.{readers_from}
use Rattle.grasp_node_main.specs.Seats.{first_seat}
use Rattle.grasp_node_main.proofs.opening.add_readers.Given as goal

-- the readers so far were added
abbrev pub invariant-loop-place : goal.invariant-loop-place
invariant-loop-place l = l.seats.items ≡ l.initial.seats.items ++ map first_seat (readers_from 1 (take l.place l.readers))
