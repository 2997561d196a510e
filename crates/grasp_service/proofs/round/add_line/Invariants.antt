use Rattle.std.proofs.Common.{◌≡◌, ◌++◌, take}
use Rattle.grasp_service.specs.States.{event_told}
use Rattle.grasp_service.proofs.round.add_line.Given as goal

-- the line was added for the seats so far that hear of events
abbrev pub invariant-loop-seat : goal.invariant-loop-seat
invariant-loop-seat l = l.lines ≡ l.initial.lines ++ event_told (take l.seat-index l.seats) l.event
