use Rattle.std.proofs.Common.{◌≡◌, ◌++◌, take}
use Rattle.grasp_service.specs.States.{events_told}
use Rattle.grasp_service.proofs.round.add_events.Given as goal

-- the lines of the events so far were added
abbrev pub invariant-loop-event : goal.invariant-loop-event
invariant-loop-event l = l.lines ≡ l.initial.lines ++ events_told l.seats (take l.event-index l.events)
