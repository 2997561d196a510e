use Rattle.grasp_node_main.specs.Sharing.{Joins}
use Rattle.grasp_node_main.proofs.passes.join_all.Given as goal

-- the agents so far gave theirs back
abbrev pub invariant-loop-seat : goal.invariant-loop-seat
invariant-loop-seat l = Joins l.seat-index l.shared l.initial.root l.initial.seats l.root l.seats
