use Rattle.grasp_node_main.specs.Sharing.{Splits}
use Rattle.grasp_node_main.proofs.passes.split_all.Given as goal

-- the agents so far were given passes
abbrev pub invariant-loop-seat : goal.invariant-loop-seat
invariant-loop-seat l = Splits l.seat-index l.shared l.initial.root l.initial.seats l.root l.seats
