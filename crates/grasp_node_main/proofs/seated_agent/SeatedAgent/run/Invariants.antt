use Rattle.grasp_node_main.specs.Sharing.{SeatGoes}
use Rattle.grasp_node_main.proofs.seated_agent.SeatedAgent.run.Given as goal

-- the agent had so many turns
abbrev pub invariant-loop-turn : goal.invariant-loop-turn
invariant-loop-turn g l = SeatGoes l.shared l.turn l.initial.self l.self
