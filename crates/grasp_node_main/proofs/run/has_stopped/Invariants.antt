use Rattle.std.proofs.Common.{◌≡◌, ℕ, ◌<◌, false, slice_get, Some}
use Rattle.grasp_node_main.specs.declared.seated_agent.SeatedAgent.{SeatedAgent}
use Rattle.grasp_node_main.proofs.run.has_stopped.Given as goal

-- none of the agents so far has stopped
abbrev pub invariant-loop-seat : goal.invariant-loop-seat
invariant-loop-seat l = (place : ℕ) (s : SeatedAgent) → place < l.seat-index → slice_get l.seat-items place ≡ Some s → s.stopped ≡ false
