-- A node that ran in one loop.
use Rattle.std.specs.List.{AllByRecursion}
use Rattle.std.specs.Prelude.{◌≡◌, ◌≤◌, ◌⊎◌, ℕ, false, List, length, map, slice_get, Option, None, Some, Result, Ok, Err}
use Rattle.grasp_cbor.specs.declared.memory.OutOfMemory.{OutOfMemory}
use Rattle.grasp_types.specs.declared.reply.Reply.{Reply}
use Rattle.grasp_model_node.specs.Node.{NodeState, first_node}
use Rattle.grasp_node_main.specs.Crew.{crew_of, AgentsMade, AllMade, crew_after}
use Rattle.grasp_shared.specs.History.{History, IsLegalHistory, own_calls}
use Rattle.grasp_node_main.specs.Openings.{openings}
use Rattle.grasp_node_main.specs.Tells.{Told, TellsRun}
use Rattle.grasp_node_main.specs.Turns.{Turn, loop_calls, NeverFall}
use Rattle.grasp_node_main.specs.declared.daemon.Daemon.{Daemon}
use Rattle.grasp_node_main.specs.declared.plan.DaemonPlan.{DaemonPlan}
use Rattle.grasp_node_main.specs.declared.seated_agent.SeatedAgent.{SeatedAgent}
use Rattle.grasp_node_main.specs.declared.worker.Worker.{Worker}

-- the agents, where they are told, are as they are after their own calls, of which each made one in each turn
abbrev pub EndsAs : DaemonPlan → History → Option (List Worker) → Type 0
EndsAs plan history None = Unit {0}
EndsAs plan history (Some workers) = AllMade (crew_of plan) history plan.turns × (workers ≡ crew_after 1 (crew_of plan) history)

-- The node of the plan was opened and made all its turns. Its history begins with the opening calls, before which nothing came in
-- and no other agent called. Of what follows, which is legal too, each entry is a call of the loop or of an agent. The loop's own
-- calls are those of the turns and the last drain; and what the links and the clock told before and tell afterwards is that of these
-- turns, whose readings never fall. Each agent's own calls are the first that it makes once the node is opened, at most one in each turn.
pub record Ran (plan : DaemonPlan) (old new : Told) (workers : Option (List Worker)) : Type 0 where
  pub opened : NodeState
  pub opening : IsLegalHistory (first_node plan.node) openings opened
  pub history : History
  pub to : NodeState
  pub turns : List Turn
  pub last : Reply
  pub legal : IsLegalHistory opened history to
  pub callers : AllByRecursion (λ e. e.caller ≤ length (crew_of plan)) history
  pub count : length turns ≡ plan.turns
  pub loop : own_calls 0 history ≡ loop_calls turns last
  pub tells : TellsRun plan.wait old turns last new
  pub rising : NeverFall 0 turns
  pub agents : AgentsMade (crew_of plan) history plan.turns
  pub ends : EndsAs plan history workers

-- the agents of a node
abbrev pub workers_of : List SeatedAgent → List Worker
workers_of seats = map (λ s. s.worker) seats

-- Inside: none of them has stopped for want of memory
abbrev pub AllGoing : List SeatedAgent → Type 0
AllGoing seats = (place : ℕ) (s : SeatedAgent) → slice_get seats place ≡ Some s → s.stopped ≡ false

-- the node ran, and its agents are now so; or memory was wanted, before the first turn, where nothing is touched, or later
abbrev pub RunsNode : Type 0 → DaemonPlan → Told → Result Daemon OutOfMemory → Told → Type 0
RunsNode untouched plan old (Ok d) new = Ran plan old new (Some (workers_of d.seats.items))
RunsNode untouched plan old (Err fault) new = untouched ⊎ Ran plan old new None
