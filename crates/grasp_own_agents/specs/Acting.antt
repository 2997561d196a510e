-- The calls of a node's agents: each makes its next call, as a caller of its own, and takes the reply.
use Rattle.std.specs.Prelude.{◌≡◌, ℕ, List, [], ◌∷◌, length}
use Rattle.grasp_agent.specs.declared.agent.Agent.{Ghosts}
use Rattle.grasp_core.specs.declared.node_core.NodeCore.{NodeCore}
use Rattle.grasp_service_visits.specs.Each.{each_after, each_adds}
use Rattle.grasp_shared.specs.Adding.{Adds}
use Rattle.grasp_shared.specs.Calls.{GoesOn, answered}
use Rattle.grasp_shared.specs.History.{Entry, History}
use Rattle.grasp_types.specs.declared.reply.Reply.{Reply}
use Rattle.grasp_types.specs.declared.traffic.Input.{Input}
use Rattle.grasp_types.specs.declared.traffic.Input.TheVariants as input

module _ {A : Type 0} (agent : Ghosts A) where
  -- the input that an agent's next call is
  abbrev pub agent_input : A → Input
  agent_input a = input.Api (agent.number a) (agent.next_call a)

  -- its call as this caller, with the reading 0, and the node's reply
  abbrev pub agent_calls : ℕ → A → Reply → History
  agent_calls caller a r = record { caller = caller; now = 0; input = agent_input a; reply = r } ∷ []

  -- an agent made its next call, and took the reply
  pub record Acts (old : NodeCore) (a : A) (new : NodeCore) (b : A) : Type 0 where
    pub reply : Reply
    pub went : GoesOn old (answered 0 (agent_input a) reply) new
    pub after : b ≡ agent.after_reply a reply

  -- the calls of all, one after the other; the first agent is caller 1
  abbrev pub all_agent_calls : List A → List Reply → History
  all_agent_calls agents replies = each_adds agent_calls 1 agents replies

  -- the agents behind them
  abbrev pub all_after : List A → List Reply → List A
  all_after agents replies = each_after agent.after_reply agents replies

  -- Inside: so many agents made their calls
  pub record ActsSome (count : ℕ) (old : NodeCore) (agents : List A) (new : NodeCore) (others : List A) : Type 0 where
    pub replies : List Reply
    pub count_is : length replies ≡ count
    pub adds : Adds old (all_agent_calls agents replies) new
    pub after : others ≡ all_after agents replies

  -- each agent made its call, in order
  pub record ActsAll (old : NodeCore) (agents : List A) (new : NodeCore) (others : List A) : Type 0 where
    pub replies : List Reply
    pub count : length replies ≡ length agents
    pub adds : Adds old (all_agent_calls agents replies) new
    pub after : others ≡ all_after agents replies
