-- What happens at a node that runs, and what becomes of the node and of its agent of prefixes.
use Rattle.std.specs.Prelude.{◌≡◌, ℕ, Bool, true, false, List, [], ◌∷◌, if◌then◌else◌}
use Rattle.grasp_agent.specs.Replies.{after_reply, after_want, want_reply}
use Rattle.grasp_agent.specs.States.{AgentState}
use Rattle.grasp_model_network.specs.EventSteps.{agent_input}
use Rattle.grasp_model_network.specs.Sending.{seat_with}
use Rattle.grasp_model_network.specs.Visits.{Choice, is_starved}
use Rattle.grasp_model_network.specs.World.{Seat}
use Rattle.grasp_model_node.specs.Node.{NodeState}
use Rattle.grasp_model_node.specs.Step.{NodeStep}
use Rattle.grasp_types.specs.declared.address.Locator.{Locator}
use Rattle.grasp_types.specs.declared.traffic.Input.{Input}

-- what the node took: whether its agent of prefixes called, the clock reading, the input, and how its step came out
pub record Taken : Type 0 where
  pub own : Bool
  pub now : ℕ
  pub input : Input
  pub choice : Choice

-- the node took something; or its agent was given a want: a prefix of this length, or of one up to the longest, from this peer
pub data Act : Type 0 where
  took : Taken → Act
  wanted : ℕ → ℕ → Locator → Act

-- the node, with this agent, takes this: it is a step of the node, there was memory for it, and a call of the agent is the one that it makes next
pub record IsTaken (n : NodeState) (a : AgentState) (x : Taken) : Type 0 where
  pub steps : NodeStep n x.now x.input x.choice.coming x.choice.reply x.choice.after
  pub fed : is_starved x.choice.reply ≡ false
  pub called : x.own ≡ true → x.input ≡ agent_input a

-- the agent takes the reply to its own call
abbrev pub agent_taking : AgentState → Taken → AgentState
agent_taking a x = if x.own then after_reply a x.choice.reply else a

-- the agent takes a want, unless one isn't finished or its pool has no room
abbrev pub agent_wanting : AgentState → ℕ → ℕ → Locator → AgentState
agent_wanting a length longest peer = after_want a length longest peer (want_reply a)

-- these may happen at the node with this agent, one after the other
abbrev pub AreActs : NodeState → AgentState → List Act → Type 0
AreActs n a [] = Unit {0}
AreActs n a (took x ∷ xs) = IsTaken n a x × AreActs x.choice.after (agent_taking a x) xs
AreActs n a (wanted length longest peer ∷ xs) = AreActs n (agent_wanting a length longest peer) xs

-- the node and its agent after them
abbrev pub node_after : NodeState → List Act → NodeState
node_after n [] = n
node_after n (took x ∷ xs) = node_after x.choice.after xs
node_after n (wanted length longest peer ∷ xs) = node_after n xs

abbrev pub agent_after : AgentState → List Act → AgentState
agent_after a [] = a
agent_after a (took x ∷ xs) = agent_after (agent_taking a x) xs
agent_after a (wanted length longest peer ∷ xs) = agent_after (agent_wanting a length longest peer) xs

abbrev pub seat_after : Seat → List Act → Seat
seat_after seat xs = seat_with (node_after seat.core xs) (agent_after seat.agent xs)
