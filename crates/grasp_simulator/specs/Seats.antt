-- How the code stands for a node with its agent, and what a step of either promises.
use Rattle.std.specs.Prelude.{◌≡◌, ℕ, ◌+◌, Bool, true, false, not, List, [], ◌∷◌, Option, None, Some, option_map, option_to_list, slice_get, unwrap_or}
use Rattle.grasp_agent.specs.Calls.{next_call}
use Rattle.grasp_agent.specs.Replies.{want_reply, after_want, return_reply, after_return, after_settling, after_reply}
use Rattle.grasp_model_node.specs.Begin.{begin}
use Rattle.grasp_model_node.specs.Draining.{after_drain}
use Rattle.grasp_model_node.specs.Node.{NodeState}
use Rattle.grasp_core.specs.Stands.{NodeStands}
use Rattle.grasp_model_node.specs.Step.{Coming, IsComing, NodeStep}
use Rattle.grasp_types.specs.Prefix.{AddressBlock as Prefix}
use Rattle.grasp_types.specs.declared.address.Locator.{Locator}
use Rattle.grasp_types.specs.declared.call.Call.{Call}
use Rattle.grasp_types.specs.declared.reply.Reply.{Reply}
use Rattle.grasp_types.specs.declared.traffic.Input.{Input}
use Rattle.grasp_model_network.specs.EventSteps.{agent_input}
use Rattle.grasp_model_network.specs.Visits.{is_starved}
use Rattle.grasp_model_network.specs.Offers.{JustOffered, just_offered}
use Rattle.grasp_model_network.specs.Setting.{numbered}
use Rattle.grasp_model_network.specs.World.{Seat, last_life}
use Rattle.grasp_laws_node_stories.specs.Acceptances.{acceptances_of}
use Rattle.grasp_session.specs.Sessions.{stream_reply}
use Rattle.grasp_types.specs.declared.traffic.Input.TheVariants.{Api}
use Rattle.grasp_simulator.specs.declared.notes.Begun.{Begun}
use Rattle.grasp_simulator.specs.declared.seat.BegunOn.{BegunOn}
use Rattle.grasp_simulator.specs.declared.seat.OwnStep.{OwnStep}
use Rattle.grasp_simulator.specs.declared.seat.Seat.{Seat as SeatCode}

-- the code keeps what it needs of this node and its agent
pub record SeatStands (code : SeatCode) (s : Seat) : Type 0 where
  pub core : NodeStands code.core s.core
  pub agent : code.agent ≡ s.agent

-- the code keeps what it needs of this node and its agent, in the life of this number
pub record FirstStands (node : ℕ) (code : SeatCode) (s : Seat) : Type 0 where
  pub life : code.life ≡ node
  pub stands : SeatStands code s

-- Inside: the code keeps what it needs of these nodes and their agents, in lives that are numbered from this one on
abbrev pub AreFirstFrom : ℕ → List SeatCode → List Seat → Type 0
AreFirstFrom n [] [] = Unit {0}
AreFirstFrom n (code ∷ codes) [] = ⊥
AreFirstFrom n [] (s ∷ seats) = ⊥
AreFirstFrom n (code ∷ codes) (s ∷ seats) = FirstStands n code s × AreFirstFrom (n + 1) codes seats

abbrev pub AreFirst : List SeatCode → List Seat → Type 0
AreFirst codes seats = AreFirstFrom 1 codes seats

-- among these lives, and whose each of them is: the code keeps what it needs of this member's present one
pub record IsPresent (code : SeatCode) (seats : List Seat) (lives : List ℕ) (node : ℕ) : Type 0 where
  pub life : code.life ≡ last_life 1 lives node 1
  pub own : unwrap_or (numbered lives (last_life 1 lives node 1)) 0 ≡ node
  pub seat : Seat
  pub here : numbered seats (last_life 1 lives node 1) ≡ Some seat
  pub stands : SeatStands code seat

-- the code keeps what it needs of the present life of each member, in their order
abbrev pub SeatsStand : List SeatCode → List Seat → List ℕ → Type 0
SeatsStand codes seats lives = (i : ℕ) (code : SeatCode) → slice_get codes i ≡ Some code → IsPresent code seats lives (i + 1)

-- Inside: a node with its agent, and what comes with an input
pub record Sitting : Type 0 where
  pub seat : Seat
  pub coming : Coming

-- ---- a step of the node at its own reading

-- Inside: the code stands for the node, and this comes with the input once the step has begun
pub record SeatMeets (code : SeatCode) (i : Input) (x : Sitting) : Type 0 where
  pub stands : SeatStands code x.seat
  pub comes : IsComing (begin x.seat.core x.seat.core.reading) i x.coming

-- Inside: the code stands for a node that the step leads to with this reply
pub record SeatStepped (code : SeatCode) (i : Input) (x : Sitting) (r : Reply) : Type 0 where
  pub after : NodeState
  pub steps : NodeStep x.seat.core x.seat.core.reading i x.coming r after
  pub stands : SeatStands code (record x.seat { core = after })

-- Inside: the step is that of the agent's next call, there was memory for it, and the agent has taken the reply
pub record AgentStepped (code : SeatCode) (x : Sitting) (c : Call) (r : Reply) : Type 0 where
  pub calls : c ≡ next_call x.seat.agent
  pub after : NodeState
  pub steps : NodeStep x.seat.core x.seat.core.reading (agent_input x.seat.agent) x.coming r after
  pub fed : is_starved r ≡ false
  pub stands : SeatStands code (record x.seat { core = after; agent = after_reply x.seat.agent r })

-- Inside: the prefix that was just offered, and the stream of its session, at a node with these sessions
abbrev pub begun_on : NodeState → JustOffered → BegunOn
begun_on n j = record { prefix = j.prefix; stream = stream_reply n.sessions j.handle }

-- Inside: so the code tells it
abbrev pub stream_begun : NodeState → Begun → BegunOn
stream_begun n b = record { prefix = b.prefix; stream = stream_reply n.sessions b.handle }

-- Inside: the stream on which a call has accepted, where it was done
abbrev pub accepted_if : Bool → Option ℕ → Option ℕ
accepted_if true stream = stream
accepted_if false stream = None

-- Inside: the step is that of the agent's next call, of which it is told what the agent has just begun to offer and where it has accepted
pub record OwnStepped (code : SeatCode) (x : Sitting) (made : OwnStep) : Type 0 where
  pub step : AgentStepped code x made.call made.reply
  pub begun : made.begun ≡ option_map (begun_on step.after) (just_offered x.seat.agent (after_reply x.seat.agent made.reply))
  pub accepted : option_to_list made.accepted ≡ acceptances_of x.seat.core (agent_input x.seat.agent) made.reply

-- Inside: the step is that of another agent's call, of which it is told where it has accepted
pub record CallStepped (code : SeatCode) (asa : ℕ) (c : Call) (x : Sitting) (r : Reply) (accepted : Option ℕ) : Type 0 where
  pub step : SeatStepped code (Api asa c) x r
  pub accepts : option_to_list accepted ≡ acceptances_of x.seat.core (Api asa c) r

-- ---- a clock, a drain and a want

-- Inside: the node after a drain of nothing at this reading
abbrev pub clocked : Seat → ℕ → Seat
clocked s millis = record s { core = after_drain (begin s.core millis) 0 }

-- Inside: the node after a drain of so many outputs at its own reading
abbrev pub drained_seat : Seat → ℕ → Seat
drained_seat s max = record s { core = after_drain (begin s.core s.core.reading) max }

-- Inside: the agent after a want
abbrev pub wanted : Seat → ℕ → ℕ → Locator → Seat
wanted s length longest peer = record s { agent = after_want s.agent length longest peer (want_reply s.agent) }

-- Inside: the agent after a return
abbrev pub returning : Seat → Prefix → Locator → Seat
returning s prefix peer = record s { agent = after_return s.agent prefix peer (return_reply s.agent prefix) }

-- Inside: the agent after a settling
abbrev pub settled : Seat → Prefix → Seat
settled s prefix = record s { agent = after_settling s.agent prefix }

-- Inside: there is a live session, and it has no outcome
abbrev pub is_asked : Option (ℕ × Bool) → Bool
is_asked None = false
is_asked (Some x) = not x.1
