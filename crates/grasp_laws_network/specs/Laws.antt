-- What holds of each event.
use Rattle.std.specs.Prelude.{◌≡◌, ◌≢◌, ℕ, Bool, true, false, List, [], length, All, None, Some}
use Rattle.grasp_agent.specs.Calls.{objective_name}
use Rattle.grasp_agent.specs.declared.stage.Stage.TheVariants.{Serving}
use Rattle.grasp_asa.specs.Answers.{flags_registered, listener_of}
use Rattle.grasp_model_node.specs.Begin.{begin}
use Rattle.grasp_model_node.specs.Draining.{drained, after_drain}
use Rattle.grasp_model_node.specs.Node.{NodeState}
use Rattle.grasp_model_node.specs.Plan.{is_bad_plan}
use Rattle.grasp_model_node.specs.Queue.{Queued}
use Rattle.grasp_model_node.specs.Step.{Coming, NodeStep}
use Rattle.grasp_model_node.specs.declared.plan.NodePlan.{NodePlan}
use Rattle.grasp_pool.specs.Answers.{IsOpened}
use Rattle.grasp_pool.specs.Functions.{pool_of}
use Rattle.grasp_pool.specs.Holdings.{Holding}
use Rattle.grasp_types.specs.declared.call.Call.{Call}
use Rattle.grasp_types.specs.declared.reply.ApiAnswer.{ApiAnswer}
use Rattle.grasp_types.specs.declared.reply.ApiAnswer.TheVariants as answer
use Rattle.grasp_types.specs.declared.reply.Reply.TheVariants.{Api, Outputs}
use Rattle.grasp_types.specs.declared.traffic.Input.TheVariants.{Drain}
use Rattle.grasp_model_network.specs.EventSteps.{agent_input}
use Rattle.grasp_model_network.specs.Events.{visit_of, after_event}
use Rattle.grasp_model_network.specs.GoodSetting.{IsLine, IsGoodSetting}
use Rattle.grasp_model_network.specs.Plans.{IsNode, IsGoodPlan}
use Rattle.grasp_model_network.specs.Reports.{report_of}
use Rattle.grasp_model_network.specs.Routes.{Route, route_of}
use Rattle.grasp_model_network.specs.Openings.{fresh_seat, answered_seat, opened_seat}
use Rattle.grasp_model_network.specs.Sending as network
use Rattle.grasp_model_network.specs.Setting.{Setting, line_of, link_of, script_node, script_roots, script_setting}
use Rattle.grasp_model_network.specs.Visits.{Visit, Choice}
use Rattle.grasp_model_network.specs.World.{Seat, WorldState, seat_at}
use Rattle.grasp_model_network.specs.declared.event.Event.{Event}
use Rattle.grasp_model_network.specs.declared.event.Event.TheVariants as event
use Rattle.grasp_model_network.specs.declared.plan.WorldPlan.{WorldPlan}
use Rattle.grasp_model_network.specs.declared.report.Report.TheVariants.{Nothing}

-- the network after so many outputs of a node were sent, as a drain of 256 sends them
abbrev pub after_drain_event : Setting → WorldState → ℕ → WorldState
after_drain_event s w node = network.drained s w node 256

-- the step of the node that the agent's next call makes at reading 0 may be answered so
abbrev pub IsAnswered : Seat → Coming → ApiAnswer → Type 0
IsAnswered seat x a = NodeStep seat.core 0 (agent_input seat.agent) x (Api a) (answered_seat seat a).core

-- nothing changes, and nothing is reported
pub record IsNothing (s : Setting) (w : WorldState) (e : Event) (c : Choice) : Type 0 where
  pub world : after_event s w e c ≡ w
  pub report : report_of s w e c ≡ Nothing

-- an event that names a datagram, a stream or a side that isn't there, or not any more, comes to nothing
pub record NothingComesOfNothing : Type 0 where
  pub datagrams : (s : Setting) (w : WorldState) (index : ℕ) (hold : Bool) (c : Choice) → visit_of s w (event.Datagram index hold) ≡ None
      → IsNothing s w (event.Datagram index hold) c
  pub arrivals : (s : Setting) (w : WorldState) (stream : ℕ) (hold : Bool) (c : Choice) → visit_of s w (event.Arrive stream hold) ≡ None
      → IsNothing s w (event.Arrive stream hold) c
  pub pieces : (s : Setting) (w : WorldState) (stream count : ℕ) (far hold : Bool) (c : Choice) → visit_of s w (event.Bytes stream far count hold) ≡ None
      → IsNothing s w (event.Bytes stream far count hold) c
  pub cuts : (s : Setting) (w : WorldState) (stream : ℕ) (far hold : Bool) (c : Choice) → visit_of s w (event.Cut stream far hold) ≡ None
      → IsNothing s w (event.Cut stream far hold) c

-- a drain behind an event is a step of its node, at the node's own reading, that gives outputs
abbrev pub DrainsAreSteps : Type 0
DrainsAreSteps = (n : NodeState) (max : ℕ) (x : Coming) → NodeStep n n.reading (Drain max) x (Outputs (drained (begin n n.reading) max)) (after_drain (begin n n.reading) max)

-- an event that isn't held does what the held one does, and then sends outputs of its node as a drain of 256 does
pub record HeldThenDrained : Type 0 where
  pub agents : (s : Setting) (w : WorldState) (node : ℕ) (c : Choice) (v : Visit) → visit_of s w (event.Agent node true) ≡ Some v
      → after_event s w (event.Agent node false) c ≡ after_drain_event s (after_event s w (event.Agent node true) c) v.node
  pub calls : (s : Setting) (w : WorldState) (node asa : ℕ) (call : Call) (c : Choice) (v : Visit) → visit_of s w (event.Api node asa call true) ≡ Some v
      → after_event s w (event.Api node asa call false) c ≡ after_drain_event s (after_event s w (event.Api node asa call true) c) v.node
  pub datagrams : (s : Setting) (w : WorldState) (index : ℕ) (c : Choice) (v : Visit) → visit_of s w (event.Datagram index true) ≡ Some v
      → after_event s w (event.Datagram index false) c ≡ after_drain_event s (after_event s w (event.Datagram index true) c) v.node
  pub arrivals : (s : Setting) (w : WorldState) (stream : ℕ) (c : Choice) (v : Visit) → visit_of s w (event.Arrive stream true) ≡ Some v
      → after_event s w (event.Arrive stream false) c ≡ after_drain_event s (after_event s w (event.Arrive stream true) c) v.node
  pub pieces : (s : Setting) (w : WorldState) (stream count : ℕ) (far : Bool) (c : Choice) (v : Visit) → visit_of s w (event.Bytes stream far count true) ≡ Some v
      → after_event s w (event.Bytes stream far count false) c ≡ after_drain_event s (after_event s w (event.Bytes stream far count true) c) v.node
  pub cuts : (s : Setting) (w : WorldState) (stream : ℕ) (far : Bool) (c : Choice) (v : Visit) → visit_of s w (event.Cut stream far true) ≡ Some v
      → after_event s w (event.Cut stream far false) c ≡ after_drain_event s (after_event s w (event.Cut stream far true) c) v.node
  -- which is what the drain event does
  pub drains : (s : Setting) (w : WorldState) (node max : ℕ) (c : Choice) (v : Visit) → visit_of s w (event.Drain node max) ≡ Some v
      → after_event s w (event.Drain node max) c ≡ network.drained s w v.node max

-- each answer to an opening call of an agent with this pool comes of a step at reading 0. The agent then serves as agent 1, has this pool,
-- and listens for its objective with the flags F_DISC and F_NEG (RFC 8992, section 5.1)
pub record OpeningsAreSteps (plan : NodePlan) (h : Holding) (x : Coming) : Type 0 where
  pub registers : IsAnswered (fresh_seat plan h) x (answer.Asa 1)
  pub declares : IsAnswered (answered_seat (fresh_seat plan h) (answer.Asa 1)) x answer.Done
  pub listens : IsAnswered (answered_seat (answered_seat (fresh_seat plan h) (answer.Asa 1)) answer.Done) x answer.NotYet
  pub number : (opened_seat plan h).agent.asa ≡ 1
  pub serves : (opened_seat plan h).agent.stage ≡ Serving
  pub pool : (opened_seat plan h).agent.pool ≡ h
  pub flags : flags_registered (opened_seat plan h).core.registrations objective_name ≡ Some 3
  pub listener : listener_of (opened_seat plan h).core.registrations objective_name ≡ Some 1
  pub quiet : (opened_seat plan h).core.queue ≡ []

-- so it is in each life that begins
abbrev pub WorldsBegin : Type 0
WorldsBegin = (plan : NodePlan) (h : Holding) (x : Coming) → OpeningsAreSteps plan h x

-- the line that is a node's link of some number has that number among the node's links
abbrev pub LinksAreFound : Type 0
LinksAreFound = (node link place : ℕ) (lines : List (List ℕ)) → line_of node lines link ≡ Some place → link_of node lines place ≡ link

-- what is sent changes no node
abbrev pub SendingKeepsNodes : Type 0
SendingKeepsNodes = (s : Setting) (w : WorldState) (node : ℕ) (queued : List Queued) (streams : List ℕ)
    → (network.handed_over s w node queued streams).seats ≡ w.seats

-- each node of a good plan of a script is one that can be opened
abbrev pub ScriptNodesOpen : Type 0
ScriptNodesOpen = (p : WorldPlan) (k : ℕ) → IsGoodPlan p → IsNode p.nodes k → is_bad_plan (script_node p k) ≡ false

-- the roots of each node of a good plan of a script open a pool
abbrev pub ScriptPoolsOpen : Type 0
ScriptPoolsOpen = (p : WorldPlan) (k : ℕ) → IsGoodPlan p → IsOpened (script_roots p.roots k) (pool_of (script_roots p.roots k))

-- a good plan of a script has a good setting
abbrev pub ScriptsAreGood : Type 0
ScriptsAreGood = (p : WorldPlan) → IsGoodPlan p → IsGoodSetting (script_setting p)

-- an event changes no node but the one that makes its step
abbrev pub OthersStay : Type 0
OthersStay = (s : Setting) (w : WorldState) (e : Event) (c : Choice) (v : Visit) (node : ℕ) → visit_of s w e ≡ Some v → node ≢ v.node
    → seat_at (after_event s w e c) node ≡ seat_at w node

-- an answer goes back along the way on which a datagram came: from its receiver, to the neighbour there from whom it came, it is the
-- way to the sender, where it comes from the neighbour to whom it was sent
abbrev pub RoutesReturn : Type 0
RoutesReturn = (s : Setting) (sender link to : ℕ) (r : Route) → All (IsLine (length s.members)) s.lines → route_of s sender link to ≡ Some r
    → route_of s r.receiver r.link r.from ≡ Some (record { receiver = sender; link = link; from = to })
