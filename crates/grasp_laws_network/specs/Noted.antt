-- What a network notes at each event: the floods and searches that calls begin, the floods that they read, the handles that they give, and
-- the discoveries that are answered. It is said of the step's input, its reply and what it queues.
use Rattle.std.specs.Prelude.{◌≡◌, ℕ, Bool, List, [], ◌∷◌, ◌++◌, Option, Some, Contains}
use Rattle.grasp_asa.specs.Answers.{flags_registered}
use Rattle.grasp_model_node.specs.Begin.{begin}
use Rattle.grasp_model_node.specs.Draws.{next_session}
use Rattle.grasp_model_node.specs.Queue.{send}
use Rattle.grasp_model_node.specs.SessionCalls.{flags_or}
use Rattle.grasp_model_node.specs.Tests.{owned_flags}
use Rattle.grasp_types.specs.declared.address.Address.{Address}
use Rattle.grasp_types.specs.declared.address.Locator.{Locator}
use Rattle.grasp_types.specs.declared.call.Call.{Call}
use Rattle.grasp_types.specs.declared.call.Call.TheVariants as call
use Rattle.grasp_types.specs.declared.flood.FloodRead.{FloodRead}
use Rattle.grasp_types.specs.declared.message.Answer.TheVariants.{Locators}
use Rattle.grasp_types.specs.declared.message.Message.TheVariants.{Discovery, Response}
use Rattle.grasp_types.specs.declared.objective.Objective.{Objective}
use Rattle.grasp_types.specs.declared.reply.ApiAnswer.{ApiAnswer}
use Rattle.grasp_types.specs.declared.reply.ApiAnswer.TheVariants as answer
use Rattle.grasp_types.specs.declared.reply.Reply.TheVariants as reply
use Rattle.grasp_types.specs.declared.session.Handle.{Handle}
use Rattle.grasp_types.specs.declared.traffic.Input.TheVariants as input
use Rattle.grasp_model_network.specs.Events.{visit_of, after_event}
use Rattle.grasp_model_network.specs.Routes.{Route}
use Rattle.grasp_model_network.specs.Runs.{first_world}
use Rattle.grasp_model_network.specs.Sending.{gained}
use Rattle.grasp_model_network.specs.Setting.{Setting, numbered}
use Rattle.grasp_model_network.specs.Visits.{Visit, Choice}
use Rattle.grasp_model_network.specs.World.{FloodCall, SearchCall, DiscoveryAnswer, GivenHandle, WorldState, member_of}
use Rattle.grasp_model_network.specs.declared.event.Event.{Event}
use Rattle.grasp_model_network.specs.declared.event.Event.TheVariants as event

-- ---- what an event tells

-- the event's step is this visit, in which this agent makes this call, and the call is answered so
pub record IsAnsweredCall (s : Setting) (w : WorldState) (e : Event) (c : Choice) (v : Visit) (asa : ℕ) (made : Call) (a : ApiAnswer) : Type 0 where
  pub visits : visit_of s w e ≡ Some v
  pub calls : v.input ≡ input.Api asa made
  pub answers : c.reply ≡ reply.Api a

-- a call to flood is done at this node: one of this name, value and loop count, by an agent that has the name registered with these flags
pub record BeginsFlood (s : Setting) (w : WorldState) (e : Event) (c : Choice) (f : FloodCall) : Type 0 where
  pub visit : Visit
  pub asa : ℕ
  pub ttl : ℕ
  pub done : IsAnsweredCall s w e c visit asa (call.Flood f.name f.value ttl f.loops) answer.Done
  pub node : f.node ≡ visit.node
  pub flags : f.flags ≡ flags_or (owned_flags visit.seat.core asa f.name)

-- a call is answered with these floods, in this order
pub record ReadsFloods (s : Setting) (w : WorldState) (e : Event) (c : Choice) (reads : List FloodRead) : Type 0 where
  pub visit : Visit
  pub asa : ℕ
  pub made : Call
  pub told : IsAnsweredCall s w e c visit asa made (answer.Floods reads)

-- a call is answered that a search begins: in this life, at its node's address, under the session number that it draws next
pub record BeginsSearch (s : Setting) (w : WorldState) (e : Event) (c : Choice) (x : SearchCall) : Type 0 where
  pub visit : Visit
  pub asa : ℕ
  pub made : Call
  pub begun : IsAnsweredCall s w e c visit asa made answer.Searching
  pub node : x.node ≡ visit.node
  pub address : x.address ≡ visit.seat.core.plan.address
  pub session : x.session ≡ next_session (begin visit.seat.core visit.now)

-- the answer gives the handle of a session that the agent began, or of one that a peer began
abbrev pub HasHandle : Handle → ApiAnswer → Type 0
HasHandle h (answer.Started given) = h ≡ given
HasHandle h (answer.Incoming given from objective) = h ≡ given
HasHandle h _ = ⊥

-- a call is answered with this handle, in this life
pub record GivesHandle (s : Setting) (w : WorldState) (e : Event) (c : Choice) (g : GivenHandle) : Type 0 where
  pub visit : Visit
  pub asa : ℕ
  pub made : Call
  pub answer : ApiAnswer
  pub given : IsAnsweredCall s w e c visit asa made answer
  pub has : HasHandle g.handle answer
  pub node : g.node ≡ visit.node

-- a discovery of this objective is delivered to this member, and its step queues a response that tells locators and is no divert. The node
-- has the name registered with these flags, or not at all
pub record AnswersDiscovery (s : Setting) (w : WorldState) (e : Event) (c : Choice) (a : DiscoveryAnswer) : Type 0 where
  pub visit : Visit
  pub visits : visit_of s w e ≡ Some visit
  pub index : ℕ
  pub hold : Bool
  pub delivers : e ≡ event.Datagram index hold
  pub route : Route
  pub session : ℕ
  pub initiator : Address
  pub discovery : numbered w.datagrams index ≡ Some (record { route = route; message = Discovery session initiator a.objective })
  pub stream : ℕ
  pub number : ℕ
  pub from : Address
  pub ttl : ℕ
  pub locators : List Locator
  pub about : Option Objective
  pub response : Contains (gained visit.seat.core c.after) (send stream (Response number from ttl (Locators locators) about))
  pub node : a.node ≡ member_of w visit.node
  pub flags : a.flags ≡ flags_registered visit.seat.core.registrations a.objective.name

-- ---- what is noted of it

-- what is told comes behind what was there before; where nothing is told, all stays as it was
pub data Grows {A : Type 0} (Tells : List A → Type 0) (before after : List A) : Type 0 where
  grown : (more : List A) → Tells more → after ≡ before ++ more → Grows Tells before after
  kept : ((more : List A) → ¬ Tells more) → after ≡ before → Grows Tells before after

-- one is told, and no more
abbrev pub One : {A : Type 0} → (A → Type 0) → List A → Type 0
One {A} Tells more = (x : A) × Tells x × (more ≡ x ∷ [])

-- the second network is the first one with what the event tells: each time exactly that, once, and nothing else
pub record Notes (s : Setting) (w : WorldState) (e : Event) (c : Choice) (x : WorldState) : Type 0 where
  pub flood_calls : Grows (One (BeginsFlood s w e c)) w.flood_calls x.flood_calls
  pub floods_read : Grows (ReadsFloods s w e c) w.floods_read x.floods_read
  pub searches : Grows (One (BeginsSearch s w e c)) w.searches x.searches
  pub answers : Grows (One (AnswersDiscovery s w e c)) w.answers x.answers
  pub handles : Grows (One (GivesHandle s w e c)) w.handles x.handles

-- nothing is noted yet
pub record IsUnnoted (w : WorldState) : Type 0 where
  pub flood_calls : w.flood_calls ≡ []
  pub floods_read : w.floods_read ≡ []
  pub searches : w.searches ≡ []
  pub answers : w.answers ≡ []
  pub handles : w.handles ≡ []

pub record RepliesAreNoted : Type 0 where
  pub first : (s : Setting) → IsUnnoted (first_world s)
  -- of every network and every event, however its step came out
  pub each : (s : Setting) (w : WorldState) (e : Event) (c : Choice) → Notes s w e c (after_event s w e c)
