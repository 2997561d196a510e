-- What a line of a record tells is so where it holds: what came in, when, and which call the node's own agent made. And a fault stands where it is told.
use Rattle.std.specs.Prelude.{◌≡◌, ◌≤◌, ◌+◌, ◌++◌, ℕ, List, ◌∷◌, length, Some, true}
use Rattle.grasp_agent.specs.Calls.{next_call}
use Rattle.grasp_model_audit.specs.Audits.{FailsAt}
use Rattle.grasp_model_audit.specs.Faults.{Cause}
use Rattle.grasp_model_audit.specs.Lines.{LineHolds}
use Rattle.grasp_model_audit.specs.Naming.{event_named, reading_of}
use Rattle.grasp_model_network.specs.Events.{visit_of}
use Rattle.grasp_model_network.specs.Runs.{Happening}
use Rattle.grasp_model_network.specs.Setting.{Setting, numbered}
use Rattle.grasp_model_network.specs.Visits.{Visit}
use Rattle.grasp_model_network.specs.World.{Seat, SentDatagram, WorldState, present_life, seat_at}
use Rattle.grasp_model_network.specs.declared.event.Event.{Event}
use Rattle.grasp_model_network.specs.declared.event.Event.TheVariants as event
use Rattle.grasp_model_node.specs.Queue.{encoding}
use Rattle.grasp_model_script.specs.LineRuns.{placed_call}
use Rattle.grasp_record.specs.declared.line.RecordInput.{RecordInput}
use Rattle.grasp_record.specs.declared.line.RecordInput.TheVariants as took
use Rattle.grasp_record.specs.declared.line.RecordLine.{RecordLine}
use Rattle.grasp_script.specs.Calls.{call_words}
use Rattle.grasp_script.specs.Scripts.{text_lines}
use Rattle.grasp_types.specs.declared.call.Call.{Call}
use Rattle.grasp_types.specs.declared.traffic.Input.{Input}
use Rattle.grasp_types.specs.declared.traffic.Input.TheVariants as input

-- ---- what came in

-- the event's step is one of the member in its present life, which takes this
pub record Takes (s : Setting) (w : WorldState) (node : ℕ) (i : Input) (e : Event) : Type 0 where
  pub visit : Visit
  pub visits : visit_of s w e ≡ Some visit
  pub life : visit.node ≡ present_life w node
  pub input_is : visit.input ≡ i

-- the event delivers a datagram that was sent to the member, which gets it on this link from this neighbour, and has these bytes
pub record Delivers (w : WorldState) (node link from : ℕ) (bytes : List ℕ) (e : Event) : Type 0 where
  pub index : ℕ
  pub is : e ≡ event.Datagram index true
  pub datagram : SentDatagram
  pub sent : numbered w.datagrams index ≡ Some datagram
  pub receiver : datagram.route.receiver ≡ node
  pub link_is : datagram.route.link ≡ link
  pub from_is : datagram.route.from ≡ from
  pub bytes_are : encoding datagram.message ≡ bytes

-- the event brings to the member what the line says, and nothing is sent behind it
abbrev pub Brings : Setting → WorldState → ℕ → RecordInput → Event → Type 0
Brings s w node (took.Api asa call) e = e ≡ event.Api node asa (placed_call w (present_life w node) call) true
Brings s w node (took.Agent call) e = e ≡ event.Agent node true
Brings s w node (took.Want wanted longest peer) e = e ≡ event.Want node wanted longest peer
Brings s w node (took.Return prefix peer) e = e ≡ event.Return node prefix peer
Brings s w node (took.Datagram link from bytes) e = Delivers w node link from bytes e
Brings s w node (took.Opened stream from) e = Takes s w node (input.Opened stream from) e
Brings s w node (took.Bytes stream bytes) e = Takes s w node (input.Bytes stream bytes) e
Brings s w node (took.Closed stream) e = Takes s w node (input.Closed stream) e
Brings s w node (took.Drain max) e = e ≡ event.Drain node max

-- in words, the call is the one that the member's own agent makes next
pub record CallsNext (w : WorldState) (node : ℕ) (call : Call) : Type 0 where
  pub seat : Seat
  pub here : seat_at w (present_life w node) ≡ Some seat
  pub words : call_words (next_call seat.agent) ≡ call_words call

-- ---- where a fault is

-- the text has this line, with this number from 1
pub record IsAtPlace (text line : List ℕ) (number : ℕ) : Type 0 where
  pub front : List (List ℕ)
  pub rest : List (List ℕ)
  pub parts : text_lines text ≡ front ++ line ∷ rest
  pub place : number ≡ length front + 1

-- ---- all of it

pub record HeldLinesTell : Type 0 where
  -- the event that a line names brings what the line says
  pub named : (s : Setting) (w : WorldState) (x : RecordLine) (e : Event) → event_named s w x ≡ Some e → Brings s w x.node x.input e
  -- a line that holds tells no reading below its node's
  pub in_time : (nodes : ℕ) (s : Setting) (w : WorldState) (line : List ℕ) (x : RecordLine) (hs : List Happening) → LineHolds nodes s w line x hs
      → reading_of w x.node ≤ x.now
  -- and a call of the node's own agent alone that this makes next
  pub own : (nodes : ℕ) (s : Setting) (w : WorldState) (line : List ℕ) (x : RecordLine) (hs : List Happening) → LineHolds nodes s w line x hs
      → (call : Call) → x.input ≡ took.Agent call → CallsNext w x.node call
  -- a line that fails has the number that is told
  pub faults : (text : List ℕ) (cause : Cause) (number : ℕ) (f : FailsAt text cause number) → IsAtPlace text f.line number
