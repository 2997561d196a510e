-- What the bytes of a peer leave alone.
use Rattle.std.specs.Prelude.{◌≡◌, ◌≢◌, ◌↔◌, ◌++◌, ℕ, List, All, Some}
use Rattle.grasp_session.specs.Says.{IsAt}
use Rattle.grasp_session.specs.Sessions.{Sessions, SessionState}
use Rattle.grasp_types.specs.declared.address.Address.{Address}
use Rattle.grasp_types.specs.declared.message.Message.{Message}
use Rattle.grasp_types.specs.declared.message.Message.TheVariants.{Response}
use Rattle.grasp_types.specs.declared.reply.Reply.{Reply}
use Rattle.grasp_types.specs.declared.traffic.Input.TheVariants as input
use Rattle.grasp_model_node.specs.Begin.{begin}
use Rattle.grasp_model_node.specs.Node.{NodeState}
use Rattle.grasp_model_node.specs.Queue.{Queued}
use Rattle.grasp_model_node.specs.Step.{Coming, NodeStep}
use Rattle.grasp_model_node.specs.Streams.{StreamRecord, record_of}

-- the queue has what it had, and perhaps more behind it
pub record OnlyQueues (n after : NodeState) : Type 0 where
  pub more : List Queued
  pub queue : after.queue ≡ n.queue ++ more

-- a live session on another stream is where and as it was, and there is no other
abbrev pub OthersStay : ℕ → Sessions → Sessions → Type 0
OthersStay stream before after = (place : ℕ) (x : SessionState) → x.stream ≢ stream → IsAt before place x ↔ IsAt after place x

-- the message isn't a response
abbrev pub IsNoResponse : Message → Type 0
IsNoResponse (Response session initiator ttl told objective) = ⊥
IsNoResponse message = Unit {0}

-- what an input of a stream leaves as it was when the step had begun
pub record LeavesTheRest (stream : ℕ) (x : Coming) (n after : NodeState) : Type 0 where
  pub plan : after.plan ≡ n.plan
  pub reading : after.reading ≡ n.reading
  pub registrations : after.registrations ≡ n.registrations
  pub sessions : OthersStay stream n.sessions after.sessions
  pub searches : after.discoveries.searches ≡ n.discoveries.searches
  pub memories : after.discoveries.memories ≡ n.discoveries.memories
  -- only a response changes the cache
  pub entries : All IsNoResponse x.added.messages → after.discoveries.entries ≡ n.discoveries.entries
  pub floods : after.floods ≡ n.floods
  pub drawn : after.drawn ≡ n.drawn
  -- the record of another stream, where it has one, is as it was
  pub others : (other : ℕ) (y : StreamRecord) → other ≢ stream → record_of n.streams other ≡ Some y → record_of after.streams other ≡ Some y
  pub queue : OnlyQueues n after

-- what a datagram leaves as it was when the step had begun
pub record LeavesAgents (n after : NodeState) : Type 0 where
  pub plan : after.plan ≡ n.plan
  pub reading : after.reading ≡ n.reading
  pub registrations : after.registrations ≡ n.registrations
  pub sessions : after.sessions ≡ n.sessions
  pub searches : after.discoveries.searches ≡ n.discoveries.searches
  pub entries : after.discoveries.entries ≡ n.discoveries.entries
  pub drawn : after.drawn ≡ n.drawn
  -- the record of a stream, where it has one, is as it was
  pub records : (other : ℕ) (y : StreamRecord) → record_of n.streams other ≡ Some y → record_of after.streams other ≡ Some y
  pub queue : OnlyQueues n after

-- at every step by an input of a stream, whatever the peer sends there, the rest of the node is left as it was
abbrev pub PeersLeaveTheRest : Type 0
PeersLeaveTheRest = (n after : NodeState) (now stream : ℕ) (x : Coming) (r : Reply) →
    ((from : Address) → NodeStep n now (input.Opened stream from) x r after → LeavesTheRest stream x (begin n now) after)
    × ((bytes : List ℕ) → NodeStep n now (input.Bytes stream bytes) x r after → LeavesTheRest stream x (begin n now) after)
    × (NodeStep n now (input.Closed stream) x r after → LeavesTheRest stream x (begin n now) after)

abbrev pub DatagramsLeaveAgents : Type 0
DatagramsLeaveAgents = (n after : NodeState) (now link from : ℕ) (bytes : List ℕ) (x : Coming) (r : Reply)
    → NodeStep n now (input.Datagram link from bytes) x r after → LeavesAgents (begin n now) after
