-- Reading the words of a line from left to right.
use Rattle.std.specs.Prelude.{ℕ, ◌^◌, ◌%◌, ◌==◌, nat_le, nat_lt, ◌&&◌, if◌then◌else◌, Bool, true, false, List, Option, Some, None, Ok, Err, codes}
use Rattle.std.specs.Str.{bytes_eq}
use Rattle.grasp_types.specs.Prefix.{AddressBlock, size_of}
use Rattle.grasp_types.specs.declared.address.Address.{Address}
use Rattle.grasp_types.specs.declared.address.Locator.{Locator}
use Rattle.grasp_types.specs.declared.call.Call.{Call}
use Rattle.grasp_types.specs.declared.call.Call.TheVariants.{RegisterAsa, DeregisterAsa, RegisterObjective, DeregisterObjective, Discover, RequestNegotiate, ListenNegotiate, StopListenNegotiate, NegotiateStep, NegotiateWait, EndNegotiate, SendInvalid, Poll, Synchronize, ListenSynchronize, StopListenSynchronize, Flood, GetFlood, ExpireFlood}
use Rattle.grasp_types.specs.declared.message.Verdict.TheVariants.{Accept, Decline}
use Rattle.grasp_types.specs.declared.session.Handle.{Handle}
use Rattle.grasp_types.specs.declared.session.Kind.{Kind}
use Rattle.grasp_types.specs.declared.session.Kind.TheVariants.{Negotiation, Synchronization}
use Rattle.grasp_text.specs.Grammar.{ending, number32, reason_at}
use Rattle.grasp_text.specs.Reading.{Parsed, ◌>>=◌, word_at, number_of, text_of, value_of, maybe_of, then_some, block_of}
use Rattle.grasp_model_network.specs.Setting.{script_address, script_locator}
use Rattle.grasp_model_network.specs.declared.event.Event.{Event}
use Rattle.grasp_model_network.specs.declared.event.Event.TheVariants as event
use Rattle.grasp_script.specs.Calls.{may_call}
use Rattle.grasp_script.specs.declared.line.LineAct.{LineAct}
use Rattle.grasp_script.specs.declared.line.LineAct.TheVariants as act
use Rattle.grasp_script.specs.declared.names.CallName.{CallName}
use Rattle.grasp_script.specs.declared.names.CallName.TheVariants as call
use Rattle.grasp_script.specs.declared.names.FirstWord.{FirstWord}
use Rattle.grasp_script.specs.declared.names.FirstWord.TheVariants as first

-- ---- single words

abbrev pub number64 : List ℕ → Option ℕ
number64 = number_of 18446744073709551615

abbrev pub number8 : List ℕ → Option ℕ
number8 = number_of 255

abbrev pub flags_of : List ℕ → Option ℕ
flags_of = number_of 15

-- the number of a node
abbrev pub at_least_one : ℕ → Option ℕ
at_least_one k = if nat_le 1 k then Some k else None

unfoldable pub node_of : ℕ → List ℕ → Option ℕ
node_of nodes word = then_some (number_of nodes word) at_least_one

-- the locator of the node with this number
unfoldable pub peer_of : ℕ → List ℕ → Option Locator
peer_of nodes word = then_some (node_of nodes word) (λ k. Some (script_locator k))

-- the address of the node with this number
unfoldable pub initiator_of : ℕ → List ℕ → Option Address
initiator_of nodes word = then_some (node_of nodes word) (λ k. Some (script_address k))

-- the session with this number
abbrev pub named : ℕ → Handle
named n = record { place = 0; number = n }

unfoldable pub handle_of : List ℕ → Option Handle
handle_of word = then_some (number64 word) (λ n. Some (named n))

unfoldable pub kind_of : List ℕ → Option Kind
kind_of word = if bytes_eq word (codes "neg") then Some Negotiation else (if bytes_eq word (codes "syn") then Some Synchronization else None)

unfoldable pub dry_of : List ℕ → Option Bool
dry_of word = if bytes_eq word (codes "dry") then Some true else (if bytes_eq word (codes "wet") then Some false else None)

-- Inside: `far`, which true stands for, or `near`
unfoldable pub far_of : List ℕ → Option Bool
far_of word = if bytes_eq word (codes "far") then Some true else (if bytes_eq word (codes "near") then Some false else None)

-- the first word of a call
unfoldable pub call_of : List ℕ → Option CallName
call_of word =
    if bytes_eq word (codes "asa") then Some call.Asa else (if bytes_eq word (codes "unasa") then Some call.Unasa else (if bytes_eq word (codes "objective") then Some call.Objective
    else (if bytes_eq word (codes "unobjective") then Some call.Unobjective else (if bytes_eq word (codes "discover") then Some call.Discover else (if bytes_eq word (codes "request") then Some call.Request
    else (if bytes_eq word (codes "listen") then Some call.Listen else (if bytes_eq word (codes "unlisten") then Some call.Unlisten else (if bytes_eq word (codes "step") then Some call.Step
    else (if bytes_eq word (codes "wait") then Some call.Wait else (if bytes_eq word (codes "accept") then Some call.Accept else (if bytes_eq word (codes "decline") then Some call.Decline
    else (if bytes_eq word (codes "invalid") then Some call.Invalid else (if bytes_eq word (codes "poll") then Some call.Poll else (if bytes_eq word (codes "synchronize") then Some call.Synchronize
    else (if bytes_eq word (codes "offer") then Some call.Offer else (if bytes_eq word (codes "unoffer") then Some call.Unoffer else (if bytes_eq word (codes "flood") then Some call.Flood
    else (if bytes_eq word (codes "floods") then Some call.Floods else (if bytes_eq word (codes "expire") then Some call.Expire else None)))))))))))))))))))

-- Inside: the first word of a line, or the second one behind `hold`
unfoldable pub first_of : List ℕ → Option FirstWord
first_of word =
    if bytes_eq word (codes "agent") then Some first.Agent else (if bytes_eq word (codes "bytes") then Some first.Bytes else (if bytes_eq word (codes "arrive") then Some first.Arrive
    else (if bytes_eq word (codes "want") then Some first.Want else (if bytes_eq word (codes "clock") then Some first.Clock else (if bytes_eq word (codes "cut") then Some first.Cut
    else (if bytes_eq word (codes "hold") then Some first.Hold else (if bytes_eq word (codes "api") then Some first.Api else (if bytes_eq word (codes "datagram") then Some first.Datagram
    else (if bytes_eq word (codes "drain") then Some first.Drain else (if bytes_eq word (codes "state") then Some first.State else (if bytes_eq word (codes "return") then Some first.Return else None)))))))))))

-- ---- calls, behind their first word

-- a name, and nothing more
unfoldable pub name_at : List (List ℕ) → Parsed (List ℕ)
name_at ws = do
  name ← word_at text_of ws
  ending name.0 name.1

-- a session, and nothing more
unfoldable pub session_at : List (List ℕ) → Parsed Handle
session_at ws = do
  handle ← word_at handle_of ws
  ending handle.0 handle.1

unfoldable pub objective_call_at : List (List ℕ) → Parsed Call
objective_call_at ws = do
  name ← word_at text_of ws
  flags ← word_at flags_of name.1
  ending (RegisterObjective name.0 flags.0) flags.1

unfoldable pub discover_at : List (List ℕ) → Parsed Call
discover_at ws = do
  name ← word_at text_of ws
  kind ← word_at kind_of name.1
  loops ← word_at number8 kind.1
  timeout ← word_at number32 loops.1
  ending (Discover name.0 kind.0 loops.0 timeout.0) timeout.1

unfoldable pub request_at : ℕ → List (List ℕ) → Parsed Call
request_at nodes ws = do
  name ← word_at text_of ws
  value ← word_at value_of name.1
  loops ← word_at number8 value.1
  timeout ← word_at number32 loops.1
  dry ← word_at dry_of timeout.1
  peer ← word_at (peer_of nodes) dry.1
  ending (RequestNegotiate name.0 value.0 loops.0 timeout.0 dry.0 peer.0) peer.1

unfoldable pub step_at : List (List ℕ) → Parsed Call
step_at ws = do
  handle ← word_at handle_of ws
  value ← word_at value_of handle.1
  ending (NegotiateStep handle.0 value.0) value.1

unfoldable pub wait_at : List (List ℕ) → Parsed Call
wait_at ws = do
  handle ← word_at handle_of ws
  millis ← word_at number32 handle.1
  ending (NegotiateWait handle.0 millis.0) millis.1

unfoldable pub decline_at : List (List ℕ) → Parsed Call
decline_at ws = do
  handle ← word_at handle_of ws
  reason ← reason_at handle.1
  Ok (EndNegotiate handle.0 (Decline reason.0), reason.1)

unfoldable pub invalid_at : List (List ℕ) → Parsed Call
invalid_at ws = do
  handle ← word_at handle_of ws
  detail ← word_at (maybe_of value_of) handle.1
  ending (SendInvalid handle.0 detail.0) detail.1

unfoldable pub synchronize_at : ℕ → List (List ℕ) → Parsed Call
synchronize_at nodes ws = do
  name ← word_at text_of ws
  loops ← word_at number8 name.1
  timeout ← word_at number32 loops.1
  peer ← word_at (peer_of nodes) timeout.1
  ending (Synchronize name.0 loops.0 timeout.0 peer.0) peer.1

unfoldable pub offer_at : List (List ℕ) → Parsed Call
offer_at ws = do
  name ← word_at text_of ws
  value ← word_at value_of name.1
  ending (ListenSynchronize name.0 value.0) value.1

unfoldable pub flood_at : List (List ℕ) → Parsed Call
flood_at ws = do
  name ← word_at text_of ws
  value ← word_at value_of name.1
  ttl ← word_at number32 value.1
  loops ← word_at number8 ttl.1
  ending (Flood name.0 value.0 ttl.0 loops.0) loops.1

unfoldable pub expire_at : ℕ → List (List ℕ) → Parsed Call
expire_at nodes ws = do
  name ← word_at text_of ws
  initiator ← word_at (initiator_of nodes) name.1
  ending (ExpireFlood name.0 initiator.0) initiator.1

-- a call of a name alone
abbrev pub with_name : (List ℕ → Call) → List (List ℕ) → Parsed Call
with_name make ws = name_at ws >>= λ name. Ok (make name.0, name.1)

-- a call on a session alone
abbrev pub with_session : (Handle → Call) → List (List ℕ) → Parsed Call
with_session make ws = session_at ws >>= λ handle. Ok (make handle.0, handle.1)

abbrev pub accepting : Handle → Call
accepting handle = EndNegotiate handle Accept

-- the call behind its first word
abbrev pub called_at : ℕ → CallName → List (List ℕ) → Parsed Call
called_at nodes call.Asa ws = with_name RegisterAsa ws
called_at nodes call.Unasa ws = ending DeregisterAsa ws
called_at nodes call.Objective ws = objective_call_at ws
called_at nodes call.Unobjective ws = with_name DeregisterObjective ws
called_at nodes call.Discover ws = discover_at ws
called_at nodes call.Request ws = request_at nodes ws
called_at nodes call.Listen ws = with_name ListenNegotiate ws
called_at nodes call.Unlisten ws = with_name StopListenNegotiate ws
called_at nodes call.Step ws = step_at ws
called_at nodes call.Wait ws = wait_at ws
called_at nodes call.Accept ws = with_session accepting ws
called_at nodes call.Decline ws = decline_at ws
called_at nodes call.Invalid ws = invalid_at ws
called_at nodes call.Poll ws = with_session Poll ws
called_at nodes call.Synchronize ws = synchronize_at nodes ws
called_at nodes call.Offer ws = offer_at ws
called_at nodes call.Unoffer ws = with_name StopListenSynchronize ws
called_at nodes call.Flood ws = flood_at ws
called_at nodes call.Floods ws = with_name GetFlood ws
called_at nodes call.Expire ws = expire_at nodes ws

unfoldable pub call_at : ℕ → List (List ℕ) → Parsed Call
call_at nodes ws = do
  name ← word_at call_of ws
  called_at nodes name.0 name.1

-- ---- lines, behind their first word

-- Inside: a clock
unfoldable pub clock_at : ℕ → List (List ℕ) → Parsed Event
clock_at nodes ws = do
  node ← word_at (node_of nodes) ws
  millis ← word_at number64 node.1
  ending (event.Clock node.0 millis.0) millis.1

-- a prefix of this length, or of one up to the longest, can be wanted
abbrev pub are_lengths : ℕ → ℕ → Bool
are_lengths length longest = (nat_le 1 length && nat_le length longest) && nat_le longest 128

-- Inside: this where the test says so, and nothing more
abbrev pub only_if : {A : Type 0} → Bool → A → List (List ℕ) → Parsed A
only_if true a ws = ending a ws
only_if false a ws = Err 0

-- Inside: a want
unfoldable pub want_at : ℕ → List (List ℕ) → Parsed Event
want_at nodes ws = do
  node ← word_at (node_of nodes) ws
  length ← word_at number8 node.1
  longest ← word_at number8 length.1
  peer ← word_at (node_of nodes) longest.1
  only_if (are_lengths length.0 longest.0) (event.Want node.0 length.0 longest.0 peer.0) peer.1

-- Inside: an address and a length that are a prefix: no bit past the length is set
abbrev pub is_prefix : ℕ × ℕ → Bool
is_prefix b = (nat_le 1 b.1 && nat_le b.1 128) && (nat_lt b.0 (2 ^ 128) && b.0 % size_of b.1 == 0)

-- Inside: the prefix that both are
abbrev pub prefix_by : ℕ × ℕ → Option AddressBlock
prefix_by b = if is_prefix b then Some (record { address = b.0; length = b.1 }) else None

-- Inside: the prefix that a word tells
unfoldable pub prefix_of : List ℕ → Option AddressBlock
prefix_of word = then_some (block_of word) prefix_by

-- Inside: a node gives this prefix back to a peer
unfoldable pub return_at : ℕ → List (List ℕ) → Parsed Event
return_at nodes ws = do
  node ← word_at (node_of nodes) ws
  prefix ← word_at prefix_of node.1
  peer ← word_at (node_of nodes) prefix.1
  ending (event.Return node.0 prefix.0 peer.0) peer.1

-- Inside: the next call of a node's agent
unfoldable pub agent_at : ℕ → Bool → List (List ℕ) → Parsed Event
agent_at nodes hold ws = do
  node ← word_at (node_of nodes) ws
  ending (event.Agent node.0 hold) node.1

-- Inside: the call, where this agent may make it
abbrev pub allowed : Bool → Event → List (List ℕ) → Parsed Event
allowed true e ws = Ok (e, ws)
allowed false e ws = Err 0

-- Inside: a call of another agent
unfoldable pub api_at : ℕ → Bool → List (List ℕ) → Parsed Event
api_at nodes hold ws = do
  node ← word_at (node_of nodes) ws
  asa ← word_at number32 node.1
  call ← call_at nodes asa.1
  allowed (may_call asa.0 call.0) (event.Api node.0 asa.0 call.0 hold) call.1

-- Inside: the delivery of a datagram
unfoldable pub datagram_at : Bool → List (List ℕ) → Parsed Event
datagram_at hold ws = do
  index ← word_at number64 ws
  ending (event.Datagram index.0 hold) index.1

-- Inside: the arrival of a stream
unfoldable pub arrive_at : Bool → List (List ℕ) → Parsed Event
arrive_at hold ws = do
  stream ← word_at number64 ws
  ending (event.Arrive stream.0 hold) stream.1

-- Inside: the delivery of bytes
unfoldable pub bytes_at : Bool → List (List ℕ) → Parsed Event
bytes_at hold ws = do
  stream ← word_at number64 ws
  far ← word_at far_of stream.1
  count ← word_at number64 far.1
  ending (event.Bytes stream.0 far.0 count.0 hold) count.1

-- Inside: the end of a side of a stream
unfoldable pub cut_at : Bool → List (List ℕ) → Parsed Event
cut_at hold ws = do
  stream ← word_at number64 ws
  far ← word_at far_of stream.1
  ending (event.Cut stream.0 far.0 hold) far.1

-- Inside: a drain
unfoldable pub drain_at : ℕ → List (List ℕ) → Parsed Event
drain_at nodes ws = do
  node ← word_at (node_of nodes) ws
  max ← word_at number32 node.1
  ending (event.Drain node.0 max.0) max.1

-- Inside: the showing of a node's state
unfoldable pub state_at : ℕ → List (List ℕ) → Parsed LineAct
state_at nodes ws = do
  node ← word_at (node_of nodes) ws
  ending (act.State node.0) node.1

-- Inside: a line that may begin with `hold`, behind that
abbrev pub held_at : ℕ → Bool → FirstWord → List (List ℕ) → Parsed Event
held_at nodes hold first.Agent ws = agent_at nodes hold ws
held_at nodes hold first.Api ws = api_at nodes hold ws
held_at nodes hold first.Datagram ws = datagram_at hold ws
held_at nodes hold first.Arrive ws = arrive_at hold ws
held_at nodes hold first.Bytes ws = bytes_at hold ws
held_at nodes hold first.Cut ws = cut_at hold ws
held_at nodes hold first.Clock ws = Err 0
held_at nodes hold first.Want ws = Err 0
held_at nodes hold first.Return ws = Err 0
held_at nodes hold first.Drain ws = Err 0
held_at nodes hold first.State ws = Err 0
held_at nodes hold first.Hold ws = Err 0

-- Inside: a line that begins with `hold`
unfoldable pub hold_at : ℕ → List (List ℕ) → Parsed Event
hold_at nodes ws = do
  name ← word_at first_of ws
  held_at nodes true name.0 name.1

-- Inside: an event's line
abbrev pub as_event : Parsed Event → Parsed LineAct
as_event read = read >>= λ e. Ok (act.Event e.0, e.1)

-- Inside: the line behind its first word
abbrev pub named_at : ℕ → FirstWord → List (List ℕ) → Parsed LineAct
named_at nodes first.Agent ws = as_event (agent_at nodes false ws)
named_at nodes first.Api ws = as_event (api_at nodes false ws)
named_at nodes first.Datagram ws = as_event (datagram_at false ws)
named_at nodes first.Arrive ws = as_event (arrive_at false ws)
named_at nodes first.Bytes ws = as_event (bytes_at false ws)
named_at nodes first.Cut ws = as_event (cut_at false ws)
named_at nodes first.Clock ws = as_event (clock_at nodes ws)
named_at nodes first.Want ws = as_event (want_at nodes ws)
named_at nodes first.Return ws = as_event (return_at nodes ws)
named_at nodes first.Drain ws = as_event (drain_at nodes ws)
named_at nodes first.State ws = state_at nodes ws
named_at nodes first.Hold ws = as_event (hold_at nodes ws)

-- Inside: a line
unfoldable pub act_at : ℕ → List (List ℕ) → Parsed LineAct
act_at nodes ws = do
  name ← word_at first_of ws
  named_at nodes name.0 name.1
