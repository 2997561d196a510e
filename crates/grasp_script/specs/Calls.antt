-- The words of an agent's call (RFC 8991, section 2.3). The layout is this project's own.
use Rattle.std.specs.Prelude.{◌≡◌, ℕ, ◌-◌, ◌<◌, ◌≤◌, ◌^◌, ◌==◌, ◌&&◌, nat_le, nat_lt, if◌then◌else◌, Bool, true, false, List, [], ◌∷◌, Some, None, IfSome, codes, decimal}
use Rattle.std.specs.Str.{IsUtf8}
use Rattle.grasp_types.specs.Message.{IsVerdict}
use Rattle.grasp_types.specs.Objective.{IsValue}
use Rattle.grasp_types.specs.declared.address.Address.{Address}
use Rattle.grasp_types.specs.declared.address.Address.TheVariants as address
use Rattle.grasp_types.specs.declared.address.Locator.{Locator}
use Rattle.grasp_types.specs.declared.address.Locator.TheVariants.{V6, V4, Fqdn, Uri}
use Rattle.grasp_types.specs.declared.address.Proto.TheVariants.{Tcp, Udp}
use Rattle.grasp_types.specs.declared.call.Call.{Call}
use Rattle.grasp_types.specs.declared.call.Call.TheVariants.{RegisterAsa, DeregisterAsa, RegisterObjective, DeregisterObjective, Discover, RequestNegotiate, ListenNegotiate, StopListenNegotiate, NegotiateStep, NegotiateWait, EndNegotiate, SendInvalid, Poll, Synchronize, ListenSynchronize, StopListenSynchronize, Flood, GetFlood, ExpireFlood}
use Rattle.grasp_types.specs.declared.message.Verdict.TheVariants.{Accept, Decline}
use Rattle.grasp_types.specs.declared.session.Handle.{Handle}
use Rattle.grasp_types.specs.declared.session.Kind.{Kind}
use Rattle.grasp_types.specs.declared.session.Kind.TheVariants.{Negotiation, Synchronization}
use Rattle.grasp_text.specs.Line.{or_dash, text_word, value_word}
use Rattle.grasp_model_network.specs.Plans.{IsNode}
use Rattle.grasp_model_network.specs.Setting.{script_number, script_address, script_locator}

-- ---- nodes: node k has the address fd00::k, and listens there on port 7017 by TCP

-- the number of the node that has this address, or `-` where no node has it
abbrev pub node_word : ℕ → List ℕ
node_word n = if nat_lt (script_number 0) n && nat_le n (script_number 255) then decimal (n - script_number 0) else codes "-"

-- the number of the node that listens at this locator, or `-`
abbrev pub at_port : ℕ → ℕ → List ℕ
at_port n port = if port == 7017 then node_word n else codes "-"

abbrev pub peer_word : Locator → List ℕ
peer_word (V6 n Tcp port) = at_port n port
peer_word (V6 n Udp port) = codes "-"
peer_word (V4 n proto port) = codes "-"
peer_word (Fqdn name proto port) = codes "-"
peer_word (Uri text proto port) = codes "-"

abbrev pub initiator_word : Address → List ℕ
initiator_word (address.V4 n) = codes "-"
initiator_word (address.V6 n) = node_word n

-- ---- calls

abbrev pub kind_word : Kind → List ℕ
kind_word Negotiation = codes "neg"
kind_word Synchronization = codes "syn"

abbrev pub dry_word : Bool → List ℕ
dry_word true = codes "dry"
dry_word false = codes "wet"

-- the words of a call; a session is named by its number at the node
abbrev pub call_words : Call → List (List ℕ)
call_words (RegisterAsa name) = codes "asa" ∷ text_word name ∷ []
call_words DeregisterAsa = codes "unasa" ∷ []
call_words (RegisterObjective name flags) = codes "objective" ∷ text_word name ∷ decimal flags ∷ []
call_words (DeregisterObjective name) = codes "unobjective" ∷ text_word name ∷ []
call_words (Discover name kind loops timeout) = codes "discover" ∷ text_word name ∷ kind_word kind ∷ decimal loops ∷ decimal timeout ∷ []
call_words (RequestNegotiate name value loops timeout dry peer) = codes "request" ∷ text_word name ∷ value_word value ∷ decimal loops ∷ decimal timeout ∷ dry_word dry ∷ peer_word peer ∷ []
call_words (ListenNegotiate name) = codes "listen" ∷ text_word name ∷ []
call_words (StopListenNegotiate name) = codes "unlisten" ∷ text_word name ∷ []
call_words (NegotiateStep handle value) = codes "step" ∷ decimal handle.number ∷ value_word value ∷ []
call_words (NegotiateWait handle millis) = codes "wait" ∷ decimal handle.number ∷ decimal millis ∷ []
call_words (EndNegotiate handle Accept) = codes "accept" ∷ decimal handle.number ∷ []
call_words (EndNegotiate handle (Decline None)) = codes "decline" ∷ decimal handle.number ∷ []
call_words (EndNegotiate handle (Decline (Some reason))) = codes "decline" ∷ decimal handle.number ∷ text_word reason ∷ []
call_words (SendInvalid handle detail) = codes "invalid" ∷ decimal handle.number ∷ or_dash value_word detail ∷ []
call_words (Poll handle) = codes "poll" ∷ decimal handle.number ∷ []
call_words (Synchronize name loops timeout peer) = codes "synchronize" ∷ text_word name ∷ decimal loops ∷ decimal timeout ∷ peer_word peer ∷ []
call_words (ListenSynchronize name value) = codes "offer" ∷ text_word name ∷ value_word value ∷ []
call_words (StopListenSynchronize name) = codes "unoffer" ∷ text_word name ∷ []
call_words (Flood name value ttl loops) = codes "flood" ∷ text_word name ∷ value_word value ∷ decimal ttl ∷ decimal loops ∷ []
call_words (GetFlood name) = codes "floods" ∷ text_word name ∷ []
call_words (ExpireFlood name initiator) = codes "expire" ∷ text_word name ∷ initiator_word initiator ∷ []

-- ---- which calls a script can hold

-- the locator of one of the nodes
pub record IsPeer (nodes : ℕ) (peer : Locator) : Type 0 where
  pub node : ℕ
  pub is_node : IsNode nodes node
  pub place : peer ≡ script_locator node

-- the address of one of the nodes
pub record IsInitiator (nodes : ℕ) (initiator : Address) : Type 0 where
  pub node : ℕ
  pub is_node : IsNode nodes node
  pub place : initiator ≡ script_address node

-- a session as a script names it, by its number alone: its place is 0
pub record IsNamed (handle : Handle) : Type 0 where
  pub place : handle.place ≡ 0
  pub number : handle.number < 2 ^ 64

-- each part of the call is within its range, and the nodes that it names are nodes of the script
abbrev pub IsCall : ℕ → Call → Type 0
IsCall nodes (RegisterAsa name) = IsUtf8 name
IsCall nodes DeregisterAsa = Unit {0}
IsCall nodes (RegisterObjective name flags) = IsUtf8 name × (flags ≤ 15)
IsCall nodes (DeregisterObjective name) = IsUtf8 name
IsCall nodes (Discover name kind loops timeout) = IsUtf8 name × (loops < 2 ^ 8) × (timeout < 2 ^ 32)
IsCall nodes (RequestNegotiate name value loops timeout dry peer) = IsUtf8 name × IsValue value × (loops < 2 ^ 8) × (timeout < 2 ^ 32) × IsPeer nodes peer
IsCall nodes (ListenNegotiate name) = IsUtf8 name
IsCall nodes (StopListenNegotiate name) = IsUtf8 name
IsCall nodes (NegotiateStep handle value) = IsNamed handle × IsValue value
IsCall nodes (NegotiateWait handle millis) = IsNamed handle × (millis < 2 ^ 32)
IsCall nodes (EndNegotiate handle verdict) = IsNamed handle × IsVerdict verdict
IsCall nodes (SendInvalid handle detail) = IsNamed handle × IfSome detail IsValue
IsCall nodes (Poll handle) = IsNamed handle
IsCall nodes (Synchronize name loops timeout peer) = IsUtf8 name × (loops < 2 ^ 8) × (timeout < 2 ^ 32) × IsPeer nodes peer
IsCall nodes (ListenSynchronize name value) = IsUtf8 name × IsValue value
IsCall nodes (StopListenSynchronize name) = IsUtf8 name
IsCall nodes (Flood name value ttl loops) = IsUtf8 name × IsValue value × (ttl < 2 ^ 32) × (loops < 2 ^ 8)
IsCall nodes (GetFlood name) = IsUtf8 name
IsCall nodes (ExpireFlood name initiator) = IsUtf8 name × IsInitiator nodes initiator

-- agent 1 is a node's own, and no other agent has its number; agent 0 is none, and registers
abbrev pub may_call : ℕ → Call → Bool
may_call asa (RegisterAsa name) = asa == 0
may_call asa DeregisterAsa = nat_le 2 asa
may_call asa (RegisterObjective name flags) = nat_le 2 asa
may_call asa (DeregisterObjective name) = nat_le 2 asa
may_call asa (Discover name kind loops timeout) = nat_le 2 asa
may_call asa (RequestNegotiate name value loops timeout dry peer) = nat_le 2 asa
may_call asa (ListenNegotiate name) = nat_le 2 asa
may_call asa (StopListenNegotiate name) = nat_le 2 asa
may_call asa (NegotiateStep handle value) = nat_le 2 asa
may_call asa (NegotiateWait handle millis) = nat_le 2 asa
may_call asa (EndNegotiate handle verdict) = nat_le 2 asa
may_call asa (SendInvalid handle detail) = nat_le 2 asa
may_call asa (Poll handle) = nat_le 2 asa
may_call asa (Synchronize name loops timeout peer) = nat_le 2 asa
may_call asa (ListenSynchronize name value) = nat_le 2 asa
may_call asa (StopListenSynchronize name) = nat_le 2 asa
may_call asa (Flood name value ttl loops) = nat_le 2 asa
may_call asa (GetFlood name) = nat_le 2 asa
may_call asa (ExpireFlood name initiator) = nat_le 2 asa
