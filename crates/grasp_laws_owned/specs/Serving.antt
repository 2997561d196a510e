-- The objective of an agent that alone has one of its name (RFC 8991, section 2.3.3), and the calls that it makes for it.
use Rattle.std.specs.Prelude.{◌≡◌, ◌≢◌, ℕ, true, List, Some, None}
use Rattle.grasp_asa.specs.Answers.{listener_of}
use Rattle.grasp_asa.specs.Registrations.{is_registered}
use Rattle.grasp_model_node.specs.Node.{NodeState}
use Rattle.grasp_model_node.specs.Tests.{owned_flags}
use Rattle.grasp_types.specs.declared.call.Call.{Call}
use Rattle.grasp_types.specs.declared.call.Call.TheVariants as call
use Rattle.grasp_types.specs.declared.traffic.Input.{Input}
use Rattle.grasp_types.specs.declared.traffic.Input.TheVariants as input

-- the agent is registered, with an objective of this name and these flags, for which it listens; and no other agent has an objective of this name
pub record Serves (asa : ℕ) (name : List ℕ) (bits : ℕ) (n : NodeState) : Type 0 where
  pub registered : is_registered n.registrations asa ≡ true
  pub flags : owned_flags n asa name ≡ Some bits
  pub listens : listener_of n.registrations name ≡ Some asa
  pub alone : (other : ℕ) → other ≢ asa → owned_flags n other name ≡ None

-- the input isn't a call of this agent
abbrev pub IsNoCallOf : ℕ → Input → Type 0
IsNoCallOf asa (input.Api other call) = other ≢ asa
IsNoCallOf asa (input.Datagram link from bytes) = Unit {0}
IsNoCallOf asa (input.Opened stream from) = Unit {0}
IsNoCallOf asa (input.Bytes stream bytes) = Unit {0}
IsNoCallOf asa (input.Closed stream) = Unit {0}
IsNoCallOf asa (input.Drain max) = Unit {0}

-- the calls of an agent for this objective alone: to request it, to listen for it, to act in a session and to ask how one stands
abbrev pub IsServing : List ℕ → Call → Type 0
IsServing name (call.RequestNegotiate objective value loops timeout dry peer) = objective ≡ name
IsServing name (call.ListenNegotiate objective) = objective ≡ name
IsServing name (call.NegotiateStep handle value) = Unit {0}
IsServing name (call.EndNegotiate handle verdict) = Unit {0}
IsServing name (call.Poll handle) = Unit {0}
IsServing name _ = ⊥
