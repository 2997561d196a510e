-- What a step queues: each flood in it was made, where what came in and what the call itself floods were.
use Rattle.std.proofs.Common.{ℕ, List}
use Rattle.grasp_model_node.specs.Node.{NodeState}
use Rattle.grasp_laws_node.specs.Relays.{Queues}
use Rattle.grasp_model_node.specs.Step.{Coming}
use Rattle.grasp_model_network.specs.Setting.{Member}
use Rattle.grasp_model_network.specs.World.{FloodCall}
use Rattle.grasp_types.specs.declared.call.Call.{Call}
use Rattle.grasp_types.specs.declared.reply.Reply.{Reply}
use Rattle.grasp_types.specs.declared.traffic.Input.{Input}
use Rattle.grasp_types.specs.declared.traffic.Input.TheVariants as input
use Rattle.grasp_laws_floods.proofs.Heard.{OptionMade}
use Rattle.grasp_laws_floods.proofs.Made.{MessageMade, flood_lowered, discovery_lowered}
use Rattle.grasp_laws_floods.proofs.Queueing.{QueueIs, OwnIs, InputIs, GoesOn, input_queue}
use Rattle.grasp_laws_floods.proofs.Ranges.{IsInRange}

-- each message in a queue is made
abbrev pub QueueMade : List Member → List FloodCall → NodeState → Type 0
QueueMade ms calls n = QueueIs (MessageMade ms calls) n

abbrev pub OwnMade : List Member → List FloodCall → NodeState → ℕ → Call → Reply → Type 0
OwnMade ms calls n asa it r = OwnIs (MessageMade ms calls) n asa it r

-- a call can be made, and what it begins is made; and so is what a datagram carries
abbrev pub InputMade : List Member → List FloodCall → NodeState → Input → Coming → Reply → Type 0
InputMade ms calls n (input.Api asa it) x r = IsInRange it × OwnMade ms calls n asa it r
InputMade ms calls n (input.Datagram link from bytes) x r = OptionMade ms calls x.carried
InputMade ms calls n _ x r = Unit {0}

made_on : (ms : List Member) (calls : List FloodCall) → GoesOn (MessageMade ms calls)
made_on ms calls = record {
  discoveries = λ session initiator o k. discovery_lowered ms calls session initiator o k;
  floods = λ session initiator ttl parts k. flood_lowered ms calls session initiator ttl parts k;
}

input_is : (ms : List Member) (calls : List FloodCall) (n : NodeState) (i : Input) (x : Coming) (r : Reply) → InputMade ms calls n i x r → InputIs (MessageMade ms calls) n i x r
input_is ms calls n (input.Api asa it) x r k = k.1
input_is ms calls n (input.Datagram link from bytes) x r k = k
input_is ms calls n _ x r k = tt

pub made_queue : (ms : List Member) (calls : List FloodCall) (n : NodeState) (i : Input) (x : Coming) (r : Reply) (after : NodeState) → Queues n i x r after → InputMade ms calls n i x r
    → QueueMade ms calls n → QueueMade ms calls after
made_queue ms calls n i x r after u k q = input_queue (MessageMade ms calls) (made_on ms calls) n i x r after u (input_is ms calls n i x r k) q
