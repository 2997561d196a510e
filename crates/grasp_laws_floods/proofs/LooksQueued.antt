-- What a step queues: each discovery in it was begun by a search, where what came in and what the call itself begins were.
use Rattle.std.proofs.Common.{List}
use Rattle.grasp_model_node.specs.Node.{NodeState}
use Rattle.grasp_laws_node.specs.Relays.{Queues}
use Rattle.grasp_model_node.specs.Step.{Coming}
use Rattle.grasp_types.specs.declared.reply.Reply.{Reply}
use Rattle.grasp_types.specs.declared.traffic.Input.{Input}
use Rattle.grasp_laws_floods.proofs.Looks.{MessageLooks, lowered_looks}
use Rattle.grasp_laws_floods.proofs.Queueing.{QueueIs, InputIs, GoesOn, input_queue}
use Rattle.grasp_laws_floods.specs.Sought.{Sought}

-- each discovery in a queue was begun by a search
abbrev pub QueueLooks : List Sought → NodeState → Type 0
QueueLooks xs n = QueueIs (MessageLooks xs) n

-- what a call begins, and what a datagram carries, was begun by a search
abbrev pub InputLooks : List Sought → NodeState → Input → Coming → Reply → Type 0
InputLooks xs n i x r = InputIs (MessageLooks xs) n i x r

looks_on : (xs : List Sought) → GoesOn (MessageLooks xs)
looks_on xs = record { discoveries = λ session initiator o k. lowered_looks xs session initiator o k; floods = λ session initiator ttl parts k. tt }

pub input_queue_looks : (xs : List Sought) (n : NodeState) (i : Input) (x : Coming) (r : Reply) (after : NodeState) → Queues n i x r after → InputLooks xs n i x r
    → QueueLooks xs n → QueueLooks xs after
input_queue_looks xs n i x r after u k q = input_queue (MessageLooks xs) (looks_on xs) n i x r after u k q
