-- What a drain gives, and that it changes nothing else.
use Rattle.std.specs.Prelude.{◌≡◌, ◌≤◌, ◌<◌, ◌-◌, ◌==◌, ◌⊎◌, ◌↔◌, ◌++◌, ℕ, not, List, length, map, filter, take, drop, AllPairs, Contains, None}
use Rattle.std.specs.List.{Any, list_any}
use Rattle.grasp_cbor.specs.Shortest.{shortest}
use Rattle.grasp_model_node.specs.Begin.{begin}
use Rattle.grasp_model_node.specs.BoundedNodes.{IsBoundedNode}
use Rattle.grasp_model_node.specs.Node.{NodeState}
use Rattle.grasp_model_node.specs.Queue.{Queued, datagram, dial, send}
use Rattle.grasp_model_node.specs.Step.{Coming, NodeStep}
use Rattle.grasp_types.specs.Message.{item_of}
use Rattle.grasp_types.specs.declared.reply.Reply.{Reply}
use Rattle.grasp_types.specs.declared.reply.Reply.TheVariants as reply
use Rattle.grasp_types.specs.declared.traffic.Input.TheVariants as input
use Rattle.grasp_types.specs.declared.traffic.Output.{Output}
use Rattle.grasp_types.specs.declared.traffic.Output.TheVariants.{Datagram, Dial, Send, Close}

-- a message goes out as its shortest encoding, along its way or on its stream
abbrev pub goes_out : Queued → Output
goes_out (datagram link to m) = Datagram link to (shortest (item_of m))
goes_out (dial stream to) = Dial stream to
goes_out (send stream m) = Send stream (shortest (item_of m))

-- the stream has a record, and it is closing: nothing is kept of what comes on it
abbrev pub IsClosing : NodeState → ℕ → Type 0
IsClosing n stream = Any (λ y. (y.number ≡ stream) × (y.past ≡ None)) n.streams.records

-- the streams that are closing, by rising number
pub record Closings (n : NodeState) : Type 0 where
  pub numbers : List ℕ
  pub rising : AllPairs (λ a b. a < b) numbers
  pub each : (stream : ℕ) → Contains numbers stream ↔ IsClosing n stream

-- At most so many outputs are given: those that are queued, in order, and, where these are all, the closings of the first streams. What was
-- given isn't queued any more, a stream whose closing was given has no record any more, and nothing else has changed
pub record Gives (n : NodeState) (max : ℕ) (outputs : List Output) (after : NodeState) : Type 0 where
  pub closings : Closings n
  pub outputs_are : outputs ≡ map goes_out (take max n.queue) ++ map Close (take (max - length n.queue) closings.numbers)
  pub leads : after ≡ record n {
    queue = drop max n.queue;
    streams = record n.streams {
      records = filter (λ y. not (list_any (λ closed. y.number == closed) (take (max - length n.queue) closings.numbers))) n.streams.records;
    };
  }

-- there is something to give: an output is queued, or a stream is closing
abbrev pub HasSome : NodeState → Type 0
HasSome n = (1 ≤ length n.queue) ⊎ ((stream : ℕ) × IsClosing n stream)

-- where there is no memory for it, nothing is given and nothing has changed
abbrev pub DrainDoes : NodeState → ℕ → Reply → NodeState → Type 0
DrainDoes n max (reply.Outputs outputs) after = Gives n max outputs after
DrainDoes n max reply.OutOfMemory after = (1 ≤ max) × HasSome n × (after ≡ n)
DrainDoes n max _ after = ⊥

-- each drain at each node to which steps lead, once the step has begun
abbrev pub DrainsAreExact : Type 0
DrainsAreExact = (n after : NodeState) (now max : ℕ) (x : Coming) (r : Reply) → IsBoundedNode n → NodeStep n now (input.Drain max) x r after
    → DrainDoes (begin n now) max r after
