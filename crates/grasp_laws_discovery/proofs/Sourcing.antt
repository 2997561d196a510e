-- Where the responses come from that a step queues.
use Rattle.std.proofs.Common.{◌≡◌, refl, sym, subst, ℕ, false, List, drop, length, Option, None, Some, All}
use Rattle.std.specs.Prelude.{Contains}
use Rattle.std.proofs.lemmas.Bool.{true≢false}
use Rattle.std.proofs.lemmas.List.Elements.{All-contains_itself}
use Rattle.grasp_laws_node.proofs.Remembered.{begun}
use Rattle.grasp_laws_node.specs.Alone.{IsNoResponse}
use Rattle.grasp_model_node.specs.Begin.{begin}
use Rattle.grasp_model_node.specs.Datagrams.{after_datagram}
use Rattle.grasp_model_node.specs.Node.{NodeState}
use Rattle.grasp_model_node.specs.Queue.{Queued, datagram, dial, send}
use Rattle.grasp_model_node.specs.Step.{Coming, TakesDatagram, TakesBytes, Acts}
use Rattle.grasp_model_node.specs.Streams.{past_of}
use Rattle.grasp_model_node.specs.declared.plan.NodePlan.{NodePlan}
use Rattle.grasp_discovery.specs.Discoveries.{Discoveries}
use Rattle.grasp_types.specs.declared.message.Message.{Message}
use Rattle.grasp_types.specs.declared.message.Message.TheVariants.{Discovery, Response}
use Rattle.grasp_types.specs.declared.reply.Reply.{Reply}
use Rattle.grasp_types.specs.declared.reply.Reply.TheVariants as reply
use Rattle.grasp_types.specs.declared.traffic.Input.{Input}
use Rattle.grasp_types.specs.declared.traffic.Input.TheVariants as input
use Rattle.grasp_wire.specs.Cutter.{Past}
use Rattle.grasp_laws_network.specs.Keeping.{TakesNothing}
use Rattle.grasp_model_network.specs.Visits.{is_starved}
use Rattle.grasp_laws_discovery.proofs.Discovering.{MayTake, datagram_keeps}
use Rattle.grasp_laws_discovery.proofs.Hearing.{ArePieces, bytes_keeps}
use Rattle.grasp_laws_discovery.proofs.Keeping.{Silently, Keeps, started, new_queue}
use Rattle.grasp_laws_discovery.proofs.Stepping.{plain_keeps}
use Rattle.grasp_laws_discovery.specs.Sources.{carried_by, IsResponseFrom, own, diverted, sent_on, IsMessageFrom, IsQueuedFrom, ResponsesHaveSources}

message_silent : (n : NodeState) (i : Input) (x : Coming) (m : Message) → IsNoResponse m → IsMessageFrom n i x m
message_silent n i x (Response session initiator ttl told o) is = absurd is
message_silent n i x _ is = tt

silent_from : (n : NodeState) (i : Input) (x : Coming) → Silently (IsQueuedFrom n i x)
silent_from n i x (send stream m) is = message_silent n i x m is
silent_from n i x (dial stream to) is = tt
silent_from n i x (datagram link to m) is = tt

-- nothing is asked of the discoveries
abbrev Anything : NodePlan → Discoveries → Type 0
Anything plan d = Unit {0}

module _ (n : NodeState) (i : Input) (x : Coming) where
  begins : Keeps n.queue (IsQueuedFrom n i x) Anything n
  begins = started (IsQueuedFrom n i x) Anything n tt

  -- ---- a datagram

  may_take : (m : Option Message) (after : NodeState) → carried_by i x ≡ m → MayTake (IsQueuedFrom n i x) n m after
  may_take (Some (Discovery session initiator o)) after e = record {
    own = λ queued serving stream. own session initiator o e serving refl;
    divert = λ known is stream. diverted session initiator o known e is refl;
  }
  may_take _ after e = tt

  datagram_from : (after : NodeState) (link from : ℕ) (r : Reply) → is_starved r ≡ false → carried_by i x ≡ x.carried → TakesDatagram n link from x r after → Keeps n.queue (IsQueuedFrom n i x) Anything after
  datagram_from after link from reply.Taken fed e t =
      subst (Keeps n.queue (IsQueuedFrom n i x) Anything) (sym t)
      (datagram_keeps n.queue (IsQueuedFrom n i x) Anything (silent_from n i x) (λ plan d xs h. tt) n link from x.carried (may_take x.carried (after_datagram n link from x.carried) e) begins)
  datagram_from after link from reply.OutOfMemory fed e t = absurd (true≢false fed)
  datagram_from after link from _ fed e t = absurd t

  -- ---- a piece of a stream

  -- the messages that come
  abbrev Comes : Message → Type 0
  Comes m = Contains x.added.messages m

  message_from : (m : Message) → (Comes m → IsResponseFrom n i x m) → Comes m → IsMessageFrom n i x m
  message_from (Response session initiator ttl told o) is c = is c
  message_from _ is c = tt

  pieces_come : (o : Option Past) → ArePieces Comes x.added o
  pieces_come None = tt
  pieces_come (Some past) = All-contains_itself x.added.messages

  bytes_from : (after : NodeState) (stream : ℕ) (bytes : List ℕ) (r : Reply) → is_starved r ≡ false → ((m : Message) → Comes m → IsResponseFrom n i x m) → TakesBytes n stream bytes x r after
      → Keeps n.queue (IsQueuedFrom n i x) Anything after
  bytes_from after stream bytes reply.Taken fed is t =
      subst (Keeps n.queue (IsQueuedFrom n i x) Anything) (sym t)
      (bytes_keeps n.queue (IsQueuedFrom n i x) Anything Comes (silent_from n i x) (λ to m c. message_from m (is m) c) (λ plan d session initiator ttl told o last c h. tt) n stream bytes x.added
      (pieces_come (past_of n.streams stream)) begins)
  bytes_from after stream bytes reply.OutOfMemory fed is t = absurd (true≢false fed)
  bytes_from after stream bytes _ fed is t = absurd t

-- ---- each input

input_from : (n after : NodeState) (i : Input) (x : Coming) (r : Reply) → TakesNothing i → is_starved r ≡ false → Acts n i x r after → Keeps n.queue (IsQueuedFrom n i x) Anything after
input_from n after (input.Datagram link from bytes) x r nothing fed a = datagram_from n (input.Datagram link from bytes) x after link from r fed refl a
input_from n after (input.Bytes stream bytes) x r nothing fed a = bytes_from n (input.Bytes stream bytes) x after stream bytes r fed (λ m c. sent_on c) a
input_from n after (input.Api asa call) x r nothing fed a =
    plain_keeps n.queue (IsQueuedFrom n (input.Api asa call) x) Anything (silent_from n (input.Api asa call) x) (λ plan d xs h. tt) n after (input.Api asa call) x r tt (begins n (input.Api asa call) x) a
input_from n after (input.Opened stream from) x r nothing fed a =
    plain_keeps n.queue (IsQueuedFrom n (input.Opened stream from) x) Anything (silent_from n (input.Opened stream from) x) (λ plan d xs h. tt) n after (input.Opened stream from) x r tt
    (begins n (input.Opened stream from) x) a
input_from n after (input.Closed stream) x r nothing fed a =
    plain_keeps n.queue (IsQueuedFrom n (input.Closed stream) x) Anything (silent_from n (input.Closed stream) x) (λ plan d xs h. tt) n after (input.Closed stream) x r tt (begins n (input.Closed stream) x) a
input_from n after (input.Drain most) x r nothing fed a =
    plain_keeps n.queue (IsQueuedFrom n (input.Drain most) x) Anything (silent_from n (input.Drain most) x) (λ plan d xs h. tt) n after (input.Drain most) x r nothing (begins n (input.Drain most) x) a

pub responses_have_sources : ResponsesHaveSources
responses_have_sources v c nothing step =
    subst (λ (q : List Queued). All (IsQueuedFrom (begin v.seat.core v.now) v.input c.coming) (drop (length q) c.after.queue)) (begun v.seat.core v.now).queue
    (new_queue (begin v.seat.core v.now).queue (IsQueuedFrom (begin v.seat.core v.now) v.input c.coming) Anything c.after
    (input_from (begin v.seat.core v.now) c.after v.input c.coming c.reply nothing step.fed step.steps.acts))
