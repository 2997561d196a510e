-- Each piece of a stream leaves it so: only the responses in it are cached, and they are sent on unchanged.
use Rattle.std.proofs.Common.{◌≡◌, ℕ, ◌+◌, List, [], ◌∷◌, ◌++◌, Option, None, Some, All, refl, ap, ◌∙◌}
use Rattle.std.proofs.lemmas.List.Elements.{All-append, All-head, All-tail}
use Rattle.std.proofs.lemmas.List.{append_assoc}
use Rattle.grasp_discovery.specs.Discoveries.{Discoveries, asker_of, after_answered, end_of}
use Rattle.grasp_laws_node.proofs.Walk.Bytes.{Each, bytes_moves}
use Rattle.grasp_laws_node.proofs.Walk.Moves as walk
use Rattle.grasp_laws_node.proofs.Walk.Moves.{Known, Move, IsAnswer, on_stream, next_dial, still, kept, unfolded}
use Rattle.grasp_laws_node.specs.Alone.{IsNoResponse}
use Rattle.grasp_types.specs.Origin.{origin_of}
use Rattle.grasp_types.specs.declared.address.Address.{Address}
use Rattle.grasp_types.specs.declared.message.Answer.{Answer}
use Rattle.grasp_types.specs.declared.message.Message.{Message}
use Rattle.grasp_types.specs.declared.message.Message.TheVariants.{Response, End, Synch, Invalid}
use Rattle.grasp_types.specs.declared.message.Verdict.TheVariants.{Decline}
use Rattle.grasp_types.specs.declared.objective.Objective.{Objective}
use Rattle.grasp_wire.specs.Cutter.{Past}
use Rattle.grasp_model_node.specs.Bytes.{Added, after_bytes}
use Rattle.grasp_model_node.specs.Hear.{answered_with}
use Rattle.grasp_model_node.specs.Node.{NodeState}
use Rattle.grasp_model_node.specs.Queue.{Queued, send}
use Rattle.grasp_model_node.specs.Streams.{next_stream, past_of}
use Rattle.grasp_model_node.specs.declared.plan.NodePlan.{NodePlan}
use Rattle.grasp_laws_discovery.proofs.Keeping.{Silently, Keeps, one_so, dial_so}

-- a response of these puts its locators into the cache and leaves it so
abbrev pub Caches : (NodePlan → Discoveries → Type 0) → (Message → Type 0) → Type 0
Caches P H = (plan : NodePlan) (d : Discoveries) (session : ℕ) (initiator : Address) (ttl : ℕ) (told : Answer) (o : Option Objective) (last : ℕ) → H (Response session initiator ttl told o) → P plan d
    → P plan (after_answered d last (answered_with told) (asker_of d plan.address (origin_of session initiator)))

-- a message of which H holds may be sent on: Q holds of it on any stream
abbrev pub SentOn : (Message → Type 0) → (Queued → Type 0) → Type 0
SentOn H Q = (stream : ℕ) (m : Message) → H m → Q (send stream m)

-- the messages that come on a stream, where it is open, are such ones
abbrev pub ArePieces : (Message → Type 0) → Added → Option Past → Type 0
ArePieces H a None = Unit {0}
ArePieces H a (Some past) = All H a.messages

-- what a node says by itself is no response
answer_silent : (m : Message) → IsAnswer m → IsNoResponse m
answer_silent (End session (Decline reason)) i = tt
answer_silent (Synch session o) i = tt
answer_silent (Invalid session detail) i = tt
answer_silent _ i = absurd i

module _ (old : List Queued) (Q : Queued → Type 0) (P : NodePlan → Discoveries → Type 0) (H : Message → Type 0) (silent : Silently Q) (sends : SentOn H Q) (caches : Caches P H) where
  -- H holds of each message that comes
  abbrev heard_so : Known
  heard_so = record { message = H; stream = λ s. Unit {0}; past = λ s p. Unit {0}; saying = λ s. Unit {0} }

  queues : (n after : NodeState) (outputs : List Queued) → after.queue ≡ n.queue ++ outputs → P after.plan after.discoveries → All Q outputs → Keeps old Q P n → Keeps old Q P after
  queues n after outputs q has h k = record { has = has; more = k.more ++ outputs; queue = q ∙ (ap (λ l. l ++ outputs) k.queue ∙ append_assoc old k.more outputs); each = All-append Q k.more outputs k.each h }

  move_keeps : (stream : ℕ) (base n after : NodeState) → Move heard_so base n (on_stream stream) after → Keeps old Q P n → Keeps old Q P after
  unfolding unfolded
  move_keeps stream base n after (walk.answers m i so e) k = queues n _ (send stream m ∷ []) refl k.has (one_so old Q P stream m (silent (send stream m) (answer_silent m i))) k
  move_keeps stream base n after (walk.responds to m i so e) k = queues n _ (next_dial n to m) refl k.has (dial_so old Q P silent (next_stream n.streams) to m (sends (next_stream n.streams) m so)) k
  move_keeps stream base n after (walk.caches session initiator ttl told o so) k =
      record { has = caches n.plan n.discoveries session initiator ttl told o (end_of n.reading ttl) so k.has; more = k.more; queue = k.queue; each = k.each }
  move_keeps stream base n after _ k = record { has = k.has; more = k.more; queue = k.queue; each = k.each }

  each_of : (ms : List Message) → All H ms → Each H ms
  each_of [] are = tt
  each_of (m ∷ ms) are = (All-head H m ms are, each_of ms (All-tail H m ms are))

  pieces : (a : Added) (o : Option Past) (past : Past) → ArePieces H a o → o ≡ Some past → Each H a.messages
  pieces a None past are e = absurd (cc)
  pieces a (Some before) past are e = each_of a.messages are

  pub bytes_keeps : (n : NodeState) (stream : ℕ) (piece : List ℕ) (a : Added) → ArePieces H a (past_of n.streams stream) → Keeps old Q P n → Keeps old Q P (after_bytes n stream piece a)
  bytes_keeps n stream piece a are k =
      kept (Keeps old Q P) (move_keeps stream n)
      (bytes_moves heard_so n n stream n piece a (λ past e. record { stream_so = tt; messages = pieces a (past_of n.streams stream) past are e; past_so = λ waits. tt }) still) k
