-- The moves of a node: the small changes of which each step is a list, and what the tests of the step give of each.
use Rattle.std.proofs.Common.{◌≡◌, ℕ, true, false, not, ◌&&◌, List, [], ◌∷◌, length, Option, Some, None, Ok, refl, ◌∙◌}
use Rattle.grasp_asa.specs.Registrations.{Registrations, IsRegistry}
use Rattle.grasp_discovery.specs.Discoveries as discovery
use Rattle.grasp_discovery.specs.Topic.{topic_of}
use Rattle.grasp_discovery.specs.declared.answers.Cause.{Cause}
use Rattle.grasp_discovery.specs.declared.answers.Find.{Find}
use Rattle.grasp_discovery.specs.declared.answers.Find.TheVariants as find
use Rattle.grasp_discovery.specs.declared.answers.Heard.TheVariants as discovered
use Rattle.grasp_flood.specs.Floods as flood
use Rattle.grasp_flood.specs.declared.heard.Heard as told
use Rattle.grasp_flood.specs.declared.keys.FloodKey.{FloodKey}
use Rattle.grasp_session.specs.Sessions.{owner_of, session_at, state_reply, start_reply, after_start, check_reply, receive_reply, after_receive, poll_reply, after_poll, after_mark, after_adopt, after_remove, expire_reply, after_expire}
use Rattle.grasp_session.specs.Transcript.{Mark, Saying, SayWait, act_of}
use Rattle.grasp_session.specs.declared.answer.Act.TheVariants as act
use Rattle.grasp_session.specs.declared.answer.Received.TheVariants.{Kept}
use Rattle.grasp_types.specs.Origin.{origin_of}
use Rattle.grasp_types.specs.declared.address.Address.{Address}
use Rattle.grasp_types.specs.declared.address.Locator.{Locator}
use Rattle.grasp_types.specs.declared.flood.FloodPart.{FloodPart}
use Rattle.grasp_types.specs.declared.message.Answer.{Answer}
use Rattle.grasp_types.specs.declared.message.Message.{Message}
use Rattle.grasp_types.specs.declared.message.Message.TheVariants.{Response, End, Synch, Invalid}
use Rattle.grasp_types.specs.declared.message.Verdict.TheVariants.{Decline}
use Rattle.grasp_types.specs.declared.objective.Objective.{Objective}
use Rattle.grasp_types.specs.declared.session.Handle.{Handle}
use Rattle.grasp_types.specs.declared.session.Kind.{Kind}
use Rattle.grasp_types.specs.declared.session.Progress.{Progress}
use Rattle.grasp_wire.specs.Cutter.{Past, no_past}
use Rattle.grasp_model_node.specs.Begin.{discoveries_expired, floods_expired}
use Rattle.grasp_model_node.specs.Datagrams.{discovery_kept, flood_kept}
use Rattle.grasp_model_node.specs.Declines.{Declining, declined, declined_for, unlistened}
use Rattle.grasp_model_node.specs.Draining.{after_drain}
use Rattle.grasp_model_node.specs.Draws.{next_session}
use Rattle.grasp_model_node.specs.FloodCalls.{to_all, count_all, find_of, begun, discovery_message}
use Rattle.grasp_model_node.specs.Hear.{is_listened, untaken, answered_with}
use Rattle.grasp_model_node.specs.Moves.{with_reading, with_registrations, with_sessions, with_discoveries, with_floods, with_draw, begin_closing, keep_past, drop_record, open_record, dial_record, queue_up, may_queue}
use Rattle.grasp_model_node.specs.Node.{NodeState}
use Rattle.grasp_model_node.specs.Opening.{is_ignored}
use Rattle.grasp_model_node.specs.Queue.{Queued, send, dial, along, fits, has_room}
use Rattle.grasp_model_node.specs.RegistryCalls.{without_searches}
use Rattle.grasp_model_node.specs.SessionCalls.{stream_at, act_message, said, requested, request_of}
use Rattle.grasp_model_node.specs.Streams.{is_full, is_dialled_out, next_stream}
use Rattle.grasp_model_node.specs.Tests.{no_asa}
use Rattle.grasp_model_node.specs.declared.way.Way.{Way}

-- what makes a move: the beginning of a step; a call, or one that may send to all neighbours; a datagram; a stream on which something comes,
-- or that a peer opens; or a drain
pub data Turn : Type 0 where
  begins : Turn
  calls : (asa : ℕ) → Turn
  spreads : (asa : ℕ) → Turn
  datagrams : Turn
  on_stream : (stream : ℕ) → Turn
  opening : (stream : ℕ) (from : Address) → Turn
  drains : Turn

-- what is known of each message that comes on a stream, of each stream for which something is queued alone, of what came on a stream
-- that is open afterwards, and of what an agent says
pub record Known : Type 1 where
  pub message : Message → Type 0
  pub stream : ℕ → Type 0
  pub past : ℕ → Past → Type 0
  pub saying : Saying → Type 0

-- nothing is known
abbrev pub anything : Known
anything = record { message = λ m. Unit {0}; stream = λ s. Unit {0}; past = λ s p. Unit {0}; saying = λ s. Unit {0} }

-- for a turn in which nothing comes on a stream, and nothing is said
abbrev pub nothing : Known
nothing = record { message = λ m. ⊥; stream = λ s. ⊥; past = λ s p. ⊥; saying = λ s. ⊥ }

-- the message is a response
abbrev pub IsResponse : Message → Type 0
IsResponse (Response session initiator ttl told o) = Unit {0}
IsResponse _ = ⊥

-- the message is one that a node says by itself on a stream that is open: it declines, gives a value, or tells of what is bad
abbrev pub IsAnswer : Message → Type 0
IsAnswer (End session (Decline reason)) = Unit {0}
IsAnswer (Synch session o) = Unit {0}
IsAnswer (Invalid session detail) = Unit {0}
IsAnswer _ = ⊥

-- the message declines what isn't listened for
abbrev pub IsUnlistened : Message → Type 0
IsUnlistened (End session verdict) = verdict ≡ declined_for unlistened
IsUnlistened _ = ⊥

-- what is said in a session fits; a wait fits every limit, and isn't tested
abbrev pub CanSay : NodeState → Handle → Saying → Type 0
CanSay n h (SayWait millis) = Unit {0}
CanSay n h saying = fits n.plan.limit (act_message n h saying) ≡ true

-- the outputs that dial the next stream, and send this on it
abbrev pub next_dial : NodeState → Locator → Message → List Queued
next_dial n to m = dial (next_stream n.streams) to ∷ send (next_stream n.streams) m ∷ []

-- a move of a turn from one node to another, in a step whose beginning led to the base
pub data Move (k : Known) (base n : NodeState) : Turn → NodeState → Type 0 where
  reads : (now : ℕ) → Move k base n begins (with_reading n now)
  times_out : (stream : ℕ) → expire_reply n.sessions n.reading ≡ Some stream → Move k base n begins (begin_closing (with_sessions n (after_expire n.sessions n.reading)) stream)
  ends_discoveries : Move k base n begins (discoveries_expired n)
  ends_floods : Move k base n begins (floods_expired n)
  answers : {stream : ℕ} (m : Message) → IsAnswer m → k.stream stream → may_queue n m 1 ≡ true → Move k base n (on_stream stream) (queue_up n (send stream m ∷ []))
  responds : {stream : ℕ} (to : Locator) (m : Message) → IsResponse m → k.message m → may_queue n m 2 && not (is_dialled_out n.streams) ≡ true → Move k base n (on_stream stream) (dial_record (queue_up n (next_dial n to m)) None)
  marks : {stream : ℕ} (mark : Mark) → Move k base n (on_stream stream) (with_sessions n (after_mark n.sessions stream mark))
  keeps : {stream : ℕ} (m : Message) → receive_reply n.sessions stream m ≡ Kept → Move k base n (on_stream stream) (with_sessions n (after_receive n.sessions n.reading stream m Kept))
  listens : {stream : ℕ} (session : ℕ) (o : Objective) (h : Handle) → k.stream stream → start_reply n.sessions ≡ Ok h → state_reply n.sessions stream ≡ None → is_listened n.registrations o ≡ true
      → Move k base n (on_stream stream) (with_sessions n (after_start n.sessions n.reading (untaken stream session o) (Ok h)))
  caches : {stream : ℕ} (session : ℕ) (initiator : Address) (ttl : ℕ) (told : Answer) (o : Option Objective) → k.message (Response session initiator ttl told o)
      → Move k base n (on_stream stream)
      (with_discoveries n (discovery.after_answered n.discoveries (discovery.end_of n.reading ttl) (answered_with told) (discovery.asker_of n.discoveries n.plan.address (origin_of session initiator))))
  closes : {stream : ℕ} → Move k base n (on_stream stream) (begin_closing n stream)
  goes_on : {stream : ℕ} (past : Past) → k.past stream past → Move k base n (on_stream stream) (keep_past n stream past)
  leaves : {stream : ℕ} → Move k base n (on_stream stream) (drop_record n stream)
  opens : {stream : ℕ} {from : Address} → k.past stream no_past → is_ignored n stream ≡ false → is_full n.streams ≡ false → Move k base n (opening stream from) (open_record n stream from)
  remembers : (cause : Cause) (session : ℕ) (initiator : Address) (o : Objective) → discovery.heard_reply n.discoveries (origin_of session initiator) ≡ discovered.New
      → Move k base n datagrams (discovery_kept n cause session initiator o)
  learns : (session : ℕ) (initiator : Address) (ttl : ℕ) (parts : List FloodPart) (heard : told.Heard) → flood.heard_reply n.floods (origin_of session initiator) ≡ heard
      → Move k base n datagrams (flood_kept n session initiator ttl parts heard)
  relays : (m : Message) (ways : List Way) → may_queue n m (length ways) ≡ true → Move k base n datagrams (queue_up n (along m ways))
  replies : (to : Locator) (m : Message) → IsResponse m → may_queue n m 2 && not (is_dialled_out n.streams) ≡ true → Move k base n datagrams (dial_record (queue_up n (next_dial n to m)) None)
  registers : {asa : ℕ} (r : Registrations) → (IsRegistry n.registrations → IsRegistry r) → Move k base n (calls asa) (with_registrations n r)
  says : {asa : ℕ} (h : Handle) (saying : Saying) → k.saying saying → k.stream (stream_at n h) → check_reply n.sessions asa h (act_of saying) ≡ Ok tt → has_room n.queue 1 ≡ true → CanSay n h saying → Move k base n (calls asa) (said n h saying)
  declines : {asa : ℕ} (d : Declining) → IsUnlistened d.message → k.stream d.stream → check_reply n.sessions 0 d.handle act.End ≡ Ok tt → has_room n.queue 1 ≡ true → Move k base n (calls asa) (declined n d)
  removes : {asa : ℕ} (h : Handle) → Move k base n (calls asa) (with_sessions n (after_remove n.sessions h))
  shuts : {asa : ℕ} (stream : ℕ) → Move k base n (calls asa) (begin_closing n stream)
  polls : {asa : ℕ} (h : Handle) (progress : Progress) → Ok progress ≡ poll_reply n.sessions asa h → Move k base n (calls asa) (with_sessions n (after_poll n.sessions h (Ok progress)))
  adopts : {asa : ℕ} (h : Handle) → no_asa base asa ≡ false → owner_of (session_at n.sessions h) ≡ Some 0 → Move k base n (calls asa) (with_sessions n (after_adopt n.sessions asa h))
  asks : {asa : ℕ} (kind : Kind) (timeout : ℕ) (o : Objective) (peer : Locator) → n ≡ base → k.past (next_stream n.streams) no_past → no_asa n asa ≡ false → is_dialled_out n.streams ≡ false → has_room n.queue 2 ≡ true → fits n.plan.limit (request_of kind (next_session n) o) ≡ true
      → Move k base n (calls asa) (requested n asa kind timeout o peer)
  forgets : {asa : ℕ} → Move k base n (calls asa) (without_searches n asa)
  drops : {asa : ℕ} (key : FloodKey) → Move k base n (calls asa) (with_floods n (flood.after_drop n.floods key))
  searches : {asa : ℕ} (name : List ℕ) (kind : Kind) (loops timeout : ℕ) → n ≡ base → find_of n asa name kind ≡ find.Fresh → discovery.is_full n.discoveries ≡ false → has_room n.queue (count_all n) ≡ true → fits n.plan.limit (discovery_message n name kind loops) ≡ true
      → Move k base n (spreads asa) (begun n asa name kind loops timeout)
  finds : {asa : ℕ} (name : List ℕ) (kind : Kind) (answer : Find) → Move k base n (spreads asa) (with_discoveries n (discovery.after_find n.discoveries asa (topic_of name kind) answer))
  tells_all : {asa : ℕ} (m : Message) → has_room n.queue (count_all n) ≡ true → fits n.plan.limit m ≡ true → Move k base n (spreads asa) (to_all (with_draw n) m)
  drains_out : (max : ℕ) → Move k base n drains (after_drain n max)

-- a list of moves of a turn from one node to another
pub data Moves (k : Known) (base : NodeState) (turn : Turn) (n : NodeState) : NodeState → Type 0 where
  still : Moves k base turn n n
  further : {m after : NodeState} → Moves k base turn n m → Move k base m turn after → Moves k base turn n after

-- what each move of a turn leaves so
abbrev pub Keeps : Known → NodeState → Turn → (NodeState → Type 0) → Type 0
Keeps k base turn P = (n after : NodeState) → Move k base n turn after → P n → P after

-- what each move keeps is kept
pub kept : {k : Known} {base : NodeState} {turn : Turn} {n after : NodeState} (P : NodeState → Type 0) → Keeps k base turn P → Moves k base turn n after → P n → P after
kept P each still p = p
kept P each (further {m = m} ms x) p = each m _ x (kept P each ms p)

-- a part of the node that no move changes is the same
pub stays : {k : Known} {base : NodeState} {turn : Turn} {n after : NodeState} {A : Type 0} (part : NodeState → A)
    → ((n after : NodeState) → Move k base n turn after → part after ≡ part n) → Moves k base turn n after → part after ≡ part n
stays part each still = refl
stays part each (further {m = m} ms x) = each m _ x ∙ stays part each ms

-- one list of moves behind another
pub followed : {k : Known} {base : NodeState} {turn : Turn} {n m after : NodeState} → Moves k base turn n m → Moves k base turn m after → Moves k base turn n after
followed a still = a
followed a (further b x) = further (followed a b) x

-- Inside: all moves unfold
unfoldable pub unfolded : Unit {0}
unfolding with_reading with_registrations with_sessions with_discoveries with_floods with_draw begin_closing keep_past drop_record open_record dial_record queue_up after_drain
unfolded = tt
