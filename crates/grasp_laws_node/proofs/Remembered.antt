-- What a beginning leaves of a node, and which memories it takes away.
use Rattle.std.proofs.Common.{◌≡◌, ℕ, zero, suc, max, nat_lt, Bool, true, false, cond, [], Option, None, Some, refl, sym, ap, ◌∙◌, subst, lt-ltb}
use Rattle.std.specs.Prelude.{Contains}
use Rattle.grasp_cbor.proofs.Facts.Lists.{filter_keeps}
use Rattle.grasp_discovery.specs.Discoveries as discovery
use Rattle.grasp_discovery.specs.declared.memory.Memory.{Memory}
use Rattle.grasp_flood.specs.Floods as flood
use Rattle.grasp_session.specs.Sessions.{expire_reply}
use Rattle.grasp_types.specs.declared.address.Address.{Address}
use Rattle.grasp_types.specs.declared.origin.Origin.{Origin}
use Rattle.grasp_types.specs.declared.reply.Reply.{Reply}
use Rattle.grasp_types.specs.declared.reply.Reply.TheVariants as reply
use Rattle.grasp_types.specs.declared.traffic.Input.{Input}
use Rattle.grasp_types.specs.declared.traffic.Input.TheVariants as input
use Rattle.grasp_model_node.specs.Begin.{expire_on, expired, discoveries_expired, floods_expired, begin}
use Rattle.grasp_laws_node.specs.Alone.{LeavesTheRest}
use Rattle.grasp_model_node.specs.Bytes.{broken, after_closed}
use Rattle.grasp_model_node.specs.Draining.{after_drain}
use Rattle.grasp_model_node.specs.Moves.{with_reading, with_sessions, with_discoveries, with_floods, begin_closing, open_record, drop_record}
use Rattle.grasp_model_node.specs.Node.{NodeState}
use Rattle.grasp_model_node.specs.Opening.{is_ignored, after_opened}
use Rattle.grasp_laws_node.specs.Relays.{Queues, RelaysAreOnce, BeginKeeps, MemoriesStay, DrainQueues}
use Rattle.grasp_model_node.specs.Step.{Coming, NodeStep, Drains}
use Rattle.grasp_model_node.specs.Streams.{has_record}
use Rattle.grasp_laws_node.proofs.CallsSend.{call_queues}
use Rattle.grasp_laws_node.proofs.SentOn.{Grows, as_before, keeps, datagram_queues}
use Rattle.grasp_laws_node.proofs.StreamsAlone.{bytes_queue, peers_leave}

-- ---- the beginning

-- what sessions that time out leave as it was
pub record OnlyTimes (n after : NodeState) : Type 0 where
  pub plan : after.plan ≡ n.plan
  pub reading : after.reading ≡ n.reading
  pub registrations : after.registrations ≡ n.registrations
  pub discoveries : after.discoveries ≡ n.discoveries
  pub floods : after.floods ≡ n.floods
  pub dialled : after.streams.dialled ≡ n.streams.dialled
  pub queue : after.queue ≡ n.queue
  pub drawn : after.drawn ≡ n.drawn

times_on : (n : NodeState) (o : Option ℕ) → OnlyTimes n (expire_on n o)
unfolding with_sessions begin_closing
times_on n None = record { plan = refl; reading = refl; registrations = refl; discoveries = refl; floods = refl; dialled = refl; queue = refl; drawn = refl }
times_on n (Some stream) = record { plan = refl; reading = refl; registrations = refl; discoveries = refl; floods = refl; dialled = refl; queue = refl; drawn = refl }

times_then : (n m after : NodeState) → OnlyTimes n m → OnlyTimes m after → OnlyTimes n after
times_then n m after a b = record {
  plan = b.plan ∙ a.plan;
  reading = b.reading ∙ a.reading;
  registrations = b.registrations ∙ a.registrations;
  discoveries = b.discoveries ∙ a.discoveries;
  floods = b.floods ∙ a.floods;
  dialled = b.dialled ∙ a.dialled;
  queue = b.queue ∙ a.queue;
  drawn = b.drawn ∙ a.drawn;
}

pub times : (k : ℕ) (n : NodeState) → OnlyTimes n (expired k n)
unfolding expired
times zero n = record { plan = refl; reading = refl; registrations = refl; discoveries = refl; floods = refl; dialled = refl; queue = refl; drawn = refl }
times (suc k) n =
    times_then n (expired k n) (expired (suc k) n) (times k n) (times_on (expired k n) (expire_reply (expired k n).sessions (expired k n).reading))

-- what a beginning is, by part
pub record Begun (n after : NodeState) (now : ℕ) : Type 0 where
  pub plan : after.plan ≡ n.plan
  pub reading : after.reading ≡ max n.reading now
  pub registrations : after.registrations ≡ n.registrations
  pub sessions : after.sessions ≡ (expired 64 (with_reading n now)).sessions
  pub discoveries : after.discoveries ≡ discovery.after_expiry n.discoveries (max n.reading now)
  pub floods : after.floods ≡ flood.after_expiry n.floods (max n.reading now)
  pub streams : after.streams ≡ (expired 64 (with_reading n now)).streams
  pub dialled : after.streams.dialled ≡ n.streams.dialled
  pub queue : after.queue ≡ n.queue
  pub drawn : after.drawn ≡ n.drawn

ends : (n m : NodeState) (now : ℕ) → m ≡ expired 64 (with_reading n now) → OnlyTimes (with_reading n now) m → Begun n (floods_expired (discoveries_expired m)) now
unfolding with_reading with_discoveries with_floods
ends n m now e t = record {
  plan = t.plan;
  reading = t.reading;
  registrations = t.registrations;
  sessions = ap (λ (x : NodeState). x.sessions) e;
  discoveries = ap (λ d. discovery.after_expiry d m.reading) t.discoveries ∙ ap (discovery.after_expiry n.discoveries) t.reading;
  floods = ap (λ f. flood.after_expiry f m.reading) t.floods ∙ ap (flood.after_expiry n.floods) t.reading;
  streams = ap (λ (x : NodeState). x.streams) e;
  dialled = t.dialled;
  queue = t.queue;
  drawn = t.drawn;
}

pub begun : (n : NodeState) (now : ℕ) → Begun n (begin n now) now
unfolding begin
begun n now = ends n (expired 64 (with_reading n now)) now refl (times 64 (with_reading n now))

begin_keeps : (n : NodeState) (now : ℕ) → BeginKeeps n now
begin_keeps n now =
    let b = begun n now in record {
      discoveries = λ memory h later.
          subst (λ (d : discovery.Discoveries). Contains d.memories memory) (sym b.discoveries)
          (filter_keeps (λ (memory : Origin × Memory). nat_lt (max n.reading now) memory.1.end) n.discoveries.memories h.0 memory h.1 h.2 (lt-ltb (max n.reading now) memory.1.end later));
      floods = λ memory h later.
          subst (λ (f : flood.Floods). Contains f.memories memory) (sym b.floods)
          (filter_keeps (λ (memory : Origin × ℕ). nat_lt (max n.reading now) memory.1) n.floods.memories h.0 memory h.1 h.2 (lt-ltb (max n.reading now) memory.1 later));
    }

-- ---- each input

quiet : (n after : NodeState) (stream : ℕ) (x : Coming) → LeavesTheRest stream x n after → Grows n after
quiet n after stream x l = as_before n after l.memories (ap (λ (f : flood.Floods). f.memories) l.floods)

opens : (n : NodeState) (stream : ℕ) (from : Address) (b : Bool) → (cond b n (open_record n stream from)).queue ≡ n.queue
unfolding open_record
opens n stream from true = refl
opens n stream from false = refl

opened_queue : (n : NodeState) (stream : ℕ) (from : Address) (r : Reply) → (after_opened n stream from r).queue ≡ n.queue
opened_queue n stream from reply.Taken = opens n stream from (is_ignored n stream)
opened_queue n stream from _ = refl

closed_queue : (n : NodeState) (stream : ℕ) → (after_closed n stream).queue ≡ n.queue
unfolding after_closed with_sessions drop_record
closed_queue n stream = by (has_record n.streams stream) where
  by : (b : Bool) → (cond b (broken n stream) n).queue ≡ n.queue
  by true = refl
  by false = refl

drain_queue : (n : NodeState) (most : ℕ) → DrainQueues n most (reply.Outputs []) (after_drain n most) × Grows n (after_drain n most)
unfolding after_drain
drain_queue n most = (refl, as_before n (after_drain n most) refl refl)

drains : (n after : NodeState) (most : ℕ) (r : Reply) → Drains n most r after → DrainQueues n most r after × Grows n after
drains n after most (reply.Outputs outputs) d = subst (λ m. DrainQueues n most (reply.Outputs outputs) m × Grows n m) (sym d.1) (drain_queue n most)
drains n after most reply.OutOfMemory d = let q : after.queue ≡ n.queue = ap (λ (m : NodeState). m.queue) d.1 in (q, subst (Grows n) (sym d.1) (as_before n n refl refl))
drains n after most _ d = absurd d

acts : (n after : NodeState) (now : ℕ) (i : Input) (x : Coming) (r : Reply) → NodeStep n now i x r after → Queues (begin n now) i x r after × Grows (begin n now) after
acts n after now (input.Api asa it) x r s = call_queues (begin n now) after asa it r s.acts
acts n after now (input.Datagram link from bytes) x r s = datagram_queues (begin n now) after link from x r s.acts
acts n after now (input.Opened stream from) x r s = (
  ap (λ (m : NodeState). m.queue) s.acts.1 ∙ opened_queue (begin n now) stream from r,
  quiet (begin n now) after stream x ((peers_leave n after now stream x r).0 from s),
)
acts n after now (input.Bytes stream bytes) x r s = (bytes_queue stream (begin n now) after bytes x r s.is_coming s.acts, quiet (begin n now) after stream x ((peers_leave n after now stream x r).1 bytes s))
acts n after now (input.Closed stream) x r s = (
  ap (λ (m : NodeState). m.queue) s.acts.1 ∙ closed_queue (begin n now) stream,
  quiet (begin n now) after stream x ((peers_leave n after now stream x r).2 s),
)
acts n after now (input.Drain most) x r s = drains (begin n now) after most r s.acts

pub relays_once : RelaysAreOnce
relays_once n after now i x r s = (acts n after now i x r s).0

pub memories_stay : MemoriesStay
memories_stay = (begin_keeps, λ n after now i x r s. keeps (begin n now) after (acts n after now i x r s).1)
