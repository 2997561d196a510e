-- A node that caches what was answered alone, and queues real responses alone: each input leaves it so.
use Rattle.std.proofs.Common.{◌≡◌, refl, sym, subst, ℕ, max, true, false, List, [], drop, length, Option, None, Some, All}
use Rattle.std.specs.List.{list_any}
use Rattle.std.proofs.lemmas.Bool.{true≢false}
use Rattle.std.proofs.lemmas.List.Elements.{All-nil, All-cons, All-drop, All-weaker}
use Rattle.grasp_agent.specs.Calls.{next_call}
use Rattle.grasp_asa.specs.Answers.{flags_registered}
use Rattle.grasp_laws_node.proofs.Remembered.{Begun, begun}
use Rattle.grasp_laws_node.specs.Alone.{IsNoResponse}
use Rattle.grasp_model_node.specs.Begin.{begin}
use Rattle.grasp_model_node.specs.Bytes.{after_bytes}
use Rattle.grasp_model_node.specs.Datagrams.{serves, after_datagram}
use Rattle.grasp_model_node.specs.Draining.{after_drain}
use Rattle.grasp_model_node.specs.Hear.{answered_with}
use Rattle.grasp_model_node.specs.Node.{NodeState}
use Rattle.grasp_model_node.specs.Queue.{Queued, datagram, dial, send}
use Rattle.grasp_model_node.specs.Step.{Coming, TakesDatagram, TakesBytes, Acts}
use Rattle.grasp_model_node.specs.Streams.{past_of}
use Rattle.grasp_model_node.specs.declared.plan.NodePlan.{NodePlan}
use Rattle.grasp_discovery.specs.Discoveries.{Discoveries, asker_of, after_answered, known_of}
use Rattle.grasp_discovery.specs.declared.answers.Answered.{Answered}
use Rattle.grasp_discovery.specs.declared.topic.Topic.{Topic}
use Rattle.grasp_pool.specs.Holdings.{Holding}
use Rattle.grasp_types.specs.Origin.{origin_of}
use Rattle.grasp_types.specs.declared.address.Address.{Address}
use Rattle.grasp_types.specs.declared.address.Locator.{Locator}
use Rattle.grasp_types.specs.declared.message.Answer.{Answer}
use Rattle.grasp_types.specs.declared.message.Answer.TheVariants.{Locators, Divert}
use Rattle.grasp_types.specs.declared.message.Message.{Message}
use Rattle.grasp_types.specs.declared.message.Message.TheVariants.{Discovery, Response}
use Rattle.grasp_types.specs.declared.objective.Objective.{Objective}
use Rattle.grasp_types.specs.declared.reply.ApiAnswer.{ApiAnswer}
use Rattle.grasp_types.specs.declared.reply.ApiAnswer.TheVariants as answer
use Rattle.grasp_types.specs.declared.reply.Reply.{Reply}
use Rattle.grasp_types.specs.declared.reply.Reply.TheVariants as reply
use Rattle.grasp_types.specs.declared.traffic.Input.{Input}
use Rattle.grasp_model_network.specs.EventSteps.{is_own_answer}
use Rattle.grasp_laws_network.specs.Keeping.{WorldGrows}
use Rattle.grasp_model_network.specs.Openings.{fresh_seat, answered_seat, opened_seat}
use Rattle.grasp_model_network.specs.Setting.{Setting}
use Rattle.grasp_model_network.specs.Visits.{is_starved}
use Rattle.grasp_model_network.specs.World.{Seat, WorldState}
use Rattle.grasp_laws_discovery.proofs.Asking.{AsksForIt}
use Rattle.grasp_laws_discovery.proofs.Caching.{AreEntries, AreAsked, AreKnown, answered_entries, expiry_entries, known_real}
use Rattle.grasp_laws_discovery.proofs.Calling.{call_keeps}
use Rattle.grasp_laws_discovery.proofs.Discovering.{topic_in, MayTake, datagram_keeps}
use Rattle.grasp_laws_discovery.proofs.Hearing.{Caches, ArePieces, bytes_keeps}
use Rattle.grasp_laws_discovery.proofs.Keeping.{Silently, Keeps, started, whole_queue}
use Rattle.grasp_laws_discovery.proofs.Longer.{queued_longer, entry_longer}
use Rattle.grasp_laws_discovery.proofs.Stepping.{IsPlain, plain_keeps}
use Rattle.grasp_laws_discovery.specs.Locators.{WasAnswered, WasLookedFor, TellsAnswered, IsResponseReal, IsMessageReal, IsQueuedReal, IsEntryReal}

pub record NodeReal (s : Setting) (w : WorldState) (n : NodeState) : Type 0 where
  pub cached : AreEntries s w n.discoveries
  pub queue : All (IsQueuedReal s w) n.queue

pub node_longer : (s : Setting) (w x : WorldState) → WorldGrows w x → (n : NodeState) → NodeReal s w n → NodeReal s x n
node_longer s w x g n k = record {
  cached = All-weaker (IsEntryReal s w) (IsEntryReal s x) (entry_longer s w x g) n.discoveries.entries k.cached;
  queue = All-weaker (IsQueuedReal s w) (IsQueuedReal s x) (queued_longer s w x g) n.queue k.queue;
}

-- where the node has queued a response of its own behind what was queued, and serves what is asked for, its answer is noted
abbrev pub IsNoted : Setting → WorldState → NodeState → Objective → NodeState → Type 0
IsNoted s w n o after = list_any is_own_answer (drop (length n.queue) after.queue) ≡ true → serves o.flags (flags_registered n.registrations o.name) ≡ true → WasAnswered s w (topic_in o) n.plan.locator

-- a discovery that comes was sent, and its answer is noted
abbrev pub IsCarriedReal : Setting → WorldState → NodeState → Option Message → NodeState → Type 0
IsCarriedReal s w n (Some (Discovery session initiator o)) after = WasLookedFor w session initiator (topic_in o) × IsNoted s w n o after
IsCarriedReal s w n _ after = Unit {0}

module _ (s : Setting) (w : WorldState) where
  message_silent : (m : Message) → IsNoResponse m → IsMessageReal s w m
  message_silent (Response session initiator ttl told o) is = absurd is
  message_silent _ is = tt

  silent_real : Silently (IsQueuedReal s w)
  silent_real (send stream m) is = message_silent m is
  silent_real (dial stream to) is = tt
  silent_real (datagram link to m) is = tt

  -- what is so of the discoveries, beside what is queued
  abbrev Cached : NodePlan → Discoveries → Type 0
  Cached plan d = AreEntries s w d

  -- what was queued was real, and so is what was queued behind it
  from_keeps : (P : NodePlan → Discoveries → Type 0) (old : List Queued) (n : NodeState) → (P n.plan n.discoveries → AreEntries s w n.discoveries) → All (IsQueuedReal s w) old → Keeps old (IsQueuedReal s w) P n → NodeReal s w n
  from_keeps P old n entries all k = record { cached = entries k.has; queue = whole_queue old (IsQueuedReal s w) P n all k }

  -- ---- the beginning of a step, and a drain

  pub begin_real : (n : NodeState) (now : ℕ) → NodeReal s w n → NodeReal s w (begin n now)
  begin_real n now k = from (begun n now) where
    from : Begun n (begin n now) now → NodeReal s w (begin n now)
    from b = record {
      cached = subst (AreEntries s w) (sym b.discoveries) (expiry_entries s w n.discoveries (max n.reading now) k.cached);
      queue = subst (All (IsQueuedReal s w)) (sym b.queue) k.queue;
    }

  pub drain_real : (n : NodeState) (most : ℕ) → NodeReal s w n → NodeReal s w (after_drain n most)
  unfolding after_drain
  drain_real n most k = record { cached = k.cached; queue = All-drop (IsQueuedReal s w) most n.queue k.queue }

  -- ---- an input that brings nothing from other nodes

  pub plain_real : (n after : NodeState) (i : Input) (x : Coming) (r : Reply) → IsPlain i → NodeReal s w n → Acts n i x r after → NodeReal s w after
  plain_real n after i x r is k a =
      from_keeps Cached n.queue after (λ h. h) k.queue
      (plain_keeps n.queue (IsQueuedReal s w) Cached silent_real (λ plan d xs h. h) n after i x r is (started (IsQueuedReal s w) Cached n k.cached) a)

  -- ---- a datagram

  known_told : (topic : Topic) (o : Option (List Locator × ℕ)) (known : List Locator × ℕ) → o ≡ Some known → AreKnown s w topic o → All (WasAnswered s w topic) known.0
  known_told topic o known e are = subst (AreKnown s w topic) e are

  may_take : (n : NodeState) (m : Option Message) (after : NodeState) → NodeReal s w n → IsCarriedReal s w n m after → MayTake (IsQueuedReal s w) n m after
  may_take n (Some (Discovery session initiator o)) after k is = record {
    own = λ queued serving stream. record { topic = topic_in o; looked_for = is.0; answered = (n.plan.locator, refl, is.1 queued serving) };
    divert = λ known e stream. record {
      topic = topic_in o;
      looked_for = is.0;
      answered = known_told (topic_in o) (known_of n.discoveries (topic_in o) n.reading) known e (known_real s w n.discoveries (topic_in o) n.reading k.cached);
    };
  }
  may_take n _ after k is = tt

  delivered_real : (n : NodeState) (link from : ℕ) (m : Option Message) → IsCarriedReal s w n m (after_datagram n link from m) → NodeReal s w n → NodeReal s w (after_datagram n link from m)
  delivered_real n link from m is k =
      from_keeps Cached n.queue (after_datagram n link from m) (λ h. h) k.queue
      (datagram_keeps n.queue (IsQueuedReal s w) Cached silent_real (λ plan d xs h. h) n link from m (may_take n m (after_datagram n link from m) k is) (started (IsQueuedReal s w) Cached n k.cached))

  -- where there was memory, it is taken
  pub datagram_real : (n after : NodeState) (link from : ℕ) (x : Coming) (r : Reply) → is_starved r ≡ false → IsCarriedReal s w n x.carried after → NodeReal s w n → TakesDatagram n link from x r after → NodeReal s w after
  datagram_real n after link from x reply.Taken fed is k t = subst (NodeReal s w) (sym t) (delivered_real n link from x.carried (subst (IsCarriedReal s w n x.carried) t is) k)
  datagram_real n after link from x reply.OutOfMemory fed is k t = absurd (true≢false fed)
  datagram_real n after link from x _ fed is k t = absurd t

  -- ---- a piece of a stream

  -- what is cached was answered, and whoever asks for a response asks for what is looked for
  record Hears (plan : NodePlan) (d : Discoveries) : Type 0 where
    pub cached : AreEntries s w d
    pub asks : AsksForIt w plan d

  told_real : (topic : Topic) (told : Answer) → TellsAnswered s w topic told → All (WasAnswered s w topic) (answered_with told)
  told_real topic (Locators locators) k = subst (All (WasAnswered s w topic)) (sym k.1) (All-cons (WasAnswered s w topic) k.0 [] k.2 (All-nil (WasAnswered s w topic)))
  told_real topic (Divert locators) k = k

  -- the locators of a response are what whoever asks for it asks for
  asked_real : (plan : NodePlan) (d : Discoveries) (session : ℕ) (initiator : Address) (told : Answer) → IsResponseReal s w session initiator told → AsksForIt w plan d
      → AreAsked s w (answered_with told) (asker_of d plan.address (origin_of session initiator))
  asked_real plan d session initiator told is asks = by_asker (asker_of d plan.address (origin_of session initiator)) refl where
    by_asker : (o : Option (Answered × Topic)) → asker_of d plan.address (origin_of session initiator) ≡ o → AreAsked s w (answered_with told) o
    by_asker None e = tt
    by_asker (Some asker) e = subst (λ t. All (WasAnswered s w t) (answered_with told)) (asks session initiator is.topic asker e is.looked_for) (told_real is.topic told is.answered)

  -- a response leaves searches and memories as they are
  same_asks : (plan : NodePlan) (d : Discoveries) (last : ℕ) (locators : List Locator) (asker : Option (Answered × Topic)) → AsksForIt w plan d → AsksForIt w plan (after_answered d last locators asker)
  same_asks plan d last locators None asks = asks
  same_asks plan d last locators (Some asker) asks = asks

  caches_real : Caches Hears (IsMessageReal s w)
  caches_real plan d session initiator ttl told o last is k = record {
    cached = answered_entries s w d last (answered_with told) (asker_of d plan.address (origin_of session initiator)) (asked_real plan d session initiator told is k.asks) k.cached;
    asks = same_asks plan d last (answered_with told) (asker_of d plan.address (origin_of session initiator)) k.asks;
  }

  heard_real : (n : NodeState) (stream : ℕ) (bytes : List ℕ) (x : Coming) → ArePieces (IsMessageReal s w) x.added (past_of n.streams stream) → AsksForIt w n.plan n.discoveries → NodeReal s w n
      → NodeReal s w (after_bytes n stream bytes x.added)
  heard_real n stream bytes x are asks k =
      from_keeps Hears n.queue (after_bytes n stream bytes x.added) (λ h. h.cached) k.queue
      (bytes_keeps n.queue (IsQueuedReal s w) Hears (IsMessageReal s w) silent_real (λ to m is. is) caches_real n stream bytes x.added are
      (started (IsQueuedReal s w) Hears n (record { cached = k.cached; asks = asks })))

  -- where there was memory, it is taken
  pub bytes_real : (n after : NodeState) (stream : ℕ) (bytes : List ℕ) (x : Coming) (r : Reply) → is_starved r ≡ false → ArePieces (IsMessageReal s w) x.added (past_of n.streams stream)
      → AsksForIt w n.plan n.discoveries → NodeReal s w n → TakesBytes n stream bytes x r after → NodeReal s w after
  bytes_real n after stream bytes x reply.Taken fed are asks k t = subst (NodeReal s w) (sym t) (heard_real n stream bytes x are asks k)
  bytes_real n after stream bytes x reply.OutOfMemory fed are asks k t = absurd (true≢false fed)
  bytes_real n after stream bytes x _ fed are asks k t = absurd t

  -- ---- a life that begins

  answered_real : (seat : Seat) (a : ApiAnswer) → NodeReal s w seat.core → NodeReal s w (answered_seat seat a).core
  unfolding answered_seat
  answered_real seat a k = from (begin_real seat.core 0 k) where
    n : NodeState
    n = begin seat.core 0

    from : NodeReal s w n → NodeReal s w (answered_seat seat a).core
    from b =
        from_keeps Cached n.queue (answered_seat seat a).core (λ h. h) b.queue
        (call_keeps n.queue (IsQueuedReal s w) Cached silent_real (λ plan d xs h. h) n seat.agent.asa (next_call seat.agent) a (started (IsQueuedReal s w) Cached n b.cached))

  fresh_real : (plan : NodePlan) (h : Holding) → NodeReal s w (fresh_seat plan h).core
  fresh_real plan h = record { cached = All-nil (IsEntryReal s w); queue = All-nil (IsQueuedReal s w) }

  pub opened_real : (plan : NodePlan) (h : Holding) → NodeReal s w (opened_seat plan h).core
  unfolding opened_seat
  opened_real plan h =
      let registered = answered_seat (fresh_seat plan h) (answer.Asa 1) in
      let declared = answered_seat registered answer.Done in
      answered_real declared answer.NotYet (answered_real registered answer.Done (answered_real (fresh_seat plan h) (answer.Asa 1) (fresh_real plan h)))
