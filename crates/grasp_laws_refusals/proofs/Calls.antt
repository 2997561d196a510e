-- The tests of each call tell which refusals have their cause.
use Rattle.std.proofs.Common.{◌≡◌, ◌+◌, ◌⊎◌, inl, inr, ℕ, Bool, true, false, cond, not, List, length, Option, None, Some, Result, Ok, Err, refl, sym, ◌∙◌}
use Rattle.std.specs.Bool.{Decides}
use Rattle.std.proofs.lemmas.Bool.{true≢false, false_from_ne_true}
use Rattle.std.proofs.lemmas.Bool.Decides.{Decides-and, Decides-like}
use Rattle.grasp_cbor.specs.DataItem.{DataItem}
use Rattle.grasp_discovery.specs.Discoveries as discovery
use Rattle.grasp_laws_node.specs.MeansRequests.{negotiable, synchronizable}
use Rattle.grasp_laws_node.specs.MeansSearches.{flood_sent}
use Rattle.grasp_laws_refusals.proofs.Acts.{checks, held, none_held, said_long}
use Rattle.grasp_laws_refusals.proofs.Found.{is_true, is_no, never, no_more, alike, no_room, no_agent, agents_full, agent_named, objective_named, dry_alone, owned, none_owned, lacking, flagged, no_place, no_stream, fresh, searches_full, search_long, search_full, no_such_flood}
use Rattle.grasp_laws_refusals.proofs.Least.{IsEarly, Tests, none_early, IsFirst, none_answered, first_refused}
use Rattle.grasp_laws_refusals.specs.Causes.{AgentCauses, RegisterAsaCauses, RegisterObjectiveCauses, ObjectiveCauses, NegotiationCauses, SynchronizationCauses, RequestCauses, SynchronizeCauses, PollCauses, StepCauses, WaitCauses, EndCauses, InvalidCauses, DiscoverCauses, FloodCauses, ExpireFloodCauses, HasCause, TellsTurn, TakesMemory, IsHeld}
use Rattle.grasp_flood.specs.Floods.{reads_of}
use Rattle.grasp_model_node.specs.Answered.{IsDone, Is}
use Rattle.grasp_model_node.specs.BoundedNodes.{IsBoundedNode}
use Rattle.grasp_model_node.specs.Draws.{next_session}
use Rattle.grasp_model_node.specs.FloodCalls.{count_all, find_of, flood_message, found_as, is_fresh, searching}
use Rattle.grasp_model_node.specs.Node.{NodeState}
use Rattle.grasp_model_node.specs.Queue.{has_room}
use Rattle.grasp_model_node.specs.Refusals.{Sending, MayAnswer, nothing_sent}
use Rattle.grasp_model_node.specs.SessionCalls.{act_message, negotiated, polled, request_of, started, synchronized, taken_in}
use Rattle.grasp_model_node.specs.Step.{MayCall}
use Rattle.grasp_model_node.specs.Tests.{act_tests, agent_tests, checked, discover_tests, expire_flood_tests, lacks, negotiation_tests, objective_tests, owned_flags, poll_tests, register_asa_tests, register_objective_tests, request_tests, sending, synchronization_tests, synchronize_tests}
use Rattle.grasp_session.specs.Sessions.{SessionState, check_reply, poll_reply, progress_of, session_owned, start_reply, untaken_reply, IsTurn}
use Rattle.grasp_session.specs.Transcript.{SayStep, SayEnd, SayInvalid, is_going, is_mine, outcome_of, peer_offer}
use Rattle.grasp_session.specs.declared.answer.Act.{Act}
use Rattle.grasp_session.specs.declared.answer.Act.TheVariants as act
use Rattle.grasp_types.specs.Address.{is_dialable}
use Rattle.grasp_types.specs.Objective.{has_neg, has_synch, has_dry}
use Rattle.grasp_types.specs.declared.address.Address.{Address}
use Rattle.grasp_types.specs.declared.address.Locator.{Locator}
use Rattle.grasp_types.specs.declared.call.Call.{Call}
use Rattle.grasp_types.specs.declared.call.Call.TheVariants as call
use Rattle.grasp_types.specs.declared.message.Message.TheVariants.{ReqNeg, ReqSyn}
use Rattle.grasp_types.specs.declared.message.Verdict.{Verdict}
use Rattle.grasp_types.specs.declared.refusal.ApiRefused.{ApiRefused}
use Rattle.grasp_types.specs.declared.refusal.ApiRefused.TheVariants as api
use Rattle.grasp_types.specs.declared.reply.ApiAnswer.{ApiAnswer}
use Rattle.grasp_types.specs.declared.reply.ApiAnswer.TheVariants.{Asa, Floods}
use Rattle.grasp_types.specs.declared.session.Handle.{Handle}
use Rattle.grasp_types.specs.declared.session.Kind.{Kind}
use Rattle.grasp_types.specs.declared.session.Kind.TheVariants.{Negotiation, Synchronization}
use Rattle.grasp_types.specs.declared.session.Outcome.{Outcome}
use Rattle.grasp_types.specs.declared.session.Progress.TheVariants as progress

nothing : ⊥ → ⊥
nothing p = p

-- the tests of a call that sends nothing
quiet : (Cause : ApiRefused → Type 0) (holds : ApiRefused → Bool) → ((r : ApiRefused) → IsEarly r → Decides (holds r) (Cause r)) → ¬ Cause api.TooLong → ¬ Cause api.OutboxFull → ¬ Cause api.OutOfMemory
    → Tests Cause holds nothing_sent
quiet Cause holds first long full memory = record { first = first; long = λ e. never long; full = λ e. never full; memory = memory }

module _ (n : NodeState) (asa : ℕ) (k : IsBoundedNode n) where
  -- ---- agents and objectives

  register_asa : (name : List ℕ) → Tests (RegisterAsaCauses n name) (register_asa_tests n name) nothing_sent
  register_asa name = quiet (RegisterAsaCauses n name) (register_asa_tests n name) first nothing nothing nothing where
    first : (r : ApiRefused) → IsEarly r → Decides (register_asa_tests n name r) (RegisterAsaCauses n name r)
    first api.AsasFull i = agents_full n
    first api.DuplicateAsa i = agent_named n name
    first _ i = never nothing

  agent : Tests (AgentCauses n asa) (agent_tests n asa) nothing_sent
  agent = quiet (AgentCauses n asa) (agent_tests n asa) first nothing nothing nothing where
    first : (r : ApiRefused) → IsEarly r → Decides (agent_tests n asa r) (AgentCauses n asa r)
    first api.NoAsa i = no_agent n asa
    first _ i = never nothing

  register_objective : (name : List ℕ) (flags : ℕ) → Tests (RegisterObjectiveCauses n asa name flags) (register_objective_tests n asa name flags) nothing_sent
  register_objective name flags = quiet (RegisterObjectiveCauses n asa name flags) (register_objective_tests n asa name flags) first nothing nothing nothing where
    first : (r : ApiRefused) → IsEarly r → Decides (register_objective_tests n asa name flags r) (RegisterObjectiveCauses n asa name flags r)
    first api.NoAsa i = no_agent n asa
    first api.NotBoth i = alike (has_neg flags) (has_synch flags)
    first api.ObjectivesFull i = no_more 64 (length n.registrations.objectives)
    first api.ObjectiveTaken i = objective_named n name
    first api.NotDry i = dry_alone flags
    first _ i = never nothing

  objective : (name : List ℕ) → Tests (ObjectiveCauses n asa name) (objective_tests n asa name) nothing_sent
  objective name = quiet (ObjectiveCauses n asa name) (objective_tests n asa name) first nothing nothing nothing where
    first : (r : ApiRefused) → IsEarly r → Decides (objective_tests n asa name r) (ObjectiveCauses n asa name r)
    first api.NoAsa i = no_agent n asa
    first api.NotYourObjective i = none_owned n asa name (owned_flags n asa name) (owned n asa name k)
    first _ i = never nothing

  negotiation : (name : List ℕ) → Tests (NegotiationCauses n asa name) (negotiation_tests n asa name) nothing_sent
  negotiation name = quiet (NegotiationCauses n asa name) (negotiation_tests n asa name) first nothing nothing nothing where
    first : (r : ApiRefused) → IsEarly r → Decides (negotiation_tests n asa name r) (NegotiationCauses n asa name r)
    first api.NoAsa i = no_agent n asa
    first api.NotYourObjective i = none_owned n asa name (owned_flags n asa name) (owned n asa name k)
    first api.NotNegotiable i = lacking n asa name has_neg (owned_flags n asa name) (owned n asa name k)
    first _ i = never nothing

  synchronization_first : (name : List ℕ) (r : ApiRefused) → IsEarly r → Decides (synchronization_tests n asa name r) (SynchronizationCauses n asa name r)
  synchronization_first name api.NoAsa i = no_agent n asa
  synchronization_first name api.NotYourObjective i = none_owned n asa name (owned_flags n asa name) (owned n asa name k)
  synchronization_first name api.NotSynchronizable i = lacking n asa name has_synch (owned_flags n asa name) (owned n asa name k)
  synchronization_first name _ i = never nothing

  synchronization : (name : List ℕ) → Tests (SynchronizationCauses n asa name) (synchronization_tests n asa name) nothing_sent
  synchronization name = quiet (SynchronizationCauses n asa name) (synchronization_tests n asa name) (synchronization_first name) nothing nothing nothing

  -- ---- requests

  request : (name : List ℕ) (value : DataItem) (loops : ℕ) (dry : Bool) (peer : Locator)
      → Tests (RequestCauses n asa name value loops dry peer) (request_tests n asa name dry peer) (sending n (request_of Negotiation (next_session n) (negotiated n asa name value loops dry)) 2)
  request name value loops dry peer = record {
    first = first;
    long = λ e.
        flagged n asa name (λ flags. ReqNeg (next_session n) (negotiable name flags value loops dry)) (owned_flags n asa name) (owned n asa name k)
        (none_early (request_tests n asa name dry peer) api.NotYourObjective tt e);
    full = λ e. no_room n 2;
    memory = nothing;
  } where
    first : (r : ApiRefused) → IsEarly r → Decides (request_tests n asa name dry peer r) (RequestCauses n asa name value loops dry peer r)
    first api.NoAsa i = no_agent n asa
    first api.NotYourObjective i = none_owned n asa name (owned_flags n asa name) (owned n asa name k)
    first api.NotNegotiable i = lacking n asa name has_neg (owned_flags n asa name) (owned n asa name k)
    first api.NotDry i = Decides-and dry (lacks has_dry (owned_flags n asa name)) (is_true dry) (lacking n asa name has_dry (owned_flags n asa name) (owned n asa name k))
    first api.BadLocator i = is_no (is_dialable peer)
    first api.SessionsFull i = no_place n
    first api.StreamsFull i = no_stream n
    first api.TooLong i = absurd i
    first api.OutboxFull i = absurd i
    first _ i = never nothing

  synchronize : (name : List ℕ) (loops : ℕ) (peer : Locator)
      → Tests (SynchronizeCauses n asa name loops peer) (synchronize_tests n asa name peer) (sending n (request_of Synchronization (next_session n) (synchronized n asa name loops)) 2)
  synchronize name loops peer = record {
    first = first;
    long = λ e.
        flagged n asa name (λ flags. ReqSyn (next_session n) (synchronizable name flags loops)) (owned_flags n asa name) (owned n asa name k)
        (none_early (synchronize_tests n asa name peer) api.NotYourObjective tt e);
    full = λ e. no_room n 2;
    memory = nothing;
  } where
    first : (r : ApiRefused) → IsEarly r → Decides (synchronize_tests n asa name peer r) (SynchronizeCauses n asa name loops peer r)
    first api.NoAsa i = no_agent n asa
    first api.NotYourObjective i = none_owned n asa name (owned_flags n asa name) (owned n asa name k)
    first api.NotSynchronizable i = lacking n asa name has_synch (owned_flags n asa name) (owned n asa name k)
    first api.BadLocator i = is_no (is_dialable peer)
    first api.SessionsFull i = no_place n
    first api.StreamsFull i = no_stream n
    first api.TooLong i = absurd i
    first api.OutboxFull i = absurd i
    first _ i = never nothing

  -- ---- acts in a session

  poll : (h : Handle) → Tests (PollCauses n asa h) (poll_tests n asa h) nothing_sent
  poll h = quiet (PollCauses n asa h) (poll_tests n asa h) first nothing nothing nothing where
    first : (r : ApiRefused) → IsEarly r → Decides (poll_tests n asa h r) (PollCauses n asa h r)
    first api.NoAsa i = no_agent n asa
    first api.NoSession i = none_held n asa h
    first _ i = never nothing

  -- only a step has loop counts to spend, and only a wait waits
  no_loops : (h : Handle) (a : Act) → ¬ (a ≡ act.Step) → Decides (checked (check_reply n.sessions asa h a) api.LoopsSpent) ⊥
  no_loops h a not_it = Decides-like (checked (check_reply n.sessions asa h a) api.LoopsSpent) (λ p. not_it p.3) (λ p. absurd p) (checks n asa h a).loops

  no_waits : (h : Handle) (a : Act) → ¬ (a ≡ act.Wait) → Decides (checked (check_reply n.sessions asa h a) api.WaitsSpent) ⊥
  no_waits h a not_it = Decides-like (checked (check_reply n.sessions asa h a) api.WaitsSpent) (λ p. not_it p.3) (λ p. absurd p) (checks n asa h a).waits

  step : (h : Handle) (value : DataItem) → Tests (StepCauses n asa h value) (act_tests n asa h act.Step) (sending n (act_message n h (SayStep value)) 1)
  step h value = record { first = first; long = λ e. said_long n asa h act.Step (SayStep value) k e; full = λ e. no_room n 1; memory = nothing } where
    first : (r : ApiRefused) → IsEarly r → Decides (act_tests n asa h act.Step r) (StepCauses n asa h value r)
    first api.NoAsa i = no_agent n asa
    first api.NoSession i = (checks n asa h act.Step).session
    first api.NotYourTurn i = (checks n asa h act.Step).turn
    first api.LoopsSpent i = Decides-like (checked (check_reply n.sessions asa h act.Step) api.LoopsSpent) (λ p. (p.0, p.1, p.2, p.4)) (λ p. (p.0, p.1, p.2, refl, p.3)) (checks n asa h act.Step).loops
    first api.WaitsSpent i = no_waits h act.Step (λ e. absurd (cc))
    first api.TooLong i = absurd i
    first api.OutboxFull i = absurd i
    first _ i = never nothing

  wait : (h : Handle) → Tests (WaitCauses n asa h) (act_tests n asa h act.Wait) (record { too_long = false; outbox_full = not (has_room n.queue 1) })
  wait h = record { first = first; long = λ e. never nothing; full = λ e. no_room n 1; memory = nothing } where
    first : (r : ApiRefused) → IsEarly r → Decides (act_tests n asa h act.Wait r) (WaitCauses n asa h r)
    first api.NoAsa i = no_agent n asa
    first api.NoSession i = (checks n asa h act.Wait).session
    first api.NotYourTurn i = (checks n asa h act.Wait).turn
    first api.LoopsSpent i = no_loops h act.Wait (λ e. absurd (cc))
    first api.WaitsSpent i = Decides-like (checked (check_reply n.sessions asa h act.Wait) api.WaitsSpent) (λ p. (p.0, p.1, p.2, p.4)) (λ p. (p.0, p.1, p.2, refl, p.3)) (checks n asa h act.Wait).waits
    first api.OutboxFull i = absurd i
    first _ i = never nothing

  end : (h : Handle) (verdict : Verdict) → Tests (EndCauses n asa h verdict) (act_tests n asa h act.End) (sending n (act_message n h (SayEnd verdict)) 1)
  end h verdict = record { first = first; long = λ e. said_long n asa h act.End (SayEnd verdict) k e; full = λ e. no_room n 1; memory = nothing } where
    first : (r : ApiRefused) → IsEarly r → Decides (act_tests n asa h act.End r) (EndCauses n asa h verdict r)
    first api.NoAsa i = no_agent n asa
    first api.NoSession i = (checks n asa h act.End).session
    first api.NotYourTurn i = (checks n asa h act.End).turn
    first api.LoopsSpent i = no_loops h act.End (λ e. absurd (cc))
    first api.WaitsSpent i = no_waits h act.End (λ e. absurd (cc))
    first api.TooLong i = absurd i
    first api.OutboxFull i = absurd i
    first _ i = never nothing

  invalid : (h : Handle) (detail : Option DataItem) → Tests (InvalidCauses n asa h detail) (act_tests n asa h act.Invalid) (sending n (act_message n h (SayInvalid detail)) 1)
  invalid h detail = record { first = first; long = λ e. said_long n asa h act.Invalid (SayInvalid detail) k e; full = λ e. no_room n 1; memory = nothing } where
    first : (r : ApiRefused) → IsEarly r → Decides (act_tests n asa h act.Invalid r) (InvalidCauses n asa h detail r)
    first api.NoAsa i = no_agent n asa
    first api.NoSession i = (checks n asa h act.Invalid).session
    first api.NotYourTurn i =
        Decides-like (checked (check_reply n.sessions asa h act.Invalid) api.NotYourTurn) (λ p. (p.0, p.1, false_from_ne_true (is_going p.0.view) p.2))
        (λ p. (p.0, p.1, λ t. true≢false (sym t ∙ p.2))) (checks n asa h act.Invalid).turn
    first api.LoopsSpent i = no_loops h act.Invalid (λ e. absurd (cc))
    first api.WaitsSpent i = no_waits h act.Invalid (λ e. absurd (cc))
    first api.TooLong i = absurd i
    first api.OutboxFull i = absurd i
    first _ i = never nothing

  -- ---- searches and floods

  discover : (name : List ℕ) (kind : Kind) (loops : ℕ)
      → Tests (DiscoverCauses n asa name kind loops) (discover_tests n asa (is_fresh (find_of n asa name kind))) (searching n (find_of n asa name kind) name kind loops)
  discover name kind loops = record {
    first = first;
    long = λ e. search_long n asa name kind loops (find_of n asa name kind) (fresh n asa name kind);
    full = λ e. search_full n asa name kind loops (find_of n asa name kind) (fresh n asa name kind);
    memory = nothing;
  } where
    first : (r : ApiRefused) → IsEarly r → Decides (discover_tests n asa (is_fresh (find_of n asa name kind)) r) (DiscoverCauses n asa name kind loops r)
    first api.NoAsa i = no_agent n asa
    first api.SessionsFull i = Decides-and (is_fresh (find_of n asa name kind)) (discovery.is_full n.discoveries) (fresh n asa name kind) (searches_full n k)
    first api.TooLong i = absurd i
    first api.OutboxFull i = absurd i
    first _ i = never nothing

  flood : (name : List ℕ) (value : DataItem) (ttl loops : ℕ)
      → Tests (FloodCauses n asa name value ttl loops) (synchronization_tests n asa name) (sending n (flood_message n asa name value ttl loops) (count_all n))
  flood name value ttl loops = record {
    first = first;
    long = λ e.
        flagged n asa name (λ flags. flood_sent n name flags value ttl loops) (owned_flags n asa name) (owned n asa name k)
        (none_early (synchronization_tests n asa name) api.NotYourObjective tt e);
    full = λ e. no_room n (count_all n);
    memory = nothing;
  } where
    first : (r : ApiRefused) → IsEarly r → Decides (synchronization_tests n asa name r) (FloodCauses n asa name value ttl loops r)
    first api.TooLong i = absurd i
    first api.OutboxFull i = absurd i
    first r i = synchronization_first name r i

  expire : (name : List ℕ) (initiator : Address) → Tests (ExpireFloodCauses n asa name initiator) (expire_flood_tests n asa name initiator) nothing_sent
  expire name initiator = quiet (ExpireFloodCauses n asa name initiator) (expire_flood_tests n asa name initiator) first nothing nothing nothing where
    first : (r : ApiRefused) → IsEarly r → Decides (expire_flood_tests n asa name initiator r) (ExpireFloodCauses n asa name initiator r)
    first api.NoAsa i = no_agent n asa
    first api.NoFlood i = no_such_flood n name initiator
    first _ i = never nothing

-- ---- each call

-- what an answer and a refusal tell of the causes, and when memory is wanted
pub record Tells (Cause : ApiRefused → Type 0) (Memory : Type 0) (May : Result ApiAnswer ApiRefused → Type 0) : Type 0 where
  pub answered : (a : ApiAnswer) → May (Ok a) → (r : ApiRefused) → ¬ Cause r
  pub refused : (r : ApiRefused) → May (Err r) → IsFirst Cause r ⊎ (((other : ApiRefused) → ¬ Cause other) × (r ≡ api.OutOfMemory) × Memory)

tells : (Cause : ApiRefused → Type 0) (Memory : Type 0) (holds : ApiRefused → Bool) (s : Sending) (Starves : Type 0) (Answers : ApiAnswer → Type 0) → Tests Cause holds s → (Starves → Memory)
    → Tells Cause Memory (MayAnswer holds s Starves Answers)
tells Cause Memory holds s Starves Answers t wants = record { answered = none_answered Cause holds s t Starves Answers; refused = λ r m. by r (first_refused Cause holds s t Starves Answers r m) } where
  by : (r : ApiRefused) → IsFirst Cause r ⊎ (((other : ApiRefused) → ¬ Cause other) × (r ≡ api.OutOfMemory) × Starves)
      → IsFirst Cause r ⊎ (((other : ApiRefused) → ¬ Cause other) × (r ≡ api.OutOfMemory) × Memory)
  by r (inl first) = inl first
  by r (inr p) = inr (p.0, p.1, wants p.2)

-- a poll takes memory for the peer's offer alone
tells_turn : (n : NodeState) (asa : ℕ) (h : Handle) → IsTurn (poll_reply n.sessions asa h) → TellsTurn n asa h
tells_turn n asa h = by_state (session_owned n.sessions asa h) refl where
  by_mine : (x : SessionState) → IsHeld n asa h x → outcome_of x.view ≡ None → (b : Bool) → is_mine x.view ≡ b → IsTurn (Ok (cond b (progress.Turn (peer_offer x.view)) progress.NotYet)) → TellsTurn n asa h
  by_mine x i none true e t = record { session = x; held = i; none = none; mine = e }
  by_mine x i none false e t = absurd t

  by_outcome : (x : SessionState) → IsHeld n asa h x → (o : Option Outcome) → outcome_of x.view ≡ o → IsTurn (Ok (progress_of x.view)) → TellsTurn n asa h
  by_outcome x i (Some outcome) e = rw e (λ t. absurd t)
  by_outcome x i None e = rw e (by_mine x i e (is_mine x.view) refl)

  by_state : (o : Option SessionState) → session_owned n.sessions asa h ≡ o → IsTurn (poll_reply n.sessions asa h) → TellsTurn n asa h
  by_state None e = rw e (λ t. absurd t)
  by_state (Some x) e = rw e (by_outcome x (held n asa h x e) (outcome_of x.view) refl)

takes : {A : Type 0} → A → Unit {0}
takes a = tt

pub each_tells : (n : NodeState) (asa : ℕ) (it : Call) → IsBoundedNode n → Tells (HasCause n asa it) (TakesMemory n asa it) (MayCall n asa it)
each_tells n asa (call.RegisterAsa name) k = tells (RegisterAsaCauses n name) ⊥ (register_asa_tests n name) nothing_sent ⊥ (Is (Asa (n.registrations.made + 1))) (register_asa n asa k name) nothing
each_tells n asa call.DeregisterAsa k = tells (AgentCauses n asa) (Unit {0}) (agent_tests n asa) nothing_sent (Unit {0}) IsDone (agent n asa k) takes
each_tells n asa (call.RegisterObjective name flags) k = tells (RegisterObjectiveCauses n asa name flags) ⊥ (register_objective_tests n asa name flags) nothing_sent ⊥ IsDone (register_objective n asa k name flags) nothing
each_tells n asa (call.DeregisterObjective name) k = tells (ObjectiveCauses n asa name) (Unit {0}) (objective_tests n asa name) nothing_sent (Unit {0}) IsDone (objective n asa k name) takes
each_tells n asa (call.Discover name kind loops timeout) k =
    tells (DiscoverCauses n asa name kind loops) (Unit {0}) (discover_tests n asa (is_fresh (find_of n asa name kind))) (searching n (find_of n asa name kind) name kind loops)
    (Unit {0}) (Is (found_as (find_of n asa name kind))) (discover n asa k name kind loops) takes
each_tells n asa (call.RequestNegotiate name value loops timeout dry peer) k =
    tells (RequestCauses n asa name value loops dry peer) (Unit {0}) (request_tests n asa name dry peer) (sending n (request_of Negotiation (next_session n) (negotiated n asa name value loops dry)) 2)
    (Unit {0}) (Is (started (start_reply n.sessions))) (request n asa k name value loops dry peer) takes
each_tells n asa (call.ListenNegotiate name) k =
    tells (NegotiationCauses n asa name) (Unit {0}) (negotiation_tests n asa name) nothing_sent (Unit {0}) (Is (taken_in n (untaken_reply n.sessions name))) (negotiation n asa k name) takes
each_tells n asa (call.StopListenNegotiate name) k = tells (NegotiationCauses n asa name) (Unit {0}) (negotiation_tests n asa name) nothing_sent (Unit {0}) IsDone (negotiation n asa k name) takes
each_tells n asa (call.NegotiateStep h value) k = tells (StepCauses n asa h value) (Unit {0}) (act_tests n asa h act.Step) (sending n (act_message n h (SayStep value)) 1) (Unit {0}) IsDone (step n asa k h value) takes
each_tells n asa (call.NegotiateWait h millis) k =
    tells (WaitCauses n asa h) (Unit {0}) (act_tests n asa h act.Wait) (record { too_long = false; outbox_full = not (has_room n.queue 1) }) (Unit {0}) IsDone (wait n asa k h) takes
each_tells n asa (call.EndNegotiate h verdict) k = tells (EndCauses n asa h verdict) (Unit {0}) (act_tests n asa h act.End) (sending n (act_message n h (SayEnd verdict)) 1) (Unit {0}) IsDone (end n asa k h verdict) takes
each_tells n asa (call.SendInvalid h detail) k =
    tells (InvalidCauses n asa h detail) (Unit {0}) (act_tests n asa h act.Invalid) (sending n (act_message n h (SayInvalid detail)) 1) (Unit {0}) IsDone (invalid n asa k h detail) takes
each_tells n asa (call.Poll h) k =
    tells (PollCauses n asa h) (TellsTurn n asa h) (poll_tests n asa h) nothing_sent (IsTurn (poll_reply n.sessions asa h)) (Is (polled (poll_reply n.sessions asa h))) (poll n asa k h) (tells_turn n asa h)
each_tells n asa (call.Synchronize name loops timeout peer) k =
    tells (SynchronizeCauses n asa name loops peer) (Unit {0}) (synchronize_tests n asa name peer) (sending n (request_of Synchronization (next_session n) (synchronized n asa name loops)) 2)
    (Unit {0}) (Is (started (start_reply n.sessions))) (synchronize n asa k name loops peer) takes
each_tells n asa (call.ListenSynchronize name value) k = tells (SynchronizationCauses n asa name) ⊥ (synchronization_tests n asa name) nothing_sent ⊥ IsDone (synchronization n asa k name) nothing
each_tells n asa (call.StopListenSynchronize name) k = tells (SynchronizationCauses n asa name) ⊥ (synchronization_tests n asa name) nothing_sent ⊥ IsDone (synchronization n asa k name) nothing
each_tells n asa (call.Flood name value ttl loops) k =
    tells (FloodCauses n asa name value ttl loops) (Unit {0}) (synchronization_tests n asa name) (sending n (flood_message n asa name value ttl loops) (count_all n)) (Unit {0}) IsDone
    (flood n asa k name value ttl loops) takes
each_tells n asa (call.GetFlood name) k = tells (AgentCauses n asa) (Unit {0}) (agent_tests n asa) nothing_sent (Unit {0}) (Is (Floods (reads_of n.floods name))) (agent n asa k) takes
each_tells n asa (call.ExpireFlood name initiator) k = tells (ExpireFloodCauses n asa name initiator) ⊥ (expire_flood_tests n asa name initiator) nothing_sent ⊥ IsDone (expire n asa k name initiator) nothing
