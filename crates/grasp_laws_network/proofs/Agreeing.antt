-- An event comes out in one way.
use Rattle.std.proofs.Common.{◌≡◌, refl, sym, ap, ◌∙◌, ℕ, ◌+◌, Bool, true, false, not, List, Option, Some, None, Result, Ok, Err, ◌⊎◌, inl, inr, IsSome}
use Rattle.std.proofs.lemmas.Bool.{false≢true}
use Rattle.grasp_laws_node.proofs.Divided.Comes.{comings_agree}
use Rattle.grasp_model_node.specs.Answered.{Is}
use Rattle.grasp_model_node.specs.Begin.{begin}
use Rattle.grasp_model_node.specs.Bytes.{Added, after_bytes, bytes_on}
use Rattle.grasp_model_node.specs.Datagrams.{after_datagram}
use Rattle.grasp_model_node.specs.Draining.{drained, after_drain}
use Rattle.grasp_model_node.specs.Divided.{ReadsSame}
use Rattle.grasp_model_node.specs.Draws.{next_session}
use Rattle.grasp_model_node.specs.FloodCalls.{count_all, find_of, flood_message, found_as, is_fresh, searching}
use Rattle.grasp_model_node.specs.Node.{NodeState}
use Rattle.grasp_model_node.specs.Opening.{MayOpen, opened_reply, after_opened}
use Rattle.grasp_model_node.specs.Queue.{has_room}
use Rattle.grasp_model_node.specs.Refusals.{Sending, early, late, MayAnswer, nothing_sent}
use Rattle.grasp_model_node.specs.SessionCalls.{act_message, negotiated, polled, request_of, started, synchronized, taken_in}
use Rattle.grasp_model_node.specs.Step.{Coming, MayCall, after_call, Calls, TakesDatagram, TakesBytes, Drains, Acts}
use Rattle.grasp_model_node.specs.Streams.{past_of}
use Rattle.grasp_model_node.specs.Tests.{act_tests, agent_tests, discover_tests, expire_flood_tests, negotiation_tests, objective_tests, poll_tests, register_asa_tests, register_objective_tests, request_tests, sending, synchronization_tests, synchronize_tests}
use Rattle.grasp_session.specs.Sessions.{poll_reply, IsTurn, start_reply, untaken_reply}
use Rattle.grasp_session.specs.Transcript.{SayStep, SayEnd, SayInvalid}
use Rattle.grasp_session.specs.declared.answer.Act.TheVariants as act
use Rattle.grasp_types.specs.declared.call.Call.{Call}
use Rattle.grasp_types.specs.declared.call.Call.TheVariants as call
use Rattle.grasp_types.specs.declared.refusal.ApiRefused.{ApiRefused}
use Rattle.grasp_types.specs.declared.refusal.ApiRefused.TheVariants.{OutOfMemory}
use Rattle.grasp_types.specs.declared.reply.ApiAnswer.{ApiAnswer}
use Rattle.grasp_types.specs.declared.reply.ApiAnswer.TheVariants.{Asa, Done}
use Rattle.grasp_types.specs.declared.reply.Reply.{Reply}
use Rattle.grasp_types.specs.declared.reply.Reply.TheVariants as reply
use Rattle.grasp_types.specs.declared.session.Kind.TheVariants.{Negotiation, Synchronization}
use Rattle.grasp_types.specs.declared.traffic.Input.{Input}
use Rattle.grasp_types.specs.declared.traffic.Input.TheVariants as input
use Rattle.grasp_wire.specs.Cutter.{Past}
use Rattle.grasp_model_network.specs.EventSteps.{after_agent_call, after_agent, after_arrival, after_clock, after_cut, after_delivery, answers_in, after_piece}
use Rattle.grasp_model_network.specs.Events.{visit_of, after_visit, after_by, after_event, drains, drained_behind}
use Rattle.grasp_laws_network.specs.Keeping.{IsFedVisit, IsFedWhere, IsSameOutcome, OutcomesAgree}
use Rattle.grasp_model_network.specs.Reports.{report_visit, report_by, report_of}
use Rattle.grasp_model_network.specs.Setting.{Setting}
use Rattle.grasp_model_network.specs.Visits.{Visit, Choice, is_starved, is_starved_call, VisitStep, MayCome}
use Rattle.grasp_model_network.specs.World.{WorldState}
use Rattle.grasp_model_network.specs.declared.event.Event.{Event}
use Rattle.grasp_model_network.specs.declared.event.Event.TheVariants as event

-- ---- results of calls

abbrev wants_memory : Result ApiAnswer ApiRefused → Bool
wants_memory (Ok a) = false
wants_memory (Err r) = is_starved_call r

abbrev is_fine : Result (Unit {0}) ApiRefused → Bool
is_fine (Ok u) = true
is_fine (Err r) = false

abbrev refused_or : Result (Unit {0}) ApiRefused → ApiRefused
refused_or (Ok u) = OutOfMemory
refused_or (Err r) = r

pub fine_not : (x : Result (Unit {0}) ApiRefused) (r : ApiRefused) → x ≡ Ok tt → x ≡ Err r → ⊥
fine_not x r a b = false≢true (sym (ap is_fine b) ∙ ap is_fine a)

pub one_refusal : (x : Result (Unit {0}) ApiRefused) (r q : ApiRefused) → x ≡ Err r → x ≡ Err q → r ≡ q
one_refusal x r q a b = sym (ap refused_or a) ∙ ap refused_or b

-- the refusal of a call is that of an early test, or else that of a late one, or else that the node was out of memory
abbrev Refuses : (ApiRefused → Bool) → Sending → Type 0 → ApiRefused → Type 0
Refuses holds s Starves r = (early holds ≡ Err r) ⊎ ((early holds ≡ Ok tt) × ((late s ≡ Err r) ⊎ ((late s ≡ Ok tt) × (r ≡ OutOfMemory) × Starves)))

pub not_starved : (r : ApiRefused) → is_starved_call r ≡ false → r ≡ OutOfMemory → ⊥
not_starved r fed e = false≢true (sym fed ∙ ap is_starved_call e)

pub not_both : (holds : ApiRefused → Bool) (s : Sending) (Starves : Type 0) (r : ApiRefused) → is_starved_call r ≡ false → early holds ≡ Ok tt → late s ≡ Ok tt → Refuses holds s Starves r → ⊥
not_both holds s Starves r fed e l (inl x) = fine_not (early holds) r e x
not_both holds s Starves r fed e l (inr (a, inl x)) = fine_not (late s) r l x
not_both holds s Starves r fed e l (inr (a, inr x)) = not_starved r fed x.1

pub same_refusal : (holds : ApiRefused → Bool) (s : Sending) (Starves : Type 0) (r q : ApiRefused) → is_starved_call r ≡ false → is_starved_call q ≡ false
    → Refuses holds s Starves r → Refuses holds s Starves q → r ≡ q
same_refusal holds s Starves r q f g (inl x) (inl y) = one_refusal (early holds) r q x y
same_refusal holds s Starves r q f g (inl x) (inr y) = absurd (fine_not (early holds) r y.0 x)
same_refusal holds s Starves r q f g (inr x) (inl y) = absurd (fine_not (early holds) q x.0 y)
same_refusal holds s Starves r q f g (inr (a, inl x)) (inr (b, inl y)) = one_refusal (late s) r q x y
same_refusal holds s Starves r q f g (inr (a, inl x)) (inr (b, inr y)) = absurd (not_starved q g y.1)
same_refusal holds s Starves r q f g (inr (a, inr x)) (inr (b, y)) = absurd (not_starved r f x.1)

-- a call has one result but for want of memory
pub one_result : (holds : ApiRefused → Bool) (s : Sending) (Starves : Type 0) (a : ApiAnswer) (r q : Result ApiAnswer ApiRefused) → wants_memory r ≡ false → wants_memory q ≡ false
    → MayAnswer holds s Starves (Is a) r → MayAnswer holds s Starves (Is a) q → r ≡ q
one_result holds s Starves a (Ok x) (Ok y) f g m n = ap (λ z. Ok z) (m.2 ∙ sym n.2)
one_result holds s Starves a (Ok x) (Err q) f g m n = absurd (not_both holds s Starves q g m.0 m.1 n)
one_result holds s Starves a (Err r) (Ok y) f g m n = absurd (not_both holds s Starves r f n.0 n.1 m)
one_result holds s Starves a (Err r) (Err q) f g m n = ap (λ z. Err z) (same_refusal holds s Starves r q f g m n)

-- ---- calls

-- results of one call that didn't want memory
abbrev Same : (Result ApiAnswer ApiRefused → Type 0) → Type 0
Same May = (r q : Result ApiAnswer ApiRefused) → wants_memory r ≡ false → wants_memory q ≡ false → May r → May q → r ≡ q

pub calls_agree : (n : NodeState) (asa : ℕ) (it : Call) → Same (MayCall n asa it)
calls_agree n asa (call.RegisterAsa name) = one_result (register_asa_tests n name) nothing_sent ⊥ (Asa (n.registrations.made + 1))
calls_agree n asa call.DeregisterAsa = one_result (agent_tests n asa) nothing_sent (Unit {0}) Done
calls_agree n asa (call.RegisterObjective name flags) = one_result (register_objective_tests n asa name flags) nothing_sent ⊥ Done
calls_agree n asa (call.DeregisterObjective name) = one_result (objective_tests n asa name) nothing_sent (Unit {0}) Done
calls_agree n asa (call.Discover name kind loops timeout) =
    one_result (discover_tests n asa (is_fresh (find_of n asa name kind))) (searching n (find_of n asa name kind) name kind loops)
    (Unit {0}) (found_as (find_of n asa name kind))
calls_agree n asa (call.RequestNegotiate name value loops timeout dry peer) =
    one_result (request_tests n asa name dry peer) (sending n (request_of Negotiation (next_session n) (negotiated n asa name value loops dry)) 2)
    (Unit {0}) (started (start_reply n.sessions))
calls_agree n asa (call.ListenNegotiate name) = one_result (negotiation_tests n asa name) nothing_sent (Unit {0}) (taken_in n (untaken_reply n.sessions name))
calls_agree n asa (call.StopListenNegotiate name) = one_result (negotiation_tests n asa name) nothing_sent (Unit {0}) Done
calls_agree n asa (call.NegotiateStep h value) = one_result (act_tests n asa h act.Step) (sending n (act_message n h (SayStep value)) 1) (Unit {0}) Done
calls_agree n asa (call.NegotiateWait h millis) =
    one_result (act_tests n asa h act.Wait) (record { too_long = false; outbox_full = not (has_room n.queue 1) }) (Unit {0}) Done
calls_agree n asa (call.EndNegotiate h verdict) = one_result (act_tests n asa h act.End) (sending n (act_message n h (SayEnd verdict)) 1) (Unit {0}) Done
calls_agree n asa (call.SendInvalid h detail) = one_result (act_tests n asa h act.Invalid) (sending n (act_message n h (SayInvalid detail)) 1) (Unit {0}) Done
calls_agree n asa (call.Poll h) = one_result (poll_tests n asa h) nothing_sent (IsTurn (poll_reply n.sessions asa h)) (polled (poll_reply n.sessions asa h))
calls_agree n asa (call.Synchronize name loops timeout peer) =
    one_result (synchronize_tests n asa name peer) (sending n (request_of Synchronization (next_session n) (synchronized n asa name loops)) 2)
    (Unit {0}) (started (start_reply n.sessions))
calls_agree n asa (call.ListenSynchronize name value) = one_result (synchronization_tests n asa name) nothing_sent ⊥ Done
calls_agree n asa (call.StopListenSynchronize name) = one_result (synchronization_tests n asa name) nothing_sent ⊥ Done
calls_agree n asa (call.Flood name value ttl loops) =
    one_result (synchronization_tests n asa name) (sending n (flood_message n asa name value ttl loops) (count_all n)) (Unit {0}) Done
calls_agree n asa (call.GetFlood name) = one_result (agent_tests n asa) nothing_sent (Unit {0}) _
calls_agree n asa (call.ExpireFlood name initiator) = one_result (expire_flood_tests n asa name initiator) nothing_sent ⊥ Done

-- ---- steps

-- two steps have the same reply, and the same node after them
pub record SameStep (r q : Reply) (a b : NodeState) : Type 0 where
  pub reply : r ≡ q
  pub after : a ≡ b

-- what a call's reply says of its result
abbrev reply_of : Result ApiAnswer ApiRefused → Reply
reply_of (Ok answer) = reply.Api answer
reply_of (Err refused) = reply.Refused refused

abbrev node_by : NodeState → ℕ → Call → Result ApiAnswer ApiRefused → NodeState
node_by n asa it (Ok answer) = after_call n asa it (Ok answer)
node_by n asa it (Err refused) = n

-- a call comes out by a result
pub record CameOut (n : NodeState) (asa : ℕ) (it : Call) (r : Reply) (after : NodeState) : Type 0 where
  pub result : Result ApiAnswer ApiRefused
  pub may : MayCall n asa it result
  pub fed : wants_memory result ≡ false
  pub reply_is : r ≡ reply_of result
  pub after_is : after ≡ node_by n asa it result

pub came_out : (n : NodeState) (asa : ℕ) (it : Call) (r : Reply) (after : NodeState) → is_starved r ≡ false → Calls n asa it r after → CameOut n asa it r after
came_out n asa it (reply.Api answer) after fed x = record { result = Ok answer; may = x.0; fed = refl; reply_is = refl; after_is = x.1 }
came_out n asa it (reply.Refused refused) after fed x = record { result = Err refused; may = x.0; fed = fed; reply_is = refl; after_is = x.1 }
came_out n asa it _ after fed x = absurd x

pub call_steps : (n : NodeState) (asa : ℕ) (it : Call) (r q : Reply) (a b : NodeState) → CameOut n asa it r a → CameOut n asa it q b → SameStep r q a b
call_steps n asa it r q a b x y = by_result (calls_agree n asa it x.result y.result x.fed y.fed x.may y.may) where
  by_result : x.result ≡ y.result → SameStep r q a b
  by_result same = record { reply = x.reply_is ∙ (ap reply_of same ∙ sym y.reply_is); after = x.after_is ∙ (ap (node_by n asa it) same ∙ sym y.after_is) }

pub datagram_step : (n : NodeState) (link from : ℕ) (x : Coming) (r : Reply) (after : NodeState) → is_starved r ≡ false → TakesDatagram n link from x r after
    → SameStep r reply.Taken after (after_datagram n link from x.carried)
datagram_step n link from x reply.Taken after fed h = record { reply = refl; after = h }
datagram_step n link from x reply.OutOfMemory after fed h = absurd (false≢true (sym fed))
datagram_step n link from x _ after fed h = absurd h

pub bytes_step : (n : NodeState) (stream : ℕ) (bytes : List ℕ) (x : Coming) (r : Reply) (after : NodeState) → is_starved r ≡ false → TakesBytes n stream bytes x r after
    → SameStep r reply.Taken after (after_bytes n stream bytes x.added)
bytes_step n stream bytes x reply.Taken after fed h = record { reply = refl; after = h }
bytes_step n stream bytes x reply.OutOfMemory after fed h = absurd (false≢true (sym fed))
bytes_step n stream bytes x _ after fed h = absurd h

pub drain_step : (n : NodeState) (max : ℕ) (r : Reply) (after : NodeState) → is_starved r ≡ false → Drains n max r after → SameStep r (reply.Outputs (drained n max)) after (after_drain n max)
drain_step n max (reply.Outputs outputs) after fed h = record { reply = ap (λ o. reply.Outputs o) h.0; after = h.1 }
drain_step n max reply.OutOfMemory after fed h = absurd (false≢true (sym fed))
drain_step n max _ after fed h = absurd h

pub opened_step : (n : NodeState) (stream : ℕ) (r : Reply) → is_starved r ≡ false → MayOpen n stream r → r ≡ opened_reply n stream
opened_step n stream reply.OutOfMemory fed h = absurd (false≢true (sym fed))
opened_step n stream _ fed h = h

-- two that are both the same as a third
pub both_same : (r q z y : Reply) (a b c d : NodeState) → z ≡ y → c ≡ d → SameStep r z a c → SameStep q y b d → SameStep r q a b
both_same r q z y a b c d e f s u = record { reply = s.reply ∙ (e ∙ sym u.reply); after = s.after ∙ (f ∙ sym u.after) }

-- what is added doesn't matter where the stream isn't open
pub same_bytes : (n : NodeState) (stream : ℕ) (bytes : List ℕ) (a b : Added) → (IsSome (past_of n.streams stream) → a ≡ b) → after_bytes n stream bytes a ≡ after_bytes n stream bytes b
unfolding after_bytes
same_bytes n stream bytes a b same = by_past (past_of n.streams stream) same where
  by_past : (o : Option Past) → (IsSome o → a ≡ b) → bytes_on n stream bytes a o ≡ bytes_on n stream bytes b o
  by_past None e = refl
  by_past (Some past) e = ap (λ x. bytes_on n stream bytes x (Some past)) (e refl)

pub acts_agree : (n : NodeState) (i : Input) (x y : Coming) (r q : Reply) (a b : NodeState) → ReadsSame n i x y → is_starved r ≡ false → is_starved q ≡ false
    → Acts n i x r a → Acts n i y q b → SameStep r q a b
acts_agree n (input.Api asa it) x y r q a b same f g h k = call_steps n asa it r q a b (came_out n asa it r a f h) (came_out n asa it q b g k)
acts_agree n (input.Datagram link from bytes) x y r q a b same f g h k =
    both_same r q reply.Taken reply.Taken a b (after_datagram n link from x.carried) (after_datagram n link from y.carried) refl (ap (after_datagram n link from) same)
    (datagram_step n link from x r a f h) (datagram_step n link from y q b g k)
acts_agree n (input.Opened stream from) x y r q a b same f g h k = by_reply (opened_step n stream r f h.0 ∙ sym (opened_step n stream q g k.0)) where
  by_reply : r ≡ q → SameStep r q a b
  by_reply e = record { reply = e; after = h.1 ∙ (ap (after_opened n stream from) e ∙ sym k.1) }
acts_agree n (input.Bytes stream bytes) x y r q a b same f g h k =
    both_same r q reply.Taken reply.Taken a b (after_bytes n stream bytes x.added) (after_bytes n stream bytes y.added) refl (same_bytes n stream bytes x.added y.added same)
    (bytes_step n stream bytes x r a f h) (bytes_step n stream bytes y q b g k)
acts_agree n (input.Closed stream) x y r q a b same f g h k = record { reply = h.0 ∙ sym k.0; after = h.1 ∙ sym k.1 }
acts_agree n (input.Drain max) x y r q a b same f g h k =
    both_same r q (reply.Outputs (drained n max)) (reply.Outputs (drained n max)) a b (after_drain n max) (after_drain n max) refl refl (drain_step n max r a f h) (drain_step n max q b g k)

pub steps_agree : (v : Visit) (c d : Choice) → IsFedVisit v → VisitStep v c → VisitStep v d → SameStep c.reply d.reply c.after d.after
steps_agree v c d fed x y =
    acts_agree (begin v.seat.core v.now) v.input c.coming d.coming c.reply d.reply c.after d.after
    (comings_agree v.seat.core v.now v.input c.coming d.coming fed.node fed.bytes x.steps.is_coming y.steps.is_coming)
    x.fed y.fed x.steps.acts y.steps.acts

-- ---- events

abbrev told_by : Coming → Reply → NodeState → Choice
told_by x r after = record { coming = x; reply = r; after = after }

-- what comes with an input is told by nothing but the reply and the node after
pub report_apart : (e : Event) (v : Visit) (c : Choice) (x : Coming) → report_visit e v c ≡ report_visit e v (told_by x c.reply c.after)
report_apart (event.Clock node millis) v c x = refl
report_apart _ v c x = refl

pub after_apart : (s : Setting) (w : WorldState) (e : Event) (v : Visit) (c : Choice) (x : Coming) → after_visit s w e v c ≡ after_visit s w e v (told_by x c.reply c.after)
unfolding after_clock after_agent after_agent_call after_delivery answers_in after_arrival after_piece after_cut
after_apart s w (event.Clock node millis) v c x = refl
after_apart s w _ v c x = refl

-- with one reply and one node after
pub told_same : (x : Coming) (r q : Reply) (a b : NodeState) → SameStep r q a b → told_by x r a ≡ told_by x q b
told_same x r q a b same = ap (λ z. told_by x z a) same.reply ∙ ap (λ z. told_by x q z) same.after

pub record IsSameBy (s : Setting) (w : WorldState) (e : Event) (c d : Choice) (o : Option Visit) : Type 0 where
  pub report : report_by w e c o ≡ report_by w e d o
  pub after : after_by s w e c o ≡ after_by s w e d o

pub visits_agree : (s : Setting) (w : WorldState) (e : Event) (c d : Choice) (o : Option Visit) → IsFedWhere o → MayCome o c → MayCome o d → IsSameBy s w e c d o
visits_agree s w e c d None fed x y = record { report = refl; after = refl }
visits_agree s w e c d (Some v) fed x y = by_step (told_same d.coming c.reply d.reply c.after d.after (steps_agree v c d fed x y)) where
  by_step : told_by d.coming c.reply c.after ≡ told_by d.coming d.reply d.after → IsSameBy s w e c d (Some v)
  by_step same = record {
    report = report_apart e v c d.coming ∙ ap (report_visit e v) same;
    after = ap (λ x. drained_behind (drains e) s x v.node) (after_apart s w e v c d.coming ∙ ap (after_visit s w e v) same);
  }

pub outcomes_agree : OutcomesAgree
unfolding after_event report_of
outcomes_agree s w e c d fed x y = both (visits_agree s w e c d (visit_of s w e) fed x.comes y.comes) where
  both : IsSameBy s w e c d (visit_of s w e) → IsSameOutcome s w e c d
  both same = record { report = same.report; after = same.after }
