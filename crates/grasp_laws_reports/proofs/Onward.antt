-- Each step of a node leaves the reading with which it began, and each session that is no longer live where it is.
use Rattle.std.proofs.Common.{◌≡◌, refl, sym, ◌∙◌, subst, arith, ℕ, zero, suc, Bool, true, false, cond, List, [], ◌∷◌, Contains, Option, Some, None, Result, Ok, Err}
use Rattle.grasp_asa.specs.Answers.{names_of}
use Rattle.grasp_laws_node.proofs.DatagramsAlone.{datagrams_leave}
use Rattle.grasp_laws_node.proofs.StreamsAlone.{peers_leave}
use Rattle.grasp_model_node.specs.Begin.{begin}
use Rattle.grasp_model_node.specs.Declines.{Declining, may_decline, declined, declined_for, unlistened, removed, after_decline, after_declines, declines_of}
use Rattle.grasp_model_node.specs.Draining.{after_drain}
use Rattle.grasp_model_node.specs.FloodCalls.{find_of, looked}
use Rattle.grasp_model_node.specs.Moves.{with_registrations, with_sessions, with_discoveries, with_floods, with_draw, begin_closing, dial_record, queue_up}
use Rattle.grasp_model_node.specs.Node.{NodeState}
use Rattle.grasp_model_node.specs.RegistryCalls.{declines_for, without_agent, without_objective, without_searches, close_stream, without_session, without_sessions, with_mark}
use Rattle.grasp_model_node.specs.SessionCalls.{after_polling, begun_by, negotiated, requested, synchronized, with_adopted}
use Rattle.grasp_model_node.specs.Step.{Calls, Coming, Drains, NodeStep, after_call}
use Rattle.grasp_discovery.specs.declared.answers.Find.{Find}
use Rattle.grasp_discovery.specs.declared.answers.Find.TheVariants as find
use Rattle.grasp_session.specs.Sessions.{SessionState, Sessions, after_adopt, after_poll, after_say, after_start, changed, is_leaving, leave_at, left, owner_reply, session_at, start_reply, stream_reply, untaken_reply, with_place, with_transcript}
use Rattle.grasp_session.specs.Transcript.{Saying, SayStep, SayWait, SayEnd, SayInvalid, having_said}
use Rattle.grasp_session.specs.declared.answer.SessionRefused.{SessionRefused}
use Rattle.grasp_session.specs.declared.begin.Begin.{Begin}
use Rattle.grasp_types.specs.declared.address.Locator.{Locator}
use Rattle.grasp_types.specs.declared.call.Call.{Call}
use Rattle.grasp_types.specs.declared.call.Call.TheVariants as call
use Rattle.grasp_types.specs.declared.objective.Objective.{Objective}
use Rattle.grasp_types.specs.declared.reply.ApiAnswer.{ApiAnswer}
use Rattle.grasp_types.specs.declared.reply.ApiAnswer.TheVariants as answer
use Rattle.grasp_types.specs.declared.reply.Reply.{Reply}
use Rattle.grasp_types.specs.declared.reply.Reply.TheVariants as reply
use Rattle.grasp_types.specs.declared.session.Handle.{Handle}
use Rattle.grasp_types.specs.declared.session.Kind.{Kind}
use Rattle.grasp_types.specs.declared.session.Kind.TheVariants.{Negotiation, Synchronization}
use Rattle.grasp_types.specs.declared.session.Progress.{Progress}
use Rattle.grasp_types.specs.declared.session.Progress.TheVariants.{NotYet, Turn, Ended}
use Rattle.grasp_types.specs.declared.traffic.Input.{Input}
use Rattle.grasp_types.specs.declared.traffic.Input.TheVariants as input
use Rattle.grasp_laws_agents.proofs.Hearing as hearing

-- ---- sessions that are no longer live

pub record GoneGrow (z w : Sessions) : Type 0 where
  pub gone : (x : SessionState) → Contains z.gone x → Contains w.gone x

grow_self : (z : Sessions) → GoneGrow z z
grow_self z = record { gone = λ x i. i }

grow_then : (x y z : Sessions) → GoneGrow x y → GoneGrow y z → GoneGrow x z
grow_then x y z a b = record { gone = λ s i. b.gone s (a.gone s i) }

left_grow : (z : Sessions) (h : Handle) (x : SessionState) → GoneGrow z (left z h x)
left_grow z h x = record { gone = λ y i. (suc i.0, omega (arith, i.1), i.2) }

changed_grow : (z : Sessions) (h : Handle) (x : SessionState) → GoneGrow z (changed z h x)
changed_grow z h x = by_test (is_leaving x) where
  by_test : (b : Bool) → GoneGrow z (cond b (left z h x) (with_place z h.place (Some x)))
  by_test true = left_grow z h x
  by_test false = record { gone = λ y i. i }

says_grow : (z : Sessions) (now : ℕ) (h : Handle) (saying : Saying) → GoneGrow z (after_say z now h saying)
says_grow z now h saying = by_state (session_at z h) refl where
  by_state : (o : Option SessionState) → session_at z h ≡ o → GoneGrow z (after_say z now h saying)
  by_state None e = rw e (grow_self z)
  by_state (Some x) e = rw e (changed_grow z h (with_transcript x (having_said x.view now saying)))

leaves_grow : (z : Sessions) (h : Handle) (o : Option SessionState) → GoneGrow z (leave_at z h o)
leaves_grow z h None = grow_self z
leaves_grow z h (Some x) = left_grow z h x

polls_grow : (z : Sessions) (h : Handle) (p : Progress) → GoneGrow z (after_poll z h (Ok p))
polls_grow z h NotYet = grow_self z
polls_grow z h (Turn o) = grow_self z
polls_grow z h (Ended o) = leaves_grow z h (session_at z h)

adopts_grow : (z : Sessions) (owner : ℕ) (h : Handle) → GoneGrow z (after_adopt z owner h)
adopts_grow z owner h = by_state (session_at z h) refl where
  by_state : (o : Option SessionState) → session_at z h ≡ o → GoneGrow z (after_adopt z owner h)
  by_state None e = rw e (grow_self z)
  by_state (Some x) e = rw e (record { gone = λ y i. i })

starts_grow : (z : Sessions) (now : ℕ) (b : Begin) (r : Result Handle SessionRefused) → GoneGrow z (after_start z now b r)
starts_grow z now b (Ok h) = record { gone = λ y i. i }
starts_grow z now b (Err refused) = grow_self z

-- ---- a node at the same reading, whose sessions that are no longer live are so still

pub record Onward (n m : NodeState) : Type 0 where
  pub reading : m.reading ≡ n.reading
  pub sessions : GoneGrow n.sessions m.sessions

-- a node with the same clock reading and the same sessions keeps those sessions that are no longer live
as_was : (n m : NodeState) → m.reading ≡ n.reading → m.sessions ≡ n.sessions → Onward n m
as_was n m r s = record { reading = r; sessions = subst (GoneGrow n.sessions) (sym s) (grow_self n.sessions) }

onward_self : (n : NodeState) → Onward n n
onward_self n = as_was n n refl refl

onward_then : (n m p : NodeState) → Onward n m → Onward m p → Onward n p
onward_then n m p a b = record { reading = b.reading ∙ a.reading; sessions = grow_then n.sessions m.sessions p.sessions a.sessions b.sessions }

onward_is : (n m p : NodeState) → p ≡ m → Onward n m → Onward n p
onward_is n m p e a = subst (Onward n) (sym e) a

-- ---- declines

declined_as : (n : NodeState) (d : Declining) → Onward n (declined n d)
unfolding with_sessions queue_up
declined_as n d = record { reading = refl; sessions = says_grow n.sessions n.reading d.handle (SayEnd (declined_for unlistened)) }

removed_as : (n : NodeState) (h : Handle) → Onward n (removed n h)
unfolding with_sessions
removed_as n h = record { reading = refl; sessions = leaves_grow n.sessions h (session_at n.sessions h) }

closing_as : (n m : NodeState) (stream : ℕ) → Onward n m → Onward n (begin_closing m stream)
unfolding begin_closing
closing_as n m stream a = record { reading = a.reading; sessions = a.sessions }

one_declines : (n : NodeState) (d : Declining) → Onward n (after_decline n d)
one_declines n d = closing_as n (cond (may_decline n d.handle) (declined n d) (removed n d.handle)) d.stream (by_test (may_decline n d.handle)) where
  by_test : (b : Bool) → Onward n (cond b (declined n d) (removed n d.handle))
  by_test true = declined_as n d
  by_test false = removed_as n d.handle

declines : (n : NodeState) (ds : List Declining) → Onward n (after_declines n ds)
unfolding after_declines
declines n [] = onward_self n
declines n (d ∷ ds) = onward_then n (after_decline n d) (after_declines (after_decline n d) ds) (one_declines n d) (declines (after_decline n d) ds)

-- ---- the sessions of an agent leave

closes_one : (n m : NodeState) (o : Option ℕ) → Onward n m → Onward n (close_stream m o)
closes_one n m None a = a
closes_one n m (Some stream) a = closing_as n m stream a

one_without : (n : NodeState) (o : Option Handle) → Onward n (without_session n o)
one_without n None = onward_self n
one_without n (Some h) = closes_one n (removed n h) (stream_reply n.sessions h) (removed_as n h)

all_without : (count : ℕ) (n : NodeState) (asa : ℕ) → Onward n (without_sessions count n asa)
unfolding without_sessions
all_without zero n asa = onward_self n
all_without (suc count) n asa =
    let m : NodeState = without_sessions count n asa in
    onward_then n m (without_session m (owner_reply m.sessions asa)) (all_without count n asa) (one_without m (owner_reply m.sessions asa))

without_searches_as : (n : NodeState) (asa : ℕ) → Onward n (without_searches n asa)
unfolding with_discoveries
without_searches_as n asa = as_was n (without_searches n asa) refl refl

without_agent_as : (n : NodeState) (asa : ℕ) → Onward n (without_agent n asa)
unfolding with_registrations
without_agent_as n asa = as_was n (without_agent n asa) refl refl

without_objective_as : (n : NodeState) (asa : ℕ) (name : List ℕ) → Onward n (without_objective n asa name)
unfolding with_registrations
without_objective_as n asa name = as_was n (without_objective n asa name) refl refl

with_mark_as : (n : NodeState) (asa : ℕ) (name : List ℕ) (listening : Bool) → Onward n (with_mark n asa name listening)
unfolding with_registrations
with_mark_as n asa name listening = as_was n (with_mark n asa name listening) refl refl

deregisters : (n : NodeState) (asa : ℕ) → Onward n (without_sessions 64 (without_searches (after_declines (without_agent n asa) (declines_for n.sessions (names_of n.registrations asa))) asa) asa)
deregisters n asa =
    let p : NodeState = after_declines (without_agent n asa) (declines_for n.sessions (names_of n.registrations asa)) in
    let q : NodeState = without_searches p asa in
    onward_then n q (without_sessions 64 q asa)
    (onward_then n p q (onward_then n (without_agent n asa) p (without_agent_as n asa) (declines (without_agent n asa) (declines_for n.sessions (names_of n.registrations asa)))) (without_searches_as p asa))
    (all_without 64 q asa)

-- ---- a search, a listener, a poll, a request

looks : (n : NodeState) (asa : ℕ) (name : List ℕ) (kind : Kind) (loops timeout : ℕ) (f : Find) → Onward n (looked n asa name kind loops timeout f)
unfolding with_discoveries with_draw queue_up
looks n asa name kind loops timeout find.Fresh = as_was n (looked n asa name kind loops timeout find.Fresh) refl refl
looks n asa name kind loops timeout (find.Found locators) = as_was n (looked n asa name kind loops timeout (find.Found locators)) refl refl
looks n asa name kind loops timeout find.NotYet = as_was n (looked n asa name kind loops timeout find.NotYet) refl refl
looks n asa name kind loops timeout find.Nothing = as_was n (looked n asa name kind loops timeout find.Nothing) refl refl

adopts_by : (n : NodeState) (asa : ℕ) (o : Option Handle) → Onward n (with_adopted n asa o)
unfolding with_sessions
adopts_by n asa None = onward_self n
adopts_by n asa (Some h) = record { reading = refl; sessions = adopts_grow n.sessions asa h }

polls_at : (n : NodeState) (h : Handle) (a : ApiAnswer) → Onward n (after_polling n h (Ok a))
unfolding with_sessions
polls_at n h (answer.Polled progress) = record { reading = refl; sessions = polls_grow n.sessions h progress }
polls_at n h a = onward_self n

requests : (n : NodeState) (asa : ℕ) (kind : Kind) (timeout : ℕ) (o : Objective) (peer : Locator) → Onward n (requested n asa kind timeout o peer)
unfolding with_sessions with_draw dial_record queue_up
requests n asa kind timeout o peer = record { reading = refl; sessions = starts_grow n.sessions n.reading (begun_by n asa kind timeout o) (start_reply n.sessions) }

-- ---- calls

calls_go : (n : NodeState) (asa : ℕ) (it : Call) (a : ApiAnswer) → Onward n (after_call n asa it (Ok a))
unfolding with_registrations with_sessions with_floods with_draw begin_closing queue_up
calls_go n asa call.DeregisterAsa a = deregisters n asa
calls_go n asa (call.DeregisterObjective name) a =
    onward_then n (without_objective n asa name) _ (without_objective_as n asa name) (declines (without_objective n asa name) (declines_of n.sessions name))
calls_go n asa (call.Discover name kind loops timeout) a = looks n asa name kind loops timeout (find_of n asa name kind)
calls_go n asa (call.RequestNegotiate name value loops timeout dry peer) a = requests n asa Negotiation timeout (negotiated n asa name value loops dry) peer
calls_go n asa (call.ListenNegotiate name) a =
    onward_then n (with_mark n asa name true) _ (with_mark_as n asa name true) (adopts_by (with_mark n asa name true) asa (untaken_reply n.sessions name))
calls_go n asa (call.StopListenNegotiate name) a =
    onward_then n (with_mark n asa name false) _ (with_mark_as n asa name false) (declines (with_mark n asa name false) (declines_of n.sessions name))
calls_go n asa (call.NegotiateStep h value) a = record { reading = refl; sessions = says_grow n.sessions n.reading h (SayStep value) }
calls_go n asa (call.NegotiateWait h millis) a = record { reading = refl; sessions = says_grow n.sessions n.reading h (SayWait millis) }
calls_go n asa (call.EndNegotiate h verdict) a = record { reading = refl; sessions = says_grow n.sessions n.reading h (SayEnd verdict) }
calls_go n asa (call.SendInvalid h detail) a = record { reading = refl; sessions = says_grow n.sessions n.reading h (SayInvalid detail) }
calls_go n asa (call.Poll h) a = polls_at n h a
calls_go n asa (call.Synchronize name loops timeout peer) a = requests n asa Synchronization timeout (synchronized n asa name loops) peer
calls_go n asa (call.GetFlood name) a = onward_self n
calls_go n asa _ a = as_was n _ refl refl

call_goes : (n after : NodeState) (asa : ℕ) (it : Call) (r : Reply) → Calls n asa it r after → Onward n after
call_goes n after asa it (reply.Api a) c = onward_is n (after_call n asa it (Ok a)) after c.1 (calls_go n asa it a)
call_goes n after asa it (reply.Refused refused) c = onward_is n n after c.1 (onward_self n)
call_goes n after asa it _ c = absurd c

-- ---- steps

drains_as : (n : NodeState) (max : ℕ) → Onward n (after_drain n max)
unfolding after_drain
drains_as n max = as_was n (after_drain n max) refl refl

drain_goes : (n after : NodeState) (max : ℕ) (r : Reply) → Drains n max r after → Onward n after
drain_goes n after max (reply.Outputs outputs) d = onward_is n (after_drain n max) after d.1 (drains_as n max)
drain_goes n after max reply.OutOfMemory d = onward_is n n after d.1 (onward_self n)
drain_goes n after max _ d = absurd d

-- from where the step begins
pub begun_goes : (n after : NodeState) (now : ℕ) (i : Input) (x : Coming) (r : Reply) → NodeStep n now i x r after → Onward (begin n now) after
begun_goes n after now (input.Api asa it) x r s = call_goes (begin n now) after asa it r s.acts
begun_goes n after now (input.Datagram link from bytes) x r s =
    let a = datagrams_leave n after now link from bytes x r s in as_was (begin n now) after a.reading a.sessions
begun_goes n after now (input.Opened stream from) x r s = record {
  reading = ((peers_leave n after now stream x r).0 from s).reading;
  sessions = record { gone = subst (λ (m : NodeState). (y : SessionState) → Contains (begin n now).sessions.gone y → Contains m.sessions.gone y) (sym s.acts.1) (hearing.opening_comes (begin n now) stream from r).goes_on.gone };
}
begun_goes n after now (input.Bytes stream bytes) x r s = record {
  reading = ((peers_leave n after now stream x r).1 bytes s).reading;
  sessions = record { gone = (hearing.bytes_come (begin n now) after stream bytes x r s.acts).goes_on.gone };
}
begun_goes n after now (input.Closed stream) x r s = record {
  reading = ((peers_leave n after now stream x r).2 s).reading;
  sessions = record { gone = subst (λ (m : NodeState). (y : SessionState) → Contains (begin n now).sessions.gone y → Contains m.sessions.gone y) (sym s.acts.1) (hearing.closing_comes (begin n now) stream).goes_on.gone };
}
begun_goes n after now (input.Drain max) x r s = drain_goes (begin n now) after max r s.acts

pub begins_grow : (n : NodeState) (now : ℕ) → GoneGrow n.sessions (begin n now).sessions
begins_grow n now = record { gone = (hearing.begins n now).goes_on.gone }

pub step_grows : (n after : NodeState) (now : ℕ) (i : Input) (x : Coming) (r : Reply) → NodeStep n now i x r after → GoneGrow n.sessions after.sessions
step_grows n after now i x r s = grow_then n.sessions (begin n now).sessions after.sessions (begins_grow n now) (begun_goes n after now i x r s).sessions
