-- Each input has an outcome: a call its answer or its refusal, a delivery its reply, and a drain its outputs.
use Rattle.std.proofs.Common.{◌≡◌, inl, inr, ℕ, ◌+◌, Bool, true, false, cond, not, List, [], ◌∷◌, Result, Ok, Err, refl, sym, subst}
use Rattle.grasp_session.specs.Sessions.{poll_reply, start_reply, untaken_reply, IsTurn}
use Rattle.grasp_session.specs.Transcript.{SayStep, SayEnd, SayInvalid}
use Rattle.grasp_session.specs.declared.answer.Act.TheVariants as act
use Rattle.grasp_types.specs.declared.address.Address.{Address}
use Rattle.grasp_types.specs.declared.call.Call.{Call}
use Rattle.grasp_types.specs.declared.call.Call.TheVariants as call
use Rattle.grasp_types.specs.declared.refusal.ApiRefused.{ApiRefused}
use Rattle.grasp_types.specs.declared.reply.ApiAnswer.{ApiAnswer}
use Rattle.grasp_types.specs.declared.reply.ApiAnswer.TheVariants.{Asa, Done}
use Rattle.grasp_types.specs.declared.reply.Reply.{Reply}
use Rattle.grasp_types.specs.declared.reply.Reply.TheVariants as reply
use Rattle.grasp_types.specs.declared.session.Kind.TheVariants.{Negotiation, Synchronization}
use Rattle.grasp_types.specs.declared.traffic.Input.{Input}
use Rattle.grasp_types.specs.declared.traffic.Input.TheVariants as input
use Rattle.grasp_laws_node.proofs.Divided.Comes.{something_always_comes}
use Rattle.grasp_model_node.specs.Begin.{begin}
use Rattle.grasp_model_node.specs.Bytes.{after_bytes, after_closed}
use Rattle.grasp_model_node.specs.Datagrams.{after_datagram}
use Rattle.grasp_model_node.specs.Draining.{drained, after_drain}
use Rattle.grasp_model_node.specs.Draws.{next_session}
use Rattle.grasp_model_node.specs.FloodCalls.{count_all, find_of, flood_message, found_as, is_fresh, searching}
use Rattle.grasp_model_node.specs.Node.{NodeState}
use Rattle.grasp_model_node.specs.Opening.{is_ignored, opened_reply, after_opened}
use Rattle.grasp_model_node.specs.Queue.{has_room}
use Rattle.grasp_model_node.specs.Refusals.{Test, first_that, Sending, early, early_tests, late, late_tests, MayAnswer, nothing_sent}
use Rattle.grasp_model_node.specs.SessionCalls.{act_message, negotiated, polled, request_of, started, synchronized, taken_in}
use Rattle.grasp_model_node.specs.Step.{Coming, MayCall, after_call, Acts}
use Rattle.grasp_model_node.specs.Streams.{is_full}
use Rattle.grasp_model_node.specs.Tests.{act_tests, agent_tests, discover_tests, expire_flood_tests, negotiation_tests, objective_tests, poll_tests, register_asa_tests, register_objective_tests, request_tests, sending, synchronization_tests, synchronize_tests}
use Rattle.grasp_laws_progress.specs.Outcomes.{HasCause, HadMemory, EachComingComesOut, EachInputComesOut}

-- ---- refusals

-- each refusal of the tests has a cause of its own
abbrev HaveCauses : List Test → Type 0
HaveCauses [] = Unit {0}
HaveCauses (t ∷ ts) = HasCause t.refusal × HaveCauses ts

first_cause : (ts : List Test) (r : ApiRefused) → HaveCauses ts → first_that ts ≡ Err r → HasCause r
first_cause [] r h e = absurd (cc)
first_cause (t ∷ ts) r h e = by_test t.holds e (λ f. first_cause ts r h.1 f) where
  by_test : (b : Bool) → cond b (Err t.refusal) (first_that ts) ≡ Err r → (first_that ts ≡ Err r → HasCause r) → HasCause r
  by_test true f g = let same : t.refusal ≡ r = cc in subst HasCause same h.0
  by_test false f g = g f

early_cause : (holds : ApiRefused → Bool) (r : ApiRefused) → early holds ≡ Err r → HasCause r
early_cause holds r e = first_cause (early_tests holds) r (tt, (tt, (tt, (tt, (tt, (tt, (tt, (tt, (tt, (tt, (tt, (tt, (tt, (tt, (tt, (tt, (tt, (tt, tt)))))))))))))))))) e

late_cause : (s : Sending) (r : ApiRefused) → late s ≡ Err r → HasCause r
late_cause s r e = first_cause (late_tests s) r (tt, (tt, tt)) e

-- ---- calls

abbrev HadMemoryFor : Result ApiAnswer ApiRefused → Type 0
HadMemoryFor (Ok a) = Unit {0}
HadMemoryFor (Err r) = HasCause r

-- a call that may be answered so has a result
pub record Results (May : Result ApiAnswer ApiRefused → Type 0) : Type 0 where
  pub result : Result ApiAnswer ApiRefused
  pub may : May result
  pub had_memory : HadMemoryFor result

-- what a call answers where no test holds is its result there, and else the refusal of the first that does
results : (holds : ApiRefused → Bool) (s : Sending) (Starves : Type 0) (Answers : ApiAnswer → Type 0) (a : ApiAnswer) → Answers a → Results (MayAnswer holds s Starves Answers)
results holds s Starves Answers a is = by_early (early holds) refl where
  by_late : early holds ≡ Ok tt → (x : Result (Unit {0}) ApiRefused) → late s ≡ x → Results (MayAnswer holds s Starves Answers)
  by_late e (Ok u) f = record { result = Ok a; may = (e, f, is); had_memory = tt }
  by_late e (Err r) f = record { result = Err r; may = inr (e, inl f); had_memory = late_cause s r f }

  by_early : (x : Result (Unit {0}) ApiRefused) → early holds ≡ x → Results (MayAnswer holds s Starves Answers)
  by_early (Ok u) e = by_late e (late s) refl
  by_early (Err r) e = record { result = Err r; may = inl e; had_memory = early_cause holds r e }

-- the answer is this one
answered : (holds : ApiRefused → Bool) (s : Sending) (Starves : Type 0) (a : ApiAnswer) → Results (MayAnswer holds s Starves (λ b. b ≡ a))
answered holds s Starves a = results holds s Starves (λ b. b ≡ a) a refl

call_results : (n : NodeState) (asa : ℕ) (it : Call) → Results (MayCall n asa it)
call_results n asa (call.RegisterAsa name) = answered (register_asa_tests n name) nothing_sent ⊥ (Asa (n.registrations.made + 1))
call_results n asa call.DeregisterAsa = answered (agent_tests n asa) nothing_sent (Unit {0}) Done
call_results n asa (call.RegisterObjective name flags) = answered (register_objective_tests n asa name flags) nothing_sent ⊥ Done
call_results n asa (call.DeregisterObjective name) = answered (objective_tests n asa name) nothing_sent (Unit {0}) Done
call_results n asa (call.Discover name kind loops timeout) =
    answered (discover_tests n asa (is_fresh (find_of n asa name kind))) (searching n (find_of n asa name kind) name kind loops)
    (Unit {0}) (found_as (find_of n asa name kind))
call_results n asa (call.RequestNegotiate name value loops timeout dry peer) =
    answered (request_tests n asa name dry peer) (sending n (request_of Negotiation (next_session n) (negotiated n asa name value loops dry)) 2)
    (Unit {0}) (started (start_reply n.sessions))
call_results n asa (call.ListenNegotiate name) = answered (negotiation_tests n asa name) nothing_sent (Unit {0}) (taken_in n (untaken_reply n.sessions name))
call_results n asa (call.StopListenNegotiate name) = answered (negotiation_tests n asa name) nothing_sent (Unit {0}) Done
call_results n asa (call.NegotiateStep h value) = answered (act_tests n asa h act.Step) (sending n (act_message n h (SayStep value)) 1) (Unit {0}) Done
call_results n asa (call.NegotiateWait h millis) =
    answered (act_tests n asa h act.Wait) (record { too_long = false; outbox_full = not (has_room n.queue 1) }) (Unit {0}) Done
call_results n asa (call.EndNegotiate h verdict) = answered (act_tests n asa h act.End) (sending n (act_message n h (SayEnd verdict)) 1) (Unit {0}) Done
call_results n asa (call.SendInvalid h detail) = answered (act_tests n asa h act.Invalid) (sending n (act_message n h (SayInvalid detail)) 1) (Unit {0}) Done
call_results n asa (call.Poll h) = answered (poll_tests n asa h) nothing_sent (IsTurn (poll_reply n.sessions asa h)) (polled (poll_reply n.sessions asa h))
call_results n asa (call.Synchronize name loops timeout peer) =
    answered (synchronize_tests n asa name peer) (sending n (request_of Synchronization (next_session n) (synchronized n asa name loops)) 2)
    (Unit {0}) (started (start_reply n.sessions))
call_results n asa (call.ListenSynchronize name value) = answered (synchronization_tests n asa name) nothing_sent ⊥ Done
call_results n asa (call.StopListenSynchronize name) = answered (synchronization_tests n asa name) nothing_sent ⊥ Done
call_results n asa (call.Flood name value ttl loops) =
    answered (synchronization_tests n asa name) (sending n (flood_message n asa name value ttl loops) (count_all n)) (Unit {0}) Done
call_results n asa (call.GetFlood name) = answered (agent_tests n asa) nothing_sent (Unit {0}) _
call_results n asa (call.ExpireFlood name initiator) = answered (expire_flood_tests n asa name initiator) nothing_sent ⊥ Done

-- ---- steps

-- what an input does comes out
record Does (n : NodeState) (i : Input) (x : Coming) : Type 0 where
  pub reply : Reply
  pub after : NodeState
  pub acts : Acts n i x reply after
  pub had_memory : HadMemory reply

call_does : (n : NodeState) (asa : ℕ) (it : Call) (x : Coming) → Does n (input.Api asa it) x
call_does n asa it x = by_results (call_results n asa it) where
  by : (r : Result ApiAnswer ApiRefused) → MayCall n asa it r → HadMemoryFor r → Does n (input.Api asa it) x
  by (Ok a) may had = record { reply = reply.Api a; after = after_call n asa it (Ok a); acts = (may, refl); had_memory = tt }
  by (Err r) may had = record { reply = reply.Refused r; after = n; acts = (may, refl); had_memory = had }

  by_results : Results (MayCall n asa it) → Does n (input.Api asa it) x
  by_results r = by r.result r.may r.had_memory

opening_does : (n : NodeState) (stream : ℕ) (from : Address) (x : Coming) → Does n (input.Opened stream from) x
opening_does n stream from x = by (is_ignored n stream) (is_full n.streams) refl where
  by : (a b : Bool) → opened_reply n stream ≡ cond a reply.Taken (cond b reply.Turned reply.Taken) → Does n (input.Opened stream from) x
  by true b e = record { reply = reply.Taken; after = after_opened n stream from reply.Taken; acts = (sym e, refl); had_memory = tt }
  by false true e = record { reply = reply.Turned; after = after_opened n stream from reply.Turned; acts = (sym e, refl); had_memory = tt }
  by false false e = record { reply = reply.Taken; after = after_opened n stream from reply.Taken; acts = (sym e, refl); had_memory = tt }

does : (n : NodeState) (i : Input) (x : Coming) → Does n i x
does n (input.Api asa it) x = call_does n asa it x
does n (input.Datagram link from bytes) x = record { reply = reply.Taken; after = after_datagram n link from x.carried; acts = refl; had_memory = tt }
does n (input.Opened stream from) x = opening_does n stream from x
does n (input.Bytes stream bytes) x = record { reply = reply.Taken; after = after_bytes n stream bytes x.added; acts = refl; had_memory = tt }
does n (input.Closed stream) x = record { reply = reply.Taken; after = after_closed n stream; acts = (refl, refl); had_memory = tt }
does n (input.Drain max) x = record { reply = reply.Outputs (drained n max); after = after_drain n max; acts = (refl, refl); had_memory = tt }

pub each_coming : EachComingComesOut
each_coming n now i x is = let d = does (begin n now) i x in record { reply = d.reply; after = d.after; steps = record { is_coming = is; acts = d.acts }; had_memory = d.had_memory }

pub each_input : EachInputComesOut
each_input n now i f few b = let c = something_always_comes n now i f few b in record { coming = c.coming; comes_out = each_coming n now i c.coming c.is_coming }
