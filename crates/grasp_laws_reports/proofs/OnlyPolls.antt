-- A report that tells an agreement is that of a poll.
use Rattle.std.proofs.Common.{◌≡◌, refl, ap, ◌∙◌, subst, ℕ, ◌+◌, Bool, true, false, cond, List, Option, Some, None, Result, Ok, Err}
use Rattle.std.proofs.lemmas.Option.{none-some, same_Some}
use Rattle.grasp_model_node.specs.Begin.{begin}
use Rattle.grasp_model_node.specs.FloodCalls.{find_of, found_as}
use Rattle.grasp_laws_node.specs.Means.{PollMeans}
use Rattle.grasp_model_node.specs.Node.{NodeState}
use Rattle.grasp_model_node.specs.Opening.{is_ignored}
use Rattle.grasp_model_node.specs.SessionCalls.{incoming, started, taken_in}
use Rattle.grasp_model_node.specs.Streams.{is_full}
use Rattle.grasp_model_node.specs.Step.{Acts, Coming, MayCall}
use Rattle.grasp_discovery.specs.declared.answers.Find.{Find}
use Rattle.grasp_discovery.specs.declared.answers.Find.TheVariants as find
use Rattle.grasp_session.specs.Sessions.{adopt_reply, start_reply, untaken_reply}
use Rattle.grasp_session.specs.declared.answer.SessionRefused.{SessionRefused}
use Rattle.grasp_text.specs.Line.{objective_words}
use Rattle.grasp_types.specs.declared.address.Address.{Address}
use Rattle.grasp_types.specs.declared.call.Call.{Call}
use Rattle.grasp_types.specs.declared.call.Call.TheVariants as call
use Rattle.grasp_types.specs.declared.objective.Objective.{Objective}
use Rattle.grasp_types.specs.declared.reply.ApiAnswer.{ApiAnswer}
use Rattle.grasp_types.specs.declared.reply.ApiAnswer.TheVariants as answer
use Rattle.grasp_types.specs.declared.reply.Reply.{Reply}
use Rattle.grasp_types.specs.declared.reply.Reply.TheVariants as reply
use Rattle.grasp_types.specs.declared.session.By.{By}
use Rattle.grasp_types.specs.declared.session.Handle.{Handle}
use Rattle.grasp_types.specs.declared.session.Outcome.TheVariants as outcome
use Rattle.grasp_types.specs.declared.session.Progress.{Progress}
use Rattle.grasp_types.specs.declared.session.Progress.TheVariants as progress
use Rattle.grasp_types.specs.declared.traffic.Input.{Input}
use Rattle.grasp_types.specs.declared.traffic.Input.TheVariants as input
use Rattle.grasp_model_network.specs.Events.{visit_of, Occurs}
use Rattle.grasp_model_network.specs.Reports.{report_by, report_none, report_of, report_visit}
use Rattle.grasp_model_network.specs.Runs.{IsReached}
use Rattle.grasp_model_network.specs.Setting.{Setting}
use Rattle.grasp_model_network.specs.Visits.{Visit, Choice, VisitStep, MayCome}
use Rattle.grasp_model_network.specs.World.{WorldState}
use Rattle.grasp_model_network.specs.declared.event.Event.{Event}
use Rattle.grasp_model_network.specs.declared.event.Event.TheVariants as event
use Rattle.grasp_laws_reports.proofs.Agreements.{agreed_words_tell}
use Rattle.grasp_laws_reports.proofs.Polling.{polls_tell_outcomes}
use Rattle.grasp_laws_reports.specs.Laws.{AgreedReportsTell}
use Rattle.grasp_laws_reports.specs.Outcomes.{TellsOutcome, TellsAgreement, reply_in}

-- ---- no other call is answered so

not_incoming : (h : Handle) (from : Address) (o : Option Objective) (p : Progress) → answer.Polled p ≡ incoming h from o → ⊥
not_incoming h from None p e = cc
not_incoming h from (Some o) p e = cc

not_taken : (n : NodeState) (o : Option Handle) (p : Progress) → answer.Polled p ≡ taken_in n o → ⊥
not_taken n None p e = cc
not_taken n (Some h) p e = not_incoming h _ (adopt_reply n.sessions h) p e

not_started : (r : Result Handle SessionRefused) (p : Progress) → answer.Polled p ≡ started r → ⊥
not_started (Ok h) p e = cc
not_started (Err refused) p e = cc

not_found : (f : Find) (p : Progress) → answer.Polled p ≡ found_as f → ⊥
not_found (find.Found locators) p e = cc
not_found _ p e = cc

not_opened : (ignored full : Bool) (a : ApiAnswer) → reply.Api a ≡ cond ignored reply.Taken (cond full reply.Turned reply.Taken) → ⊥
not_opened true full a e = cc
not_opened false true a e = cc
not_opened false false a e = cc

not_done : (p : Progress) → answer.Polled p ≡ answer.Done → ⊥
not_done p e = cc

polled_by : (n : NodeState) (asa : ℕ) (it : Call) (p : Progress) → MayCall n asa it (Ok (answer.Polled p)) → (h : Handle) × (it ≡ call.Poll h)
polled_by n asa (call.RegisterAsa name) p m = let e : answer.Polled p ≡ answer.Asa (n.registrations.made + 1) = m.2 in absurd (cc)
polled_by n asa (call.Discover name kind loops timeout) p m = absurd (not_found (find_of n asa name kind) p m.2)
polled_by n asa (call.RequestNegotiate name value loops timeout dry peer) p m = absurd (not_started (start_reply n.sessions) p m.2)
polled_by n asa (call.ListenNegotiate name) p m = absurd (not_taken n (untaken_reply n.sessions name) p m.2)
polled_by n asa (call.Poll h) p m = (h, refl)
polled_by n asa (call.Synchronize name loops timeout peer) p m = absurd (not_started (start_reply n.sessions) p m.2)
polled_by n asa (call.GetFlood name) p m = let e : answer.Polled p ≡ answer.Floods _ = m.2 in absurd (cc)
polled_by n asa _ p m = absurd (not_done p m.2)

-- a call of this agent, which may be answered so
pub record IsCallWith (n : NodeState) (i : Input) (a : ApiAnswer) : Type 0 where
  pub asa : ℕ
  pub made : Call
  pub is : i ≡ input.Api asa made
  pub may : MayCall n asa made (Ok a)

-- only a call is answered so
pub calls_only : (n after : NodeState) (i : Input) (x : Coming) (a : ApiAnswer) → Acts n i x (reply.Api a) after → IsCallWith n i a
calls_only n after (input.Api asa it) x a acts = record { asa = asa; made = it; is = refl; may = acts.0 }
calls_only n after (input.Opened stream from) x a acts = absurd (not_opened (is_ignored n stream) (is_full n.streams) a acts.0)
calls_only n after (input.Closed stream) x a acts = let e : reply.Api a ≡ reply.Taken = acts.0 in absurd (cc)
calls_only n after _ x a acts = absurd acts

-- a poll of this agent
record IsPoll (i : Input) : Type 0 where
  asa : ℕ
  handle : Handle
  is : i ≡ input.Api asa (call.Poll handle)

polls_only : (n after : NodeState) (i : Input) (x : Coming) (p : Progress) → Acts n i x (reply.Api (answer.Polled p)) after → IsPoll i
polls_only n after i x p a =
    let k = calls_only n after i x (answer.Polled p) a in
    let h = polled_by n k.asa k.made p k.may in record { asa = k.asa; handle = h.0; is = k.is ∙ ap (λ c. input.Api k.asa c) h.1 }

-- ---- the report of an event

pub none_told : (w : WorldState) (e : Event) (r : Reply) → reply_in (report_none w e) ≡ Some r → ⊥
none_told w (event.Clock node millis) r is = none-some r is
none_told w _ r is = none-some r is

pub visit_told : (e : Event) (v : Visit) (c : Choice) (r : Reply) → reply_in (report_visit e v c) ≡ Some r → Some c.reply ≡ Some r
visit_told (event.Clock node millis) v c r is = absurd (none-some r is)
visit_told (event.Want node wanted longest peer) v c r is = absurd (none-some r is)
visit_told (event.Return node prefix peer) v c r is = absurd (none-some r is)
visit_told (event.Drain node max) v c r is = absurd (none-some r is)
visit_told _ v c r is = is

module _ (means : PollMeans) (s : Setting) (w : WorldState) (r : IsReached s w) (e : Event) (c : Choice) (occurs : Occurs s w e c) (by : By) (words : List (List ℕ)) (o : Objective) (rest : words ≡ objective_words o) where
  by_visit : (z : Option Visit) → visit_of s w e ≡ z → reply_in (report_by w e c z) ≡ Some (reply.Api (answer.Polled (progress.Ended (outcome.Agreed by o)))) → TellsAgreement s w e c by words
  by_visit None is told = absurd (none_told w e (reply.Api (answer.Polled (progress.Ended (outcome.Agreed by o)))) told)
  by_visit (Some v) is told = made (polls_only (begin v.seat.core v.now) c.after v.input c.coming (progress.Ended (outcome.Agreed by o)) acts) where
    tells : c.reply ≡ reply.Api (answer.Polled (progress.Ended (outcome.Agreed by o)))
    tells = same_Some c.reply (reply.Api (answer.Polled (progress.Ended (outcome.Agreed by o)))) (visit_told e v c (reply.Api (answer.Polled (progress.Ended (outcome.Agreed by o)))) told)

    came : VisitStep v c
    came = subst (λ z. MayCome z c) is occurs.comes

    acts : Acts (begin v.seat.core v.now) v.input c.coming (reply.Api (answer.Polled (progress.Ended (outcome.Agreed by o)))) c.after
    acts = subst (λ (q : Reply). Acts (begin v.seat.core v.now) v.input c.coming q c.after) tells came.steps.acts

    made : IsPoll v.input → TellsAgreement s w e c by words
    made p =
        let t : TellsOutcome s w e c v p.asa p.handle (outcome.Agreed by o) = record { occurs = occurs; visits = is; polls = p.is; tells = tells } in record {
          visit = v;
          asa = p.asa;
          handle = p.handle;
          objective = o;
          tells = t;
          told = polls_tell_outcomes means s w r e c v p.asa p.handle (outcome.Agreed by o) t;
          rest = rest;
        }

pub agreed_reports_tell : PollMeans → AgreedReportsTell
unfolding report_of
agreed_reports_tell means s w r e c occurs by words is = let h = agreed_words_tell.reports (report_of s w e c) by words is in by_visit means s w r e c occurs by words h.0 h.2 (visit_of s w e) refl h.1
