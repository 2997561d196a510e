-- What the answers of acts in a session, of a poll and of a listener mean.
use Rattle.std.proofs.Common.{◌≡◌, ℕ, ◌<◌, ◌+◌, Bool, true, false, cond, not, ◌&&◌, ◌==◌, List, length, Option, Some, None, is_none, Ok, refl, sym, ap, ◌∙◌, subst, arith}
use Rattle.std.specs.Prelude.{slice_index_or}
use Rattle.std.proofs.lemmas.Bool.{true≢false, eqb-true, ne_eqb, not-false, and_parts, leb-true}
use Rattle.grasp_session.specs.Sessions.{SessionState, Sessions, session_at, session_owned, if_owner, if_number, poll_reply, progress_of, untaken_reply, with_place, with_owner, left}
use Rattle.grasp_session.specs.Says.{CheckSays, IsLeast, LookUpSays}
use Rattle.grasp_session.specs.Transcript.{Saying, SayStep, SayWait, SayEnd, SayInvalid, message_of, is_going, is_mine, outcome_of, peer_offer, request_of}
use Rattle.grasp_session.specs.declared.answer.Act.{Act}
use Rattle.grasp_session.specs.declared.answer.Act.TheVariants as act
use Rattle.grasp_laws_session.proofs.Says.{checks_say}
use Rattle.grasp_laws_session.proofs.Streams.{is_least, oldest_least}
use Rattle.grasp_types.specs.declared.message.Message.{Message}
use Rattle.grasp_types.specs.Objective.{has_neg}
use Rattle.grasp_types.specs.declared.objective.Objective.{Objective}
use Rattle.grasp_types.specs.declared.reply.ApiAnswer.{ApiAnswer}
use Rattle.grasp_types.specs.declared.reply.ApiAnswer.TheVariants as answer
use Rattle.grasp_types.specs.declared.session.Handle.{Handle}
use Rattle.grasp_types.specs.declared.session.Outcome.{Outcome}
use Rattle.grasp_types.specs.declared.session.Progress.{Progress}
use Rattle.grasp_types.specs.declared.session.Progress.TheVariants as progress
use Rattle.grasp_asa.specs.Registrations.{is_registered}
use Rattle.std.proofs.lemmas.Slice.Eq.{bytes_eq-Decides}
use Rattle.std.specs.Str.{bytes_eq}
use Rattle.grasp_laws_node.specs.Means.{Holds, Fits, having_sent, having_ended, StepMeans, WaitMeans, EndMeans, InvalidMeans, PollFacts, PollMeans, Negotiates, IsUntaken, having_marked, ListenTells, ListenMeans}
use Rattle.grasp_model_node.specs.Moves.{with_registrations, with_sessions, begin_closing, queue_up}
use Rattle.grasp_model_node.specs.Node.{NodeState}
use Rattle.grasp_model_node.specs.Queue.{has_room, encoding, fits}
use Rattle.grasp_model_node.specs.Refusals.{early, late, late_tests}
use Rattle.grasp_model_node.specs.RegistryCalls.{with_mark}
use Rattle.grasp_model_node.specs.SessionCalls.{said, said_last, act_message, polled, after_polling, with_adopted, after_listening, address_or}
use Rattle.grasp_model_node.specs.BoundedNodes.{IsBoundedNode}
use Rattle.grasp_model_node.specs.Streams.{past_of, opener_of}
use Rattle.grasp_model_node.specs.Tests.{no_asa, owned_flags, lacks, not_negotiable, act_tests, poll_tests, negotiation_tests, sending}
use Rattle.grasp_laws_node.proofs.AllFailing.{AllFail, all_fail}
use Rattle.grasp_laws_node.proofs.Bounded.Tests.{none_of, has_its_room, number_above, act_allowed, none_hold}
use Rattle.grasp_laws_node.proofs.Consistent.Streams.{closing_none}

-- a session with its owner is at its handle
pub owned_at : (z : Sessions) (asa : ℕ) (h : Handle) (x : SessionState) → session_owned z asa h ≡ Some x → (session_at z h ≡ Some x) × (x.owner ≡ asa)
owned_at z asa h x e = by_state (session_at z h) refl e where
  by_test : (y : SessionState) (b : Bool) → session_at z h ≡ Some y → y.owner == asa ≡ b → cond b (Some y) None ≡ Some x → (session_at z h ≡ Some x) × (x.owner ≡ asa)
  by_test y true f p q =
      let same : y ≡ x = cc in
      subst (λ (k : SessionState). (session_at z h ≡ Some k) × (k.owner ≡ asa)) same (f, eqb-true y.owner asa p)
  by_test y false f p q = absurd (cc)

  by_state : (o : Option SessionState) → session_at z h ≡ o → if_owner (λ (x : SessionState). x.owner) asa o ≡ Some x → (session_at z h ≡ Some x) × (x.owner ≡ asa)
  by_state None f g = absurd (cc)
  by_state (Some y) f g = by_test y (y.owner == asa) f refl g

-- what is sent fits
pub sends : (n : NodeState) (m : Message) (count : ℕ) → late (sending n m count) ≡ Ok tt → Fits n m count
sends n m count e =
    let p = none_hold (late_tests (sending n m count)) e in
    record {
      bytes = leb-true (length (encoding m)) n.plan.limit (not-false (fits n.plan.limit m) p.0);
      room = leb-true (length n.queue + count) 256 (not-false (has_room n.queue count) p.1.0);
    }

pub said_is : (n : NodeState) (h : Handle) (x : SessionState) (saying : Saying) → session_at n.sessions h ≡ Some x → 0 < x.owner
    → said n h saying ≡ having_sent n h x saying (message_of x.view saying)
unfolding with_sessions queue_up
said_is n h x saying at above = rw (at, ne_eqb x.owner 0 (λ e. omega (arith, e, above))) refl

pub said_last_is : (n : NodeState) (h : Handle) (x : SessionState) (saying : Saying) → session_at n.sessions h ≡ Some x → 0 < x.owner
    → said_last n h saying ≡ having_ended n h x saying (message_of x.view saying)
unfolding with_sessions queue_up begin_closing
said_last_is n h x saying at above = rw (at, ne_eqb x.owner 0 (λ e. omega (arith, e, above))) refl

-- an act that was done: the session, and that it may say so
pub record Acted (n : NodeState) (asa : ℕ) (h : Handle) (a : Act) : Type 0 where
  pub registered : no_asa n asa ≡ false
  pub above : 0 < asa
  pub says : CheckSays n.sessions asa h a (Ok tt)

pub acted : (n : NodeState) (asa : ℕ) (h : Handle) (a : Act) → IsBoundedNode n → early (act_tests n asa h a) ≡ Ok tt → Acted n asa h a
acted n asa h a k e =
    let t = none_of (act_tests n asa h a) e in
    record { registered = t.asa; above = number_above n asa k t.asa; says = subst (CheckSays n.sessions asa h a) (act_allowed n asa h a t) (checks_say n.sessions asa h a) }

holds : (n : NodeState) (asa : ℕ) (h : Handle) (x : SessionState) → no_asa n asa ≡ false → session_owned n.sessions asa h ≡ Some x → Holds n asa h x
holds n asa h x e f = record { registered = not-false _ e; owned = f }

owner_above : (n : NodeState) (asa : ℕ) (h : Handle) (x : SessionState) → 0 < asa → session_owned n.sessions asa h ≡ Some x → (session_at n.sessions h ≡ Some x) × (0 < x.owner)
owner_above n asa h x above e = let p = owned_at n.sessions asa h x e in let q = p.1 in (p.0, omega (arith, above, q))

message_is : (n : NodeState) (h : Handle) (x : SessionState) (saying : Saying) → session_at n.sessions h ≡ Some x → act_message n h saying ≡ message_of x.view saying
message_is n h x saying at = rw at refl

fits_as : (n : NodeState) (h : Handle) (x : SessionState) (saying : Saying) → session_at n.sessions h ≡ Some x → late (sending n (act_message n h saying) 1) ≡ Ok tt → Fits n (message_of x.view saying) 1
fits_as n h x saying at e = subst (λ (m : Message). Fits n m 1) (message_is n h x saying at) (sends n (act_message n h saying) 1 e)

pub step_means_lem : StepMeans
step_means_lem n asa h value a k m =
    let d = acted n asa h act.Step k m.0 in
    let x = d.says.0 in
    let p = owner_above n asa h x d.above d.says.1 in
    let turn = and_parts (is_going x.view) (is_mine x.view) d.says.2 in
    let e = said_is n h x (SayStep value) p.0 p.1 in
    record {
      done = m.2;
      session = x;
      holds = holds n asa h x d.registered d.says.1;
      going = turn.0;
      mine = turn.1;
      loops = d.says.3;
      fits = fits_as n h x (SayStep value) p.0 m.1;
      leads = e;
    }

pub wait_means_lem : WaitMeans
wait_means_lem n asa h millis a k m =
    let d = acted n asa h act.Wait k m.0 in
    let x = d.says.0 in
    let p = owner_above n asa h x d.above d.says.1 in
    let turn = and_parts (is_going x.view) (is_mine x.view) d.says.2 in
    let room = has_its_room (record { too_long = false; outbox_full = not (has_room n.queue 1) }) (has_room n.queue 1) refl m.1 in
    record {
      done = m.2;
      session = x;
      holds = holds n asa h x d.registered d.says.1;
      going = turn.0;
      mine = turn.1;
      waits = d.says.3;
      room = leb-true (length n.queue + 1) 256 room;
      leads = said_is n h x (SayWait millis) p.0 p.1;
    }

closed_by : (n after : NodeState) (h : Handle) (x : SessionState) (saying : Saying) (m : Message) → after ≡ having_ended n h x saying m → past_of after.streams x.stream ≡ None
closed_by n after h x saying m e = ap (λ (k : NodeState). past_of k.streams x.stream) e ∙ closing_none n.streams x.stream

pub end_means_lem : EndMeans
end_means_lem n asa h verdict a k m =
    let d = acted n asa h act.End k m.0 in
    let x = d.says.0 in
    let p = owner_above n asa h x d.above d.says.1 in
    let turn = and_parts (is_going x.view) (is_mine x.view) d.says.2 in
    let e = said_last_is n h x (SayEnd verdict) p.0 p.1 in
    record {
      done = m.2;
      session = x;
      holds = holds n asa h x d.registered d.says.1;
      going = turn.0;
      mine = turn.1;
      fits = fits_as n h x (SayEnd verdict) p.0 m.1;
      leads = e;
      closes = closed_by n (said_last n h (SayEnd verdict)) h x (SayEnd verdict) (message_of x.view (SayEnd verdict)) e;
    }

pub invalid_means_lem : InvalidMeans
invalid_means_lem n asa h detail a k m =
    let d = acted n asa h act.Invalid k m.0 in
    let x = d.says.0 in
    let p = owner_above n asa h x d.above d.says.1 in
    let e = said_last_is n h x (SayInvalid detail) p.0 p.1 in
    record {
      done = m.2;
      session = x;
      holds = holds n asa h x d.registered d.says.1;
      going = d.says.2;
      fits = fits_as n h x (SayInvalid detail) p.0 m.1;
      leads = e;
      closes = closed_by n (said_last n h (SayInvalid detail)) h x (SayInvalid detail) (message_of x.view (SayInvalid detail)) e;
    }

-- ---- poll

poll_told : (n : NodeState) (asa : ℕ) (h : Handle) (x : SessionState) → session_owned n.sessions asa h ≡ Some x → polled (poll_reply n.sessions asa h) ≡ answer.Polled (progress_of x.view)
poll_told n asa h x e = rw e refl

ended_leads : (n : NodeState) (h : Handle) (x : SessionState) → session_at n.sessions h ≡ Some x → (outcome : Outcome) → after_polling n h (Ok (answer.Polled (progress.Ended outcome))) ≡ record n { sessions = left n.sessions h x }
unfolding with_sessions
ended_leads n h x at outcome = rw at refl

turn_leads : (n : NodeState) (h : Handle) (o : Objective) → after_polling n h (Ok (answer.Polled (progress.Turn o))) ≡ n
unfolding with_sessions
turn_leads n h o = refl

waiting_leads : (n : NodeState) (h : Handle) → after_polling n h (Ok (answer.Polled progress.NotYet)) ≡ n
unfolding with_sessions
waiting_leads n h = refl

polls : (n : NodeState) (asa : ℕ) (h : Handle) (a : ApiAnswer) (x : SessionState) → no_asa n asa ≡ false → session_owned n.sessions asa h ≡ Some x → a ≡ answer.Polled (progress_of x.view) → PollFacts n asa h a (after_polling n h (Ok a))
polls n asa h a x e f g = record {
  session = x;
  holds = holds n asa h x e f;
  ended = λ outcome i. by_told (progress.Ended outcome) (record n { sessions = left n.sessions h x }) (ended_told outcome i) (ended_leads n h x (owned_at n.sessions asa h x f).0 outcome);
  turn = λ i j. by_told (progress.Turn (peer_offer x.view)) n (turn_told i j) (turn_leads n h (peer_offer x.view));
  waiting = λ i j. by_told progress.NotYet n (waiting_told i j) (waiting_leads n h);
} where
  by_told : (p : Progress) (after : NodeState) → progress_of x.view ≡ p → after_polling n h (Ok (answer.Polled p)) ≡ after → (a ≡ answer.Polled p) × (after_polling n h (Ok a) ≡ after)
  by_told p after i j =
      let s : a ≡ answer.Polled p = g ∙ ap answer.Polled i in
      (s, subst (λ (b : ApiAnswer). after_polling n h (Ok b) ≡ after) (sym s) j)

  ended_told : (outcome : Outcome) → outcome_of x.view ≡ Some outcome → progress_of x.view ≡ progress.Ended outcome
  ended_told outcome i = rw i refl

  turn_told : outcome_of x.view ≡ None → is_mine x.view ≡ true → progress_of x.view ≡ progress.Turn (peer_offer x.view)
  turn_told i j = rw (i, j) refl

  waiting_told : outcome_of x.view ≡ None → is_mine x.view ≡ false → progress_of x.view ≡ progress.NotYet
  waiting_told i j = rw (i, j) refl

pub poll_means_lem : PollMeans
poll_means_lem n asa h a m = by_state (session_owned n.sessions asa h) refl where
  t : AllFail (poll_tests n asa h)
  t = all_fail (poll_tests n asa h) m.0

  by_state : (o : Option SessionState) → session_owned n.sessions asa h ≡ o → PollFacts n asa h a (after_polling n h (Ok a))
  by_state None e = absurd (true≢false (sym (ap is_none e) ∙ t.session))
  by_state (Some x) e = polls n asa h a x t.asa e (m.2 ∙ poll_told n asa h x e)

-- ---- listen_negotiate

pub negotiates : (n : NodeState) (asa : ℕ) (name : List ℕ) → no_asa n asa ≡ false → not_negotiable n asa name ≡ false → Negotiates n asa name
negotiates n asa name e f = by_flags (owned_flags n asa name) refl f where
  by_flags : (o : Option ℕ) → owned_flags n asa name ≡ o → lacks has_neg o ≡ false → Negotiates n asa name
  by_flags None g i = absurd (true≢false i)
  by_flags (Some flags) g i = record { registered = not-false (is_registered n.registrations asa) e; flags = flags; own = g; has = not-false (has_neg flags) i }

marked_is : (n : NodeState) (asa : ℕ) (name : List ℕ) → (g : Negotiates n asa name) → with_mark n asa name true ≡ record n { registrations = having_marked n.registrations name }
unfolding with_registrations
marked_is n asa name g = rw (g.registered, g.own, g.has) refl

taken_leads : (n : NodeState) (asa : ℕ) (name : List ℕ) (h : Handle) (x : SessionState) → session_at n.sessions h ≡ Some x
    → with_adopted (record n { registrations = having_marked n.registrations name }) asa (Some h) ≡ record n { registrations = having_marked n.registrations name; sessions = with_place n.sessions h.place (Some (with_owner x asa)) }
unfolding with_sessions
taken_leads n asa name h x at = rw at refl

pub number_at : (z : Sessions) (h : Handle) (x : SessionState) → session_at z h ≡ Some x → x.number ≡ h.number
number_at z h x e = by_state (slice_index_or z.places h.place None) e where
  by_test : (y : SessionState) (b : Bool) → y.number == h.number ≡ b → cond b (Some y) None ≡ Some x → x.number ≡ h.number
  by_test y true p q = let same : y ≡ x = cc in subst (λ (k : SessionState). k.number ≡ h.number) same (eqb-true y.number h.number p)
  by_test y false p q = absurd (cc)

  by_state : (o : Option SessionState) → if_number (λ (x : SessionState). x.number) h.number o ≡ Some x → x.number ≡ h.number
  by_state None f = absurd (cc)
  by_state (Some y) f = by_test y (y.number == h.number) refl f

-- the test of an untaken session of this objective
abbrev pub untaken_test : List ℕ → SessionState → Bool
untaken_test name x = (x.owner == 0) && bytes_eq (request_of x.view).name name

pub passes_is : (name : List ℕ) (x : SessionState) → untaken_test name x ≡ true → IsUntaken name x
passes_is name x e =
    let p = and_parts (x.owner == 0) (bytes_eq (request_of x.view).name name) e in
    record { owner = eqb-true x.owner 0 p.0; name_is = (bytes_eq-Decides (request_of x.view).name name).0 p.1 }

pub is_passes : (name : List ℕ) (x : SessionState) → IsUntaken name x → untaken_test name x ≡ true
is_passes name x u = rw (u.owner, u.name_is) ((bytes_eq-Decides name name).1 refl)

pub listen_means_lem : ListenMeans
listen_means_lem n asa name a m = record { negotiates = g; tells = by_handle (untaken_reply n.sessions name) refl } where
  t : AllFail (negotiation_tests n asa name)
  t = all_fail (negotiation_tests n asa name) m.0

  g : Negotiates n asa name
  g = negotiates n asa name t.asa t.negotiable

  marked : (o : Option Handle) → untaken_reply n.sessions name ≡ o → after_listening n asa name (Ok a) ≡ with_adopted (record n { registrations = having_marked n.registrations name }) asa o
  marked o e = rw e (ap (λ (k : NodeState). with_adopted k asa o) (marked_is n asa name g))

  took : (h : Handle) → untaken_reply n.sessions name ≡ Some h → IsLeast n.sessions (untaken_test name) h → ListenTells n asa name a (after_listening n asa name (Ok a))
  took h e l =
      let x = l.state in
      let told : a ≡ answer.Incoming h (address_or (opener_of n.streams x.stream)) (request_of x.view) = m.2 ∙ rw (e, l.at) refl in
      subst (λ (b : ApiAnswer). ListenTells n asa name b (after_listening n asa name (Ok a))) (sym told) (record {
        session = x;
        at = l.place;
        number = number_at n.sessions h x l.at;
        untaken = passes_is name x l.passes;
        least = λ place y at u. l.least place y at (is_passes name y u);
        peer = refl;
        request = refl;
        leads = marked (Some h) e ∙ taken_leads n asa name h x l.at;
      })

  by_handle : (o : Option Handle) → untaken_reply n.sessions name ≡ o → ListenTells n asa name a (after_listening n asa name (Ok a))
  by_handle (Some h) e = took h e (is_least n.sessions (untaken_test name) h e)
  by_handle None e =
      let told : a ≡ answer.NotYet = m.2 ∙ rw e refl in
      let says : LookUpSays n.sessions (untaken_test name) None = subst (LookUpSays n.sessions (untaken_test name)) e (oldest_least n.sessions (untaken_test name)) in
      subst (λ (b : ApiAnswer). ListenTells n asa name b (after_listening n asa name (Ok a))) (sym told) ((λ place x at u. true≢false (sym (is_passes name x u) ∙ says place x at)), marked None e)
