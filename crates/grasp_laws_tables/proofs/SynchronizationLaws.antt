-- What a session for synchronization hears and tells.
use Rattle.std.proofs.Common.{◌≡◌, ℕ, Bool, true, false, cond, not, ◌&&◌, nat_eq, nat_lt, List, [], ◌∷◌, Option, Some, None, refl, sym, ap, ◌∙◌, subst, true≢false, arith, eq-eqb}
use Rattle.std.proofs.lemmas.Bool.{not-true, and_from, and_parts}
use Rattle.std.proofs.lemmas.Option.{same_Some}
use Rattle.std.specs.Prelude.{is_none, bytes_eq}
use Rattle.std.proofs.lemmas.Slice.Eq.{bytes_eq-Decides}
use Rattle.grasp_types.specs.declared.message.Message.{Message}
use Rattle.grasp_types.specs.declared.message.Message.TheVariants.{ReqNeg, ReqSyn, Negotiate, End, Synch, Invalid}
use Rattle.grasp_types.specs.declared.message.Verdict.{Verdict}
use Rattle.grasp_types.specs.declared.message.Verdict.TheVariants.{Accept, Decline}
use Rattle.grasp_types.specs.declared.objective.Objective.{Objective}
use Rattle.grasp_types.specs.declared.session.Kind.{Kind}
use Rattle.grasp_types.specs.declared.session.Kind.TheVariants.{Negotiation, Synchronization}
use Rattle.grasp_types.specs.declared.session.Outcome.TheVariants.{Synchronized}
use Rattle.grasp_session.proofs.Facts.{bad_is_not}
use Rattle.grasp_session.specs.declared.answer.Received.{Received}
use Rattle.grasp_session.specs.declared.answer.Received.TheVariants.{Kept, Ignored, Bad}
use Rattle.grasp_session.specs.declared.answer.SessionRefused.{SessionRefused}
use Rattle.grasp_session.specs.declared.answer.SessionRefused.TheVariants.{NotYourTurn, LoopsSpent}
use Rattle.grasp_session.specs.Messages.{Side, Near, Far, is_side}
use Rattle.grasp_session.specs.Transcript.{Mark, Expired, Faulty, Transcript, session_of, request_of, turn_of, is_mine, is_over, is_going, kept_of, last_offer, opening, outcome_of, mark_outcome, entries_outcome, message_outcome, verdict_outcome}
use Rattle.grasp_session.specs.Transcript.{Saying, SayStep, act_of, refusal, message_of, having_said, after_said, is_negotiation, is_awaited, is_good_step, receive, with_kept, with_mark, after_heard, Deed, Does, Gets, Suffers, after_deed, after_deeds}
use Rattle.grasp_session.specs.Made.{IsBuilt}
use Rattle.grasp_laws_tables.specs.Synchronizations.{IsSynchronized, OutcomesCame, IsAwaited, SynchsAreHeard, RequestersWait}

-- Whatever befalls an end

-- what holds of each opening and is kept by each thing that is said, kept or marked
record KeptByDeeds (P : Transcript → Type 0) : Type 0 where
  opens : (kind : Kind) (role : Side) (timeout now session : ℕ) (o : Objective) → P (opening kind role timeout now session o)
  says : (v : Transcript) (now : ℕ) (s : Saying) → refusal v (act_of s) ≡ None → P v → P (having_said v now s)
  hears : (v : Transcript) (now : ℕ) (m : Message) → receive v m ≡ Kept → P v → P (with_kept v now m)
  marks : (v : Transcript) (mark : Mark) → P v → P (with_mark v mark)

module _ (P : Transcript → Type 0) (k : KeptByDeeds P) where
  by_said : (v : Transcript) (now : ℕ) (s : Saying) (c : Option SessionRefused) → refusal v (act_of s) ≡ c → P v → P (after_said v now s c)
  by_said v now s None e p = k.says v now s e p
  by_said v now s (Some refused) e p = p

  by_heard : (v : Transcript) (now : ℕ) (m : Message) (r : Received) → receive v m ≡ r → P v → P (after_heard v now m r)
  by_heard v now m Kept e p = k.hears v now m e p
  by_heard v now m Ignored e p = p
  by_heard v now m Bad e p = k.marks v Faulty p

  by_mark : (v : Transcript) (mark : Mark) (b : Bool) → P v → P (cond b (with_mark v mark) v)
  by_mark v mark true p = k.marks v mark p
  by_mark v mark false p = p

  by_deed : (v : Transcript) (d : Deed) → P v → P (after_deed v d)
  by_deed v (Does now s) p = by_said v now s (refusal v (act_of s)) refl p
  by_deed v (Gets now m) p = by_heard v now m (receive v m) refl p
  by_deed v (Suffers mark) p = by_mark v mark (is_going v) p

  by_deeds : (v : Transcript) (ds : List Deed) → P v → P (after_deeds v ds)
  by_deeds v [] p = p
  by_deeds v (d ∷ ds) p = by_deeds (after_deed v d) ds (by_deed v d p)

  by_built : (v : Transcript) → IsBuilt v → P v
  by_built v b =
      subst P (sym b.built)
      (by_deeds (opening b.kind b.role b.timeout b.now b.session b.objective) b.deeds (k.opens b.kind b.role b.timeout b.now b.session b.objective))

-- What is heard

kept_where : (going test : Bool) → cond going (cond test Kept Bad) Ignored ≡ Kept → (going ≡ true) × (test ≡ true)
kept_where true true e = (refl, refl)
kept_where true false e = absurd (cc)
kept_where false test e = absurd (cc)

synchronizes : (kind : Kind) → not (is_negotiation kind) ≡ true → kind ≡ Synchronization
synchronizes Negotiation e = absurd (true≢false (sym e))
synchronizes Synchronization e = refl

no_negotiation : (kind : Kind) → kind ≡ Synchronization → not (is_negotiation kind) ≡ true
no_negotiation kind e = ap (λ k. not (is_negotiation k)) e

-- the test of an M_SYNCH
abbrev test_of : Transcript → ℕ → Objective → Bool
test_of v n o = not (is_negotiation v.kind) && (is_awaited v n && bytes_eq o.name (request_of v).name)

awaited : (v : Transcript) (n : ℕ) (o : Objective) → receive v (Synch n o) ≡ Kept → IsAwaited v n o
awaited v n o e =
    let h = kept_where (is_going v) (test_of v n o) e in
    let k = and_parts (not (is_negotiation v.kind)) (is_awaited v n && bytes_eq o.name (request_of v).name) h.1 in
    let a = and_parts (is_awaited v n) (bytes_eq o.name (request_of v).name) k.1 in
    let t = and_parts (nat_eq n (session_of v)) (not (is_mine v)) a.0 in
    record {
      going = h.0;
      kind = synchronizes v.kind k.0;
      number = grind (arith, t.0);
      turn = not-true (is_mine v) t.1;
      name = (bytes_eq-Decides o.name (request_of v).name).0 a.1;
    }

kept : (v : Transcript) (n : ℕ) (o : Objective) → IsAwaited v n o → receive v (Synch n o) ≡ Kept
kept v n o a =
    let turn : is_awaited v n ≡ true = and_from (nat_eq n (session_of v)) (not (is_mine v)) (eq-eqb n (session_of v) a.number) (ap not a.turn) in
    let test : test_of v n o ≡ true =
    and_from (not (is_negotiation v.kind)) (is_awaited v n && bytes_eq o.name (request_of v).name) (no_negotiation v.kind a.kind)
    (and_from (is_awaited v n) (bytes_eq o.name (request_of v).name) turn ((bytes_eq-Decides o.name (request_of v).name).1 a.name)) in
    ap (λ b. cond b (cond (test_of v n o) Kept Bad) Ignored) a.going ∙ ap (λ b. cond b Kept Bad) test

unmarked : (mark : Option Mark) (rest : Bool) → (is_none mark && rest) ≡ true → mark ≡ None
unmarked None rest e = refl
unmarked (Some mark) rest e = absurd (true≢false (sym e))

-- a kept M_SYNCH ends the session with its objective
ends_with : (v : Transcript) (now n : ℕ) (o : Objective) → IsAwaited v n o → outcome_of (after_deed v (Gets now (Synch n o))) ≡ Some (Synchronized o)
ends_with v now n o a =
    ap (λ r. outcome_of (after_heard v now (Synch n o) r)) (kept v n o a)
    ∙ ap (mark_outcome (with_kept v now (Synch n o))) (unmarked v.mark (not (is_over v.entries)) a.going)

pub heard : SynchsAreHeard
heard v n o = record { kept = (awaited v n o, kept v n o); ends = λ now a. ends_with v now n o a }

-- What a synchronized outcome says

-- the newest message says it, and no mark
by_entries : (v : Transcript) (mark : Option Mark) (o : Objective) → mark_outcome v mark ≡ Some (Synchronized o) → entries_outcome v v.entries ≡ Some (Synchronized o)
by_entries v None o e = e
by_entries v (Some (Expired now)) o e = absurd (cc)
by_entries v (Some _) o e = absurd (cc)

no_verdict : (v : Transcript) (sent : Bool) (verdict : Verdict) (o : Objective) → verdict_outcome v sent verdict ≡ Synchronized o → ⊥
no_verdict v sent Accept o e = cc
no_verdict v sent (Decline reason) o e = cc

-- a message whose outcome is synchronized is the M_SYNCH with that objective
by_message : (v : Transcript) (sent : Bool) (m : Message) (o : Objective) → message_outcome v sent m ≡ Some (Synchronized o) → (n : ℕ) × (m ≡ Synch n o)
by_message v sent (End n verdict) o e = absurd (no_verdict v sent verdict o (same_Some (verdict_outcome v sent verdict) (Synchronized o) e))
by_message v sent (Synch n p) o e = let same : p ≡ o = cc in (n, ap (Synch n) same)
by_message v sent (Invalid n d) o e = absurd (cc)
by_message v sent m o e = absurd (cc)

-- a synchronized outcome is of an M_SYNCH that came
abbrev Came : Transcript → Type 0
Came v = (o : Objective) → outcome_of v ≡ Some (Synchronized o) → IsSynchronized v o

came_opens : (kind : Kind) (role : Side) (timeout now session : ℕ) (o : Objective) → Came (opening kind role timeout now session o)
came_opens Negotiation role timeout now session o p e = absurd (cc)
came_opens Synchronization role timeout now session o p e = absurd (cc)

-- an end never says an M_SYNCH
says_none : (v : Transcript) (s : Saying) (n : ℕ) (o : Objective) → message_of v s ≡ Synch n o → ⊥
says_none v (SayStep value) n o e = cc
says_none v _ n o e = cc

came_says : (v : Transcript) (now : ℕ) (s : Saying) → refusal v (act_of s) ≡ None → Came v → Came (having_said v now s)
came_says v now s free c o e =
    let it = by_message (having_said v now s) true (message_of v s) o (by_entries (having_said v now s) v.mark o e) in
    absurd (says_none v s it.0 o it.1)

came_one : (v : Transcript) (now n : ℕ) (o : Objective) → receive v (Synch n o) ≡ Kept → IsSynchronized (with_kept v now (Synch n o)) o
came_one v now n o e = let a = awaited v n o e in record {
  kind = a.kind;
  came = (kept_of v.entries, ap (λ k. Synch k o ∷ kept_of v.entries) a.number);
  name = a.name;
}

came_hears : (v : Transcript) (now : ℕ) (m : Message) → receive v m ≡ Kept → Came v → Came (with_kept v now m)
came_hears v now m there c o e =
    let it = by_message (with_kept v now m) false m o (by_entries (with_kept v now m) v.mark o e) in
    subst (λ k. receive v k ≡ Kept → IsSynchronized (with_kept v now k) o) (sym it.1) (came_one v now it.0 o) there

came_marks : (v : Transcript) (mark : Mark) → Came v → Came (with_mark v mark)
came_marks v (Expired now) c o e = absurd (cc)
came_marks v _ c o e = absurd (cc)

pub outcomes_came : OutcomesCame
outcomes_came v o b = by_built Came (record { opens = came_opens; says = came_says; hears = came_hears; marks = came_marks }) v b o

-- Whose turn it is

-- the turn of a session for synchronization is the listener's, at the requester's end
abbrev Waits : Transcript → Type 0
Waits v = v.kind ≡ Synchronization → v.role ≡ Near → turn_of v ≡ Far

waits_opens : (kind : Kind) (role : Side) (timeout now session : ℕ) (o : Objective) → Waits (opening kind role timeout now session o)
waits_opens Negotiation role timeout now session o k r = refl
waits_opens Synchronization role timeout now session o k r = refl

not_mine : (v : Transcript) → v.role ≡ Near → turn_of v ≡ Far → is_mine v ≡ false
not_mine v r t = ap (λ side. is_side side (turn_of v)) r ∙ ap (is_side Near) t

-- no step is free where it isn't this end's turn
step_free : (going mine some : Bool) → cond (going && mine) (cond some None (Some LoopsSpent)) (Some NotYourTurn) ≡ None → mine ≡ true
step_free true true some e = refl
step_free true false some e = absurd (cc)
step_free false mine some e = absurd (cc)

waits_says : (v : Transcript) (now : ℕ) (s : Saying) → refusal v (act_of s) ≡ None → Waits v → Waits (having_said v now s)
waits_says v now (SayStep value) free w k r =
    absurd (true≢false (sym (step_free (is_going v) (is_mine v) (nat_lt 1 (last_offer v).loops) free) ∙ not_mine v r (w k r)))
waits_says v now _ free w k r = w k r

negotiates : (kind : Kind) (rest : Bool) → (is_negotiation kind && rest) ≡ true → kind ≡ Synchronization → ⊥
negotiates Negotiation rest e k = cc
negotiates Synchronization rest e k = true≢false (sym e)

waits_hears : (v : Transcript) (now : ℕ) (m : Message) → receive v m ≡ Kept → Waits v → Waits (with_kept v now m)
waits_hears v now (ReqNeg n o) e w k r = absurd (bad_is_not (is_going v) e)
waits_hears v now (ReqSyn n o) e w k r = absurd (bad_is_not (is_going v) e)
waits_hears v now (Negotiate n o) e w k r =
    absurd (negotiates v.kind (is_awaited v n && is_good_step v o) (kept_where (is_going v) (is_negotiation v.kind && (is_awaited v n && is_good_step v o)) e).1 k)
waits_hears v now (Invalid n d) e w k r = w k r
waits_hears v now m e w k r = w k r

pub requesters_wait : RequestersWait
requesters_wait v b k r =
    not_mine v r (by_built Waits (record { opens = waits_opens; says = waits_says; hears = waits_hears; marks = λ v mark w. w }) v b k r)
