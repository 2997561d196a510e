-- Facts of sessions and talks that several crates use.
use Rattle.std.proofs.Common.{Bool, cond, None, Some, ◌≡◌, true, refl, false, ◌&&◌, ℕ, Option, ◌==◌, List, [], ◌∷◌, is_none, not, ap, ◌∙◌, Contains, zero, arith, sym, suc}
use Rattle.std.proofs.lemmas.Bool.{eq-eqb, and_right, and_left, true≢false, and_from}
use Rattle.std.proofs.lemmas.Option.{none-some}
use Rattle.std.specs.Prelude.{find}
use Rattle.grasp_types.specs.declared.message.Message.{Message}
use Rattle.grasp_types.specs.declared.message.Message.TheVariants as message
use Rattle.grasp_types.specs.declared.message.Message.TheVariants.{ReqNeg}
use Rattle.grasp_types.specs.declared.message.Verdict.{Verdict}
use Rattle.grasp_types.specs.declared.objective.Objective.{Objective}
use Rattle.grasp_types.specs.declared.session.Handle.{Handle}
use Rattle.grasp_types.specs.declared.session.Kind.{Kind}
use Rattle.grasp_types.specs.declared.session.Kind.TheVariants.{Negotiation, Synchronization}
use Rattle.grasp_types.specs.declared.session.Outcome.{Outcome}
use Rattle.grasp_types.specs.declared.session.Progress.{Progress}
use Rattle.grasp_types.specs.declared.session.Progress.TheVariants as progress
use Rattle.grasp_session.specs.Conversation.{Said}
use Rattle.grasp_session.specs.Made.{IsLastSaying}
use Rattle.grasp_session.specs.Messages.{is_last, Side, other, Near, Far}
use Rattle.grasp_session.specs.Says.{IsAt}
use Rattle.grasp_session.specs.Sessions.{Sessions, SessionState, session_at, if_owner, progress_of, begun_state, role_of, changed, with_place, is_leaving, with_transcript}
use Rattle.grasp_session.specs.Talk.{Talk, Stage, party, hears_next, Absent, Refused, Present, Cause, marks_at, says_checked, says_at, opens_at, opens, refuses_at, refuses, requests, Party, talk_of}
use Rattle.grasp_session.specs.Transcript.{Transcript, refusal, is_going, is_mine, message_outcome, outcome_of, Entry, entries_outcome, is_over, Mark, mark_outcome, peer_offer, opening, Saying, having_said, SayStep, SayWait, SayEnd, SayInvalid, act_of, is_awaited, session_of}
use Rattle.grasp_session.specs.declared.answer.Act.{Act}
use Rattle.grasp_session.specs.declared.answer.Act.TheVariants as act
use Rattle.grasp_session.specs.declared.answer.Received.TheVariants.{Kept, Bad, Ignored}
use Rattle.grasp_session.specs.declared.answer.SessionRefused.{SessionRefused}
use Rattle.grasp_session.specs.declared.begin.Begin.{Begin}

-- what is refused unless a test passes isn't refused where it passes
pub goes_alone : (a : Bool) (r : SessionRefused) → cond a None (Some r) ≡ None → a ≡ true
goes_alone true r e = refl
goes_alone false r e = absurd (cc)

-- an act that two tests allow passes the first
pub goes_and : (g m : Bool) (r : SessionRefused) → cond (g && m) None (Some r) ≡ None → g ≡ true
goes_and true m r e = refl
goes_and false m r e = absurd (cc)

-- an act that three tests allow passes the first
pub inner_goes : (g m c : Bool) (r s : SessionRefused) → cond (g && m) (cond c None (Some r)) (Some s) ≡ None → g ≡ true
inner_goes true m c r s e = refl
inner_goes false m c r s e = absurd (cc)

-- an act that isn't refused is of a session that goes on
pub allowed_goes : (v : Transcript) (a : Act) → refusal v a ≡ None → is_going v ≡ true
allowed_goes v act.Step e = inner_goes (is_going v) (is_mine v) _ _ _ e
allowed_goes v act.Wait e = inner_goes (is_going v) (is_mine v) _ _ _ e
allowed_goes v act.End e = goes_and (is_going v) (is_mine v) _ e
allowed_goes v act.Invalid e = goes_alone (is_going v) _ e

-- the session at a handle's place with its number is the handle's
pub at_handle : (z : Sessions) (h : Handle) (x : SessionState) → IsAt z h.place x → x.number ≡ h.number → session_at z h ≡ Some x
at_handle z h x at e = rw (at, eq-eqb x.number h.number e) refl

-- a session that its owner finds is there
pub owned_at : (owner : ℕ) (o : Option SessionState) (x : SessionState) → if_owner (λ y. y.owner) owner o ≡ Some x → o ≡ Some x
owned_at owner None x e = absurd (cc)
owned_at owner (Some y) x e = by_test (y.owner == owner) e where
  by_test : (b : Bool) → cond b (Some y) None ≡ Some x → Some y ≡ Some x
  by_test true f = f
  by_test false f = absurd (cc)

-- what a test keeps, bad otherwise, is kept where the test passes
pub kept_test : (b : Bool) → cond b Kept Bad ≡ Kept → b ≡ true
kept_test true e = refl
kept_test false e = absurd (cc)

-- what is bad or ignored isn't kept
pub bad_is_not : (going : Bool) → cond going Bad Ignored ≡ Kept → ⊥
bad_is_not true e = cc
bad_is_not false e = cc

-- a message that brings an outcome is a last one
pub last_message : (v : Transcript) (sent : Bool) (m : Message) (o : Outcome) → message_outcome v sent m ≡ Some o → is_last m ≡ true
last_message v sent (message.End n verdict) o e = refl
last_message v sent (message.Synch n objective) o e = refl
last_message v sent (message.Invalid n detail) o e = refl
last_message v sent m o e = absurd (cc)

-- a session with an outcome doesn't go on
pub told_ended : (v : Transcript) (o : Outcome) → outcome_of v ≡ Some o → is_going v ≡ false
told_ended v o e = by_mark v.mark refl e where
  by_entries : (es : List Entry) → v.entries ≡ es → entries_outcome v es ≡ Some o → is_going v ≡ false
  by_entries [] f g = absurd (cc)
  by_entries (entry ∷ es) f g = and_right (is_none v.mark) (not (is_over v.entries)) (ap not (ap is_over f ∙ last_message v entry.sent entry.message o g))

  by_mark : (m : Option Mark) → v.mark ≡ m → mark_outcome v m ≡ Some o → is_going v ≡ false
  by_mark None f g = by_entries v.entries refl g
  by_mark (Some mark) f g = and_left (is_none v.mark) (not (is_over v.entries)) (ap is_none f)

abbrev told_by : Transcript → Option Outcome → Progress
told_by v (Some outcome) = progress.Ended outcome
told_by v None = cond (is_mine v) (progress.Turn (peer_offer v)) progress.NotYet

-- a session whose progress is that it ended doesn't go on
pub progress_ended : (v : Transcript) (o : Outcome) → progress_of v ≡ progress.Ended o → is_going v ≡ false
progress_ended v o e = by_outcome (outcome_of v) refl e where
  by_turn : (b : Bool) → cond b (progress.Turn (peer_offer v)) progress.NotYet ≡ progress.Ended o → ⊥
  by_turn true f = cc
  by_turn false f = cc

  by_outcome : (p : Option Outcome) → outcome_of v ≡ p → told_by v p ≡ progress.Ended o → is_going v ≡ false
  by_outcome None f g = absurd (by_turn (is_mine v) g)
  by_outcome (Some outcome) f g = told_ended v outcome f

-- what is found is in the list and passes the test
pub found_is : (p : SessionState → Bool) (l : List SessionState) (y : SessionState) → find p l ≡ Some y → Contains l y × (p y ≡ true)
found_is p [] y e = absurd (none-some y e)
found_is p (x ∷ l) y e = by_test (p x) refl e (λ f. found_is p l y f) where
  by_test : (b : Bool) → p x ≡ b → cond b (Some x) (find p l) ≡ Some y → (find p l ≡ Some y → Contains l y × (p y ≡ true)) → Contains (x ∷ l) y × (p y ≡ true)
  by_test true f g rest = let same : x ≡ y = cc in ((zero, omega arith, same), ap p (sym same) ∙ f)
  by_test false f g rest = let c = rest g in ((suc c.0.0, let h = c.0.1 in omega (arith, h), c.0.2), c.1)

-- a session that a request begins goes on
pub request_goes : (now number : ℕ) (b : Begin) → is_going (begun_state now number b).view ≡ true
request_goes now number b = by_kind b.kind where
  by_kind : (kind : Kind) → is_going (opening kind (role_of b.requester) b.timeout now b.session b.objective) ≡ true
  by_kind Negotiation = refl
  by_kind Synchronization = refl

-- a session that said its last doesn't go on
pub last_said : (v : Transcript) (now : ℕ) (sg : Saying) → IsLastSaying sg → is_going (having_said v now sg) ≡ false
last_said v now (SayStep value) e = absurd e
last_said v now (SayWait millis) e = absurd e
last_said v now (SayEnd verdict) e = and_right (is_none v.mark) false refl
last_said v now (SayInvalid detail) e = and_right (is_none v.mark) false refl

-- what a side hears changes nothing of the other's stage
pub hears_other : (t : Talk) (side : Side) (now : ℕ) (stage : Stage) (inbox : List Message)
    → (party (hears_next t side now stage inbox) (other side)).stage ≡ (party t (other side)).stage
hears_other t side now stage [] = refl
hears_other t side now Absent (m ∷ left) = refl
hears_other t Near now Refused (m ∷ left) = refl
hears_other t Far now Refused (m ∷ left) = refl
hears_other t Near now (Present v) (m ∷ left) = refl
hears_other t Far now (Present v) (m ∷ left) = refl

-- what a side marks changes nothing of the other's stage
pub marks_other : (t : Talk) (side : Side) (cause : Cause) (stage : Stage) → (party (marks_at t side cause stage) (other side)).stage ≡ (party t (other side)).stage
marks_other t side cause Absent = refl
marks_other t side cause Refused = refl
marks_other t Near cause (Present v) = refl
marks_other t Far cause (Present v) = refl

-- what a side says, refused or not, changes nothing of the other's stage
pub says_other : (t : Talk) (side : Side) (now : ℕ) (sg : Saying) (v : Transcript) (c : Option SessionRefused)
    → (party (says_checked t side now sg v c) (other side)).stage ≡ (party t (other side)).stage
says_other t Near now sg v None = refl
says_other t Far now sg v None = refl
says_other t side now sg v (Some refused) = refl

-- what a side says at its stage changes nothing of the other's
pub says_at_other : (t : Talk) (side : Side) (now : ℕ) (sg : Saying) (stage : Stage)
    → (party (says_at t side now sg stage) (other side)).stage ≡ (party t (other side)).stage
says_at_other t side now sg Absent = refl
says_at_other t side now sg Refused = refl
says_at_other t side now sg (Present v) = says_other t side now sg v (refusal v (act_of sg))

-- a request that comes changes nothing of the near side's stage
pub opens_at_near : (t : Talk) (now timeout : ℕ) (inbox : List Message) → (opens_at t now timeout inbox).near.stage ≡ t.near.stage
opens_at_near t now timeout [] = refl
opens_at_near t now timeout (ReqNeg session o ∷ left) = refl
opens_at_near t now timeout (m ∷ left) = refl

-- the far side's opening changes nothing of the near side's stage
pub opens_near : (t : Talk) (now timeout : ℕ) (stage : Stage) → (opens t now timeout stage).near.stage ≡ t.near.stage
opens_near t now timeout Absent = opens_at_near t now timeout t.far.inbox
opens_near t now timeout Refused = refl
opens_near t now timeout (Present v) = refl

-- a refused request changes nothing of the near side's stage
pub refuses_at_near : (t : Talk) (reason : Option (List ℕ)) (inbox : List Message) → (refuses_at t reason inbox).near.stage ≡ t.near.stage
refuses_at_near t reason [] = refl
refuses_at_near t reason (ReqNeg session o ∷ left) = refl
refuses_at_near t reason (m ∷ left) = refl

-- the far side's refusal changes nothing of the near side's stage
pub refuses_near : (t : Talk) (reason : Option (List ℕ)) (stage : Stage) → (refuses t reason stage).near.stage ≡ t.near.stage
refuses_near t reason Absent = refuses_at_near t reason t.far.inbox
refuses_near t reason Refused = refl
refuses_near t reason (Present v) = refl

-- a request changes nothing of the far side's stage
pub requests_far : (t : Talk) (now timeout session : ℕ) (o : Objective) (stage : Stage) → (requests t now timeout session o stage).far.stage ≡ t.far.stage
requests_far t now timeout session o Absent = refl
requests_far t now timeout session o _ = refl

-- a talk has what was said in it
pub said_of-talk : (side : Side) (said : List Said) (mine theirs : Party) → (talk_of side said mine theirs).said ≡ said
said_of-talk Near said mine theirs = refl
said_of-talk Far said mine theirs = refl

-- a changed session that goes on keeps its place
pub stays_place : (z : Sessions) (h : Handle) (y : SessionState) → is_going y.view ≡ true → changed z h y ≡ with_place z h.place (Some y)
stays_place z h y g =
    let stays : is_leaving y ≡ false = and_right (y.owner == 0) (not (is_going y.view)) (ap not g) in rw stays refl

-- whose turn it is awaits no message
pub not_awaited : (v : Transcript) (n : ℕ) → is_mine v ≡ true → is_awaited v n ≡ true → ⊥
not_awaited v n e f = true≢false (sym f ∙ and_right (n == session_of v) (not (is_mine v)) (ap not e))

-- a session with no owner that says its end leaves
pub end_leaves : (x : SessionState) (now : ℕ) (verdict : Verdict) → x.owner ≡ 0 → is_leaving (with_transcript x (having_said x.view now (SayEnd verdict))) ≡ true
end_leaves x now verdict e = and_from (x.owner == 0) (not (is_none x.view.mark && false)) (eq-eqb x.owner 0 e) (ap not (and_right (is_none x.view.mark) false refl))
