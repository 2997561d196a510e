-- What each view has that is built by saying, hearing and marks.
use Rattle.std.proofs.Common.{◌≡◌, ℕ, Bool, true, false, ◌&&◌, List, [], ◌∷◌, ◌⊎◌, inl, inr, Option, Some, None, is_none, refl, sym, ap, subst}
use Rattle.std.proofs.lemmas.Bool.{false≢true, cond-true, cond-false, and_left}
use Rattle.grasp_session.specs.Messages.{Side, Near, Far, other}
use Rattle.grasp_types.specs.declared.objective.Objective.{Objective}
use Rattle.grasp_types.specs.declared.message.Verdict.TheVariants.{Decline}
use Rattle.grasp_types.specs.declared.message.Message.{Message}
use Rattle.grasp_types.specs.declared.message.Message.TheVariants.{ReqNeg, End}
use Rattle.grasp_session.specs.Conversation.{Said, says}
use Rattle.grasp_session.specs.Transcript.{Entry, Transcript, Mark, Faulty, is_over, is_going, is_mine, marked, with_mark, opening, Saying, SayStep, SayWait, SayEnd, SayInvalid, refusal, act_of, message_of, with_sent, after_said, receive, receive_going, with_kept, after_heard, Deed, Does, Gets, Suffers, after_deed}
use Rattle.grasp_session.specs.Talk.{Marks, Cause, mark_of, Stage, Absent, Refused, Present, Party, Talk, quiet, party, talk_of, in_stage, handed, spoke, having_taken, took, Move, Requests, OpensFar, RefusesFar, Says, Hears, requests, opens_at, opens, refuses_at, refuses, says_checked, says_at, hears_next, marks_at, moved, run, Reached}
use Rattle.grasp_session.specs.declared.answer.SessionRefused.{SessionRefused}
use Rattle.grasp_session.specs.declared.answer.SessionRefused.TheVariants.{NotYourTurn}
use Rattle.grasp_session.specs.declared.answer.Received.{Received}
use Rattle.grasp_session.specs.declared.answer.Received.TheVariants.{Kept, Ignored, Bad}
use Rattle.grasp_laws_session.proofs.Views.{going_parts}
use Rattle.grasp_types.specs.declared.session.Kind.TheVariants.{Negotiation}

-- an outcome stays
still_said : (v : Transcript) (now : ℕ) (s : Saying) → is_going v ≡ false → refusal v (act_of s) ≡ (Some NotYourTurn)
still_said v now (SayStep value) g = cond-false (is_going v && is_mine v) _ (Some NotYourTurn) (and_left (is_going v) (is_mine v) g)
still_said v now (SayWait millis) g = cond-false (is_going v && is_mine v) _ (Some NotYourTurn) (and_left (is_going v) (is_mine v) g)
still_said v now (SayEnd verdict) g = cond-false (is_going v && is_mine v) None (Some NotYourTurn) (and_left (is_going v) (is_mine v) g)
still_said v now (SayInvalid detail) g = cond-false (is_going v) None (Some NotYourTurn) g

pub outcome_stays : (v : Transcript) (d : Deed) → is_going v ≡ false → after_deed v d ≡ v
outcome_stays v (Does now s) g = ap (after_said v now s) (still_said v now s g)
outcome_stays v (Gets now m) g = ap (after_heard v now m) (cond-false (is_going v) (receive_going v m) Ignored g)
outcome_stays v (Suffers mark) g = cond-false (is_going v) (with_mark v mark) v g

-- what holds of each opening and is kept by each deed holds of each stage of a run
record Both (Q : Side → Stage → Type 0) (t : Talk) : Type 0 where
  near : Q Near t.near.stage
  far : Q Far t.far.stage

both_at : (Q : Side → Stage → Type 0) (t : Talk) (side : Side) → Both Q t → Q side (party t side).stage
both_at Q t Near b = b.near
both_at Q t Far b = b.far

both_of : (Q : Side → Stage → Type 0) (side : Side) (said : List Said) (mine theirs : Party) → Q side mine.stage → Q (other side) theirs.stage → Both Q (talk_of side said mine theirs)
both_of Q Near said mine theirs m h = record { near = m; far = h }
both_of Q Far said mine theirs m h = record { near = h; far = m }

pub record Kept_by_moves (Q : Side → Stage → Type 0) : Type 0 where
  pub absent : (side : Side) → Q side Absent
  pub refused : Q Far Refused
  pub opens : (role : Side) (timeout now session : ℕ) (o : Objective) → Q role (Present (opening Negotiation role timeout now session o))
  pub deeds : (side : Side) (v : Transcript) (d : Deed) → Q side (Present v) → Q side (Present (after_deed v d))

module _ (Q : Side → Stage → Type 0) (keeps : Kept_by_moves Q) where
  spoke_both : (t : Talk) (side : Side) (m : Message) (stage : Stage) → Both Q t → Q side stage → Both Q (spoke t side m stage)
  spoke_both t side m stage b e = both_of Q side (says side m ∷ t.said) (in_stage (party t side) stage) (handed (party t (other side)) m) e (both_at Q t (other side) b)

  took_both : (t : Talk) (side : Side) (m : Message) (left : List Message) (stage : Stage) → Both Q t → Q side stage → Both Q (took t side m left stage)
  took_both t side m left stage b e = both_of Q side t.said (having_taken (party t side) m left stage) (party t (other side)) e (both_at Q t (other side) b)

  requests_both : (t : Talk) (now timeout session : ℕ) (o : Objective) (stage : Stage) → Both Q t → Both Q (requests t now timeout session o stage)
  requests_both t now timeout session o Absent b = spoke_both t Near (ReqNeg session o) (Present (opening Negotiation Near timeout now session o)) b (keeps.opens Near timeout now session o)
  requests_both t now timeout session o Refused b = b
  requests_both t now timeout session o (Present v) b = b

  opens_at_both : (t : Talk) (now timeout : ℕ) (inbox : List Message) → Both Q t → Both Q (opens_at t now timeout inbox)
  opens_at_both t now timeout (ReqNeg session o ∷ left) b =
      took_both t Far (ReqNeg session o) left (Present (opening Negotiation Far timeout now session o)) b (keeps.opens Far timeout now session o)
  opens_at_both t now timeout _ b = b

  opens_both : (t : Talk) (now timeout : ℕ) (stage : Stage) → Both Q t → Both Q (opens t now timeout stage)
  opens_both t now timeout Absent b = opens_at_both t now timeout t.far.inbox b
  opens_both t now timeout Refused b = b
  opens_both t now timeout (Present v) b = b

  refuses_at_both : (t : Talk) (reason : Option (List ℕ)) (inbox : List Message) → Both Q t → Both Q (refuses_at t reason inbox)
  refuses_at_both t reason (ReqNeg session o ∷ left) b =
      spoke_both (took t Far (ReqNeg session o) left Refused) Far (End session (Decline reason)) Refused (took_both t Far (ReqNeg session o) left Refused b keeps.refused) keeps.refused
  refuses_at_both t reason _ b = b

  refuses_both : (t : Talk) (reason : Option (List ℕ)) (stage : Stage) → Both Q t → Both Q (refuses t reason stage)
  refuses_both t reason Absent b = refuses_at_both t reason t.far.inbox b
  refuses_both t reason Refused b = b
  refuses_both t reason (Present v) b = b

  says_checked_both : (t : Talk) (side : Side) (now : ℕ) (sg : Saying) (v : Transcript) (c : Option SessionRefused) → Both Q t → Q side (Present v) → refusal v (act_of sg) ≡ c → Both Q (says_checked t side now sg v c)
  says_checked_both t side now sg v None b p e =
      spoke_both t side (message_of v sg) (Present (with_sent v now (message_of v sg))) b
      (subst (λ c. Q side (Present (after_said v now sg c))) e (keeps.deeds side v (Does now sg) p))
  says_checked_both t side now sg v (Some refused) b p e = b

  says_at_both : (t : Talk) (side : Side) (now : ℕ) (sg : Saying) (stage : Stage) → Both Q t → Q side stage → Both Q (says_at t side now sg stage)
  says_at_both t side now sg Absent b p = b
  says_at_both t side now sg Refused b p = b
  says_at_both t side now sg (Present v) b p = says_checked_both t side now sg v (refusal v (act_of sg)) b p refl

  hears_both : (t : Talk) (side : Side) (now : ℕ) (stage : Stage) (inbox : List Message) → Both Q t → Q side stage → Both Q (hears_next t side now stage inbox)
  hears_both t side now stage [] b p = b
  hears_both t side now Absent (m ∷ left) b p = b
  hears_both t side now Refused (m ∷ left) b p = took_both t side m left Refused b p
  hears_both t side now (Present v) (m ∷ left) b p = took_both t side m left (Present (after_heard v now m (receive v m))) b (keeps.deeds side v (Gets now m) p)

  marks_both : (t : Talk) (side : Side) (cause : Cause) (stage : Stage) → Both Q t → Q side stage → Both Q (marks_at t side cause stage)
  marks_both t side cause Absent b p = b
  marks_both t side cause Refused b p = b
  marks_both t side cause (Present v) b p =
      both_of Q side t.said (in_stage (party t side) (Present (marked v (mark_of cause)))) (party t (other side)) (keeps.deeds side v (Suffers (mark_of cause)) p) (both_at Q t (other side) b)

  moved_both : (t : Talk) (m : Move) → Both Q t → Both Q (moved t m)
  moved_both t (Requests now timeout session o) b = requests_both t now timeout session o t.near.stage b
  moved_both t (OpensFar now timeout) b = opens_both t now timeout t.far.stage b
  moved_both t (RefusesFar reason) b = refuses_both t reason t.far.stage b
  moved_both t (Says side now sg) b = says_at_both t side now sg (party t side).stage b (both_at Q t side b)
  moved_both t (Hears side now) b = hears_both t side now (party t side).stage (party t side).inbox b (both_at Q t side b)
  moved_both t (Marks side cause) b = marks_both t side cause (party t side).stage b (both_at Q t side b)

  run_both : (t : Talk) (ms : List Move) → Both Q t → Both Q (run t ms)
  run_both t [] b = b
  run_both t (m ∷ ms) b = run_both (moved t m) ms (moved_both t m b)

  pub run_stage : (t : Talk) → Reached t → (side : Side) → Q side (party t side).stage
  run_stage t r side = both_at Q t side (subst (Both Q) (sym r.ran) (run_both quiet r.moves (record { near = keeps.absent Near; far = keeps.absent Far })))

-- marks stand on views without an outcome, and only the newest message is a last one
abbrev pub tail_over : List Entry → Bool
tail_over [] = false
tail_over (e ∷ es) = is_over es

pub record Tidy (v : Transcript) : Type 0 where
  pub unmarked : (v.mark ≡ None) ⊎ (is_over v.entries ≡ false)
  pub tail : tail_over v.entries ≡ false

none_is : (o : Option Mark) → is_none o ≡ true → o ≡ None
none_is None e = refl
none_is (Some m) e = absurd (false≢true e)

pub going_unmarked : (v : Transcript) → is_going v ≡ true → v.mark ≡ None
going_unmarked v g = none_is v.mark (going_parts v g).0

tidy_sent : (v : Transcript) (now : ℕ) (m : Message) → is_going v ≡ true → Tidy (with_sent v now m)
tidy_sent v now m g = record { unmarked = inl (going_unmarked v g); tail = (going_parts v g).1 }

tidy_kept : (v : Transcript) (now : ℕ) (m : Message) → is_going v ≡ true → Tidy (with_kept v now m)
tidy_kept v now m g = record { unmarked = inl (going_unmarked v g); tail = (going_parts v g).1 }

tidy_marked : (v : Transcript) (mark : Mark) → is_going v ≡ true → Tidy v → Tidy (with_mark v mark)
tidy_marked v mark g t = record { unmarked = inr (going_parts v g).1; tail = t.tail }

tidy_said : (v : Transcript) (now : ℕ) (s : Saying) (c : Option SessionRefused) → is_going v ≡ true → Tidy v → Tidy (after_said v now s c)
tidy_said v now s None g t = tidy_sent v now (message_of v s) g
tidy_said v now s (Some refused) g t = t

tidy_heard : (v : Transcript) (now : ℕ) (m : Message) (r : Received) → is_going v ≡ true → Tidy v → Tidy (after_heard v now m r)
tidy_heard v now m Kept g t = tidy_kept v now m g
tidy_heard v now m Ignored g t = t
tidy_heard v now m Bad g t = tidy_marked v Faulty g t

tidy_going : (v : Transcript) (d : Deed) → is_going v ≡ true → Tidy v → Tidy (after_deed v d)
tidy_going v (Does now s) g t = tidy_said v now s (refusal v (act_of s)) g t
tidy_going v (Gets now m) g t = tidy_heard v now m (receive v m) g t
tidy_going v (Suffers mark) g t = rw (cond-true (is_going v) (with_mark v mark) v g) (tidy_marked v mark g t)

pub tidy_deed : (v : Transcript) (d : Deed) → Tidy v → Tidy (after_deed v d)
tidy_deed v d t = by_test (is_going v) refl where
  by_test : (b : Bool) → is_going v ≡ b → Tidy (after_deed v d)
  by_test true g = tidy_going v d g t
  by_test false g = subst Tidy (sym (outcome_stays v d g)) t

abbrev TidyStage : Side → Stage → Type 0
TidyStage side Absent = Unit {0}
TidyStage side Refused = Unit {0}
TidyStage side (Present v) = Tidy v

tidy_kept_by : Kept_by_moves TidyStage
tidy_kept_by = record { absent = λ side. tt; refused = tt; opens = λ role timeout now session o. record { unmarked = inl refl; tail = refl }; deeds = λ side v d. tidy_deed v d }

pub tidy_run : (t : Talk) → Reached t → (side : Side) (v : Transcript) → (party t side).stage ≡ Present v → Tidy v
tidy_run t r side v e = subst (TidyStage side) e (run_stage TidyStage tidy_kept_by t r side)
