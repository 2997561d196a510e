-- The first message of near is its request.
use Rattle.std.proofs.Common.{None, Some, Option, ◌≡◌, ℕ, Bool, true, false, cond, List, [], ◌∷◌, ◌++◌, reverse, inl, inr, refl, ap, ◌∙◌}
use Rattle.std.proofs.lemmas.List.{reverse-append}
use Rattle.grasp_session.specs.Messages.{Side, Near, Far}
use Rattle.grasp_types.specs.declared.objective.Objective.{Objective}
use Rattle.grasp_types.specs.declared.message.Message.{Message}
use Rattle.grasp_types.specs.declared.message.Message.TheVariants.{ReqNeg}
use Rattle.grasp_session.specs.Conversation.{spoken}
use Rattle.grasp_session.specs.Transcript.{Mark, Transcript, sent_of, is_going, marked, with_mark, opening, Saying, refusal, act_of, message_of, after_said, receive, after_heard, Deed, Does, Gets, Suffers, after_deed}
use Rattle.grasp_session.specs.Talk.{Stage, Absent, Refused, Present, Talk}
use Rattle.grasp_session.specs.declared.answer.SessionRefused.{SessionRefused}
use Rattle.grasp_session.specs.declared.answer.Received.{Received}
use Rattle.grasp_session.specs.declared.answer.Received.TheVariants.{Kept}
use Rattle.grasp_session.specs.Laws.{FirstIsRequest, IsOpened}
use Rattle.grasp_laws_session.proofs.Sound.{SoundStage}
use Rattle.grasp_laws_session.proofs.Built.{Kept_by_moves, run_stage}
use Rattle.grasp_laws_session.proofs.Ends.{sound}
use Rattle.grasp_types.specs.declared.session.Kind.TheVariants.{Negotiation}

-- newest first, the last is a request
record EndsIn (ms : List Message) : Type 0 where
  later : List Message
  session : ℕ
  objective : Objective
  are : ms ≡ later ++ ReqNeg session objective ∷ []

more : (m : Message) (ms : List Message) → EndsIn ms → EndsIn (m ∷ ms)
more m ms e = record { later = m ∷ e.later; session = e.session; objective = e.objective; are = ap (λ (l : List Message). m ∷ l) e.are }

abbrev NearStage : Side → Stage → Type 0
NearStage Near Absent = Unit {0}
NearStage Near Refused = ⊥
NearStage Near (Present v) = EndsIn (sent_of v.entries)
NearStage Far stage = Unit {0}

said_ends : (v : Transcript) (now : ℕ) (s : Saying) (c : Option SessionRefused) → EndsIn (sent_of v.entries) → EndsIn (sent_of (after_said v now s c).entries)
said_ends v now s None e = more (message_of v s) (sent_of v.entries) e
said_ends v now s (Some refused) e = e

heard_ends : (v : Transcript) (now : ℕ) (m : Message) (r : Received) → EndsIn (sent_of v.entries) → EndsIn (sent_of (after_heard v now m r).entries)
heard_ends v now m Kept e = e
heard_ends v now m _ e = e

marked_ends : (v : Transcript) (mark : Mark) → EndsIn (sent_of v.entries) → EndsIn (sent_of (marked v mark).entries)
marked_ends v mark e = by_test (is_going v) where
  by_test : (b : Bool) → EndsIn (sent_of (cond b (with_mark v mark) v).entries)
  by_test true = e
  by_test false = e

deed_ends : (side : Side) (v : Transcript) (d : Deed) → NearStage side (Present v) → NearStage side (Present (after_deed v d))
deed_ends Near v (Does now s) e = said_ends v now s (refusal v (act_of s)) e
deed_ends Near v (Gets now m) e = heard_ends v now m (receive v m) e
deed_ends Near v (Suffers mark) e = marked_ends v mark e
deed_ends Far v d e = tt

absent_near : (side : Side) → NearStage side Absent
absent_near Near = tt
absent_near Far = tt

opens_near : (role : Side) (timeout now session : ℕ) (o : Objective) → NearStage role (Present (opening Negotiation role timeout now session o))
opens_near Near timeout now session o = record { later = []; session = session; objective = o; are = refl }
opens_near Far timeout now session o = tt

near_kept : Kept_by_moves NearStage
near_kept = record { absent = absent_near; refused = tt; opens = opens_near; deeds = deed_ends }

reversed : (l : List Message) (m : Message) → reverse (l ++ m ∷ []) ≡ m ∷ reverse l
reversed l m = reverse-append l (m ∷ [])

by_stage : (t : Talk) (stage : Stage) → SoundStage Near t.near.inbox t.said stage → NearStage Near stage → IsOpened (reverse (spoken Near t.said))
by_stage t Absent s n = inl (ap reverse s.own)
by_stage t Refused s n = absurd n
by_stage t (Present v) s n = inr (n.session, n.objective, reverse n.later, ap reverse (s.own ∙ n.are) ∙ reversed n.later (ReqNeg n.session n.objective))

pub first_is_request : FirstIsRequest
first_is_request t r = by_stage t t.near.stage (sound t r).near (run_stage NearStage near_kept t r Near)
