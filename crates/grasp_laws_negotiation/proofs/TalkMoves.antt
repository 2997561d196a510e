-- What one thing that happens at an end of a talk leads to.
use Rattle.std.proofs.Common.{None, ◌≡◌, ℕ, List, [], ◌∷◌, Option, refl, ap, ◌∙◌}
use Rattle.grasp_types.specs.declared.message.Message.{Message}
use Rattle.grasp_types.specs.declared.message.Message.TheVariants.{ReqNeg, End}
use Rattle.grasp_types.specs.declared.message.Verdict.TheVariants.{Decline}
use Rattle.grasp_types.specs.declared.objective.Objective.{Objective}
use Rattle.grasp_types.specs.declared.session.Kind.TheVariants.{Negotiation}
use Rattle.grasp_laws_session.proofs.Reaching.{move_reaches}
use Rattle.grasp_session.proofs.Facts.{said_of-talk}
use Rattle.grasp_session.specs.Conversation.{Said, says}
use Rattle.grasp_session.specs.Messages.{Side, Near, Far, other}
use Rattle.grasp_session.specs.Talk.{Cause, mark_of, Absent, Refused, Present, Party, Talk, party, talk_of, in_stage, handed, having_taken, Move, Requests, OpensFar, RefusesFar, Says, Hears, Marks, requests, opens_at, opens, refuses_at, refuses, says_checked, says_at, hears_next, marks_at, moved, run, Reached}
use Rattle.grasp_session.specs.Transcript.{Transcript, opening, Saying, act_of, refusal, message_of, having_said, marked, receive, after_heard}

-- a move leads to a talk in which this was said, in which this end is this party, and in which the other end stands as before
pub record Comes (side : Side) (t : Talk) (said : List Said) (mine : Party) : Type 0 where
  pub talk : Talk
  pub reached : Reached talk
  pub moves : List Move
  pub ran : talk ≡ run t moves
  pub said_is : talk.said ≡ said
  pub mine_is : party talk side ≡ mine
  pub other_stage : (party talk (other side)).stage ≡ (party t (other side)).stage
  pub other_taken : (party talk (other side)).taken ≡ (party t (other side)).taken

own_party : (side : Side) (said : List Said) (mine theirs : Party) → party (talk_of side said mine theirs) side ≡ mine
own_party Near said mine theirs = refl
own_party Far said mine theirs = refl

other_party : (side : Side) (said : List Said) (mine theirs : Party) → party (talk_of side said mine theirs) (other side) ≡ theirs
other_party Near said mine theirs = refl
other_party Far said mine theirs = refl

-- a move leads to a talk that is made of these parts
made : (t : Talk) (m : Move) (side : Side) (said : List Said) (mine theirs : Party) → Reached t → moved t m ≡ talk_of side said mine theirs
    → theirs.stage ≡ (party t (other side)).stage → theirs.taken ≡ (party t (other side)).taken → Comes side t said mine
made t m side said mine theirs r e s k = record {
  talk = moved t m;
  reached = move_reaches t m r;
  moves = m ∷ [];
  ran = refl;
  said_is = ap (λ (x : Talk). x.said) e ∙ said_of-talk side said mine theirs;
  mine_is = ap (λ (x : Talk). party x side) e ∙ own_party side said mine theirs;
  other_stage = ap (λ (x : Talk). (party x (other side)).stage) e ∙ (ap (λ (p : Party). p.stage) (other_party side said mine theirs) ∙ s);
  other_taken = ap (λ (x : Talk). (party x (other side)).taken) e ∙ (ap (λ (p : Party). p.taken) (other_party side said mine theirs) ∙ k);
}

-- near requests
pub asked : (t : Talk) (now timeout session : ℕ) (o : Objective) → Reached t → t.near.stage ≡ Absent
    → Comes Near t (says Near (ReqNeg session o) ∷ t.said) (in_stage t.near (Present (opening Negotiation Near timeout now session o)))
asked t now timeout session o r e =
    made t (Requests now timeout session o) Near (says Near (ReqNeg session o) ∷ t.said) (in_stage t.near (Present (opening Negotiation Near timeout now session o))) (handed t.far (ReqNeg session o)) r
    (ap (λ x. requests t now timeout session o x) e) refl refl

-- far listens
pub listened : (t : Talk) (now timeout session : ℕ) (o : Objective) (left : List Message) → Reached t → t.far.stage ≡ Absent → t.far.inbox ≡ ReqNeg session o ∷ left
    → Comes Far t t.said (having_taken t.far (ReqNeg session o) left (Present (opening Negotiation Far timeout now session o)))
listened t now timeout session o left r e i =
    made t (OpensFar now timeout) Far t.said (having_taken t.far (ReqNeg session o) left (Present (opening Negotiation Far timeout now session o))) t.near r
    (ap (λ x. opens t now timeout x) e ∙ ap (λ x. opens_at t now timeout x) i) refl refl

-- far declines without a transcript
pub declined : (t : Talk) (session : ℕ) (o : Objective) (reason : Option (List ℕ)) (left : List Message) → Reached t → t.far.stage ≡ Absent → t.far.inbox ≡ ReqNeg session o ∷ left
    → Comes Far t (says Far (End session (Decline reason)) ∷ t.said) (in_stage (having_taken t.far (ReqNeg session o) left Refused) Refused)
declined t session o reason left r e i =
    made t (RefusesFar reason) Far (says Far (End session (Decline reason)) ∷ t.said) (in_stage (having_taken t.far (ReqNeg session o) left Refused) Refused) (handed t.near (End session (Decline reason))) r
    (ap (λ x. refuses t reason x) e ∙ ap (λ x. refuses_at t reason x) i) refl refl

-- an end says what it may
pub said_so : (t : Talk) (side : Side) (now : ℕ) (s : Saying) (v : Transcript) → Reached t → (party t side).stage ≡ Present v → refusal v (act_of s) ≡ None
    → Comes side t (says side (message_of v s) ∷ t.said) (in_stage (party t side) (Present (having_said v now s)))
said_so t side now s v r e may =
    made t (Says side now s) side (says side (message_of v s) ∷ t.said) (in_stage (party t side) (Present (having_said v now s))) (handed (party t (other side)) (message_of v s)) r
    (ap (λ x. says_at t side now s x) e ∙ ap (λ x. says_checked t side now s v x) may) refl refl

-- an end hears the next message
pub heard_so : (t : Talk) (side : Side) (now : ℕ) (v : Transcript) (m : Message) (left : List Message) → Reached t → (party t side).stage ≡ Present v → (party t side).inbox ≡ m ∷ left
    → Comes side t t.said (having_taken (party t side) m left (Present (after_heard v now m (receive v m))))
heard_so t side now v m left r e i =
    made t (Hears side now) side t.said (having_taken (party t side) m left (Present (after_heard v now m (receive v m)))) (party t (other side)) r
    (ap (λ x. hears_next t side now x (party t side).inbox) e ∙ ap (λ x. hears_next t side now (Present v) x) i) refl refl

-- an end is ended from outside
pub marked_so : (t : Talk) (side : Side) (cause : Cause) (v : Transcript) → Reached t → (party t side).stage ≡ Present v
    → Comes side t t.said (in_stage (party t side) (Present (marked v (mark_of cause))))
marked_so t side cause v r e =
    made t (Marks side cause) side t.said (in_stage (party t side) (Present (marked v (mark_of cause)))) (party t (other side)) r
    (ap (λ x. marks_at t side cause x) e) refl refl
