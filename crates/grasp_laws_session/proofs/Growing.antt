-- A move leaves the stripped conversation, or adds what may follow.
use Rattle.std.proofs.Common.{None, Some, ◌≡◌, ℕ, cond, List, [], ◌∷◌, ◌⊎◌, inl, inr, Option, refl, sym, ap, subst}
use Rattle.grasp_session.proofs.Facts.{said_of-talk}
use Rattle.grasp_session.specs.Messages.{Side, Near, Far, is_invalid}
use Rattle.grasp_types.specs.declared.objective.Objective.{Objective}
use Rattle.grasp_types.specs.declared.message.Verdict.TheVariants.{Decline}
use Rattle.grasp_types.specs.declared.message.Message.{Message}
use Rattle.grasp_types.specs.declared.message.Message.TheVariants.{ReqNeg, Negotiate, Wait, End, Invalid}
use Rattle.grasp_session.specs.Conversation.{Said, says, strip, MayFollow, IsLegal}
use Rattle.grasp_session.specs.Transcript.{Transcript, Saying, refusal, act_of, message_of}
use Rattle.grasp_session.specs.declared.answer.SessionRefused.{SessionRefused}
use Rattle.grasp_session.specs.Talk.{Cause, Stage, Absent, Refused, Present, Talk, party, talk_of, Party, Move, Requests, OpensFar, RefusesFar, Says, Hears, Marks, requests, opens_at, opens, refuses_at, refuses, says_checked, says_at, hears_next, marks_at, moved}
use Rattle.grasp_session.specs.Laws.{MovesFollow}
use Rattle.grasp_laws_session.proofs.Moves.{moved_sound}
use Rattle.grasp_laws_session.proofs.Ends.{sound}

-- what a move may add to the conversation
abbrev pub Adds : Move → Said → Type 0
Adds (Requests now timeout session o) x = x ≡ says Near (ReqNeg session o)
Adds (RefusesFar reason) x = (session : ℕ) × (x ≡ says Far (End session (Decline reason)))
Adds (Says side now s) x = (v : Transcript) × (x ≡ says side (message_of v s))
Adds _ x = ⊥

-- the conversation is the same, or has one message more, of which P holds
abbrev pub Grown : (Said → Type 0) → List Said → List Said → Type 0
Grown P old new = (new ≡ old) ⊎ ((x : Said) × (new ≡ x ∷ old) × P x)

stays_grown : (P : Said → Type 0) (t : Talk) (side : Side) (mine theirs : Party) → Grown P t.said (talk_of side t.said mine theirs).said
stays_grown P t side mine theirs = inl (said_of-talk side t.said mine theirs)

spoke_grown : (P : Said → Type 0) (old : List Said) (side : Side) (m : Message) (mine theirs : Party) → P (says side m) → Grown P old (talk_of side (says side m ∷ old) mine theirs).said
spoke_grown P old side m mine theirs p = inr (says side m, said_of-talk side (says side m ∷ old) mine theirs, p)

requests_grown : (t : Talk) (now timeout session : ℕ) (o : Objective) (stage : Stage) → Grown (Adds (Requests now timeout session o)) t.said (requests t now timeout session o stage).said
requests_grown t now timeout session o Absent = inr (says Near (ReqNeg session o), refl, refl)
requests_grown t now timeout session o Refused = inl refl
requests_grown t now timeout session o (Present v) = inl refl

opens_at_grown : (t : Talk) (now timeout : ℕ) (inbox : List Message) → Grown (Adds (OpensFar now timeout)) t.said (opens_at t now timeout inbox).said
opens_at_grown t now timeout [] = inl refl
opens_at_grown t now timeout (ReqNeg session o ∷ left) = inl refl
opens_at_grown t now timeout (_ ∷ left) = inl refl

opens_grown : (t : Talk) (now timeout : ℕ) (stage : Stage) → Grown (Adds (OpensFar now timeout)) t.said (opens t now timeout stage).said
opens_grown t now timeout Absent = opens_at_grown t now timeout t.far.inbox
opens_grown t now timeout Refused = inl refl
opens_grown t now timeout (Present v) = inl refl

refuses_at_grown : (t : Talk) (reason : Option (List ℕ)) (inbox : List Message) → Grown (Adds (RefusesFar reason)) t.said (refuses_at t reason inbox).said
refuses_at_grown t reason (ReqNeg session o ∷ left) = inr (says Far (End session (Decline reason)), refl, (session, refl))
refuses_at_grown t reason _ = inl refl

refuses_grown : (t : Talk) (reason : Option (List ℕ)) (stage : Stage) → Grown (Adds (RefusesFar reason)) t.said (refuses t reason stage).said
refuses_grown t reason Absent = refuses_at_grown t reason t.far.inbox
refuses_grown t reason Refused = inl refl
refuses_grown t reason (Present v) = inl refl

says_checked_grown : (t : Talk) (side : Side) (now : ℕ) (sg : Saying) (v : Transcript) (c : Option SessionRefused) → Grown (Adds (Says side now sg)) t.said (says_checked t side now sg v c).said
says_checked_grown t side now sg v None = spoke_grown (Adds (Says side now sg)) t.said side (message_of v sg) _ _ (v, refl)
says_checked_grown t side now sg v (Some refused) = inl refl

says_at_grown : (t : Talk) (side : Side) (now : ℕ) (sg : Saying) (stage : Stage) → Grown (Adds (Says side now sg)) t.said (says_at t side now sg stage).said
says_at_grown t side now sg Absent = inl refl
says_at_grown t side now sg Refused = inl refl
says_at_grown t side now sg (Present v) = says_checked_grown t side now sg v (refusal v (act_of sg))

hears_grown : (t : Talk) (side : Side) (now : ℕ) (stage : Stage) (inbox : List Message) → Grown (Adds (Hears side now)) t.said (hears_next t side now stage inbox).said
hears_grown t side now stage [] = inl refl
hears_grown t side now Absent (m ∷ left) = inl refl
hears_grown t side now Refused (m ∷ left) = stays_grown (Adds (Hears side now)) t side _ _
hears_grown t side now (Present v) (m ∷ left) = stays_grown (Adds (Hears side now)) t side _ _

marks_grown : (t : Talk) (side : Side) (cause : Cause) (stage : Stage) → Grown (Adds (Marks side cause)) t.said (marks_at t side cause stage).said
marks_grown t side cause Absent = inl refl
marks_grown t side cause Refused = inl refl
marks_grown t side cause (Present v) = stays_grown (Adds (Marks side cause)) t side _ _

pub moved_grown : (t : Talk) (m : Move) → Grown (Adds m) t.said (moved t m).said
moved_grown t (Requests now timeout session o) = requests_grown t now timeout session o t.near.stage
moved_grown t (OpensFar now timeout) = opens_grown t now timeout t.far.stage
moved_grown t (RefusesFar reason) = refuses_grown t reason t.far.stage
moved_grown t (Says side now sg) = says_at_grown t side now sg (party t side).stage
moved_grown t (Hears side now) = hears_grown t side now (party t side).stage (party t side).inbox
moved_grown t (Marks side cause) = marks_grown t side cause (party t side).stage

abbrev pub Followed : List Said → List Said → Type 0
Followed old new = (new ≡ old) ⊎ ((x : Said) × (new ≡ x ∷ old) × MayFollow old x)

one_more : (s : Side) (m : Message) (c : List Said) → IsLegal (cond (is_invalid m) c (says s m ∷ c)) → Followed c (cond (is_invalid m) c (says s m ∷ c))
one_more s (ReqNeg n o) c l = inr (says s (ReqNeg n o), refl, l.0)
one_more s (Negotiate n o) c l = inr (says s (Negotiate n o), refl, l.0)
one_more s (Wait n t) c l = inr (says s (Wait n t), refl, l.0)
one_more s (End n v) c l = inr (says s (End n v), refl, l.0)
one_more s (Invalid n d) c l = inl refl
one_more s m c l = absurd l.0

grown_follows : (P : Said → Type 0) (old new : List Said) → Grown P old new → IsLegal (strip new) → Followed (strip old) (strip new)
grown_follows P old new (inl e) l = inl (ap strip e)
grown_follows P old new (inr p) l =
    subst (λ (n : List Said). Followed (strip old) (strip n)) (sym p.1) (one_more p.0.side p.0.message (strip old) (subst (λ (n : List Said). IsLegal (strip n)) p.1 l))

pub moves_follow : MovesFollow
moves_follow t r m = grown_follows (Adds m) t.said (moved t m).said (moved_grown t m) (moved_sound t m (sound t r)).legal
