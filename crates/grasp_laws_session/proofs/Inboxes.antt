-- What was taken, and what is left, are what the other side said.
use Rattle.std.proofs.Common.{Some, None, ◌≡◌, ℕ, Bool, true, false, cond, List, [], ◌∷◌, ◌++◌, reverse, Option, refl, sym, ap, ◌∙◌, subst, append_assoc}
use Rattle.std.proofs.lemmas.Grind.{reverse_onto}
use Rattle.std.proofs.lemmas.List.{reverse-append}
use Rattle.std.proofs.lemmas.Bool.{false≢true, true≢false, cond-true, cond-false}
use Rattle.grasp_session.specs.Messages.{Side, Near, Far, other, is_side}
use Rattle.grasp_types.specs.declared.objective.Objective.{Objective}
use Rattle.grasp_types.specs.declared.message.Verdict.TheVariants.{Decline}
use Rattle.grasp_types.specs.declared.message.Message.{Message}
use Rattle.grasp_types.specs.declared.message.Message.TheVariants.{ReqNeg, End}
use Rattle.grasp_session.specs.Conversation.{Said, says, spoken}
use Rattle.grasp_session.specs.Transcript.{Transcript, kept_of, is_going, marked, with_mark, opening, Saying, refusal, act_of, message_of, with_sent, receive, receive_going, after_heard}
use Rattle.grasp_session.specs.Talk.{Cause, mark_of, Stage, Absent, Refused, Present, Party, Talk, quiet, party, talk_of, in_stage, handed, spoke, having_taken, took, Move, Requests, OpensFar, RefusesFar, Says, Hears, Marks, requests, opens_at, opens, refuses_at, refuses, says_checked, says_at, hears_next, marks_at, moved, run, Reached}
use Rattle.grasp_session.specs.declared.answer.SessionRefused.{SessionRefused}
use Rattle.grasp_session.specs.declared.answer.Received.TheVariants.{Kept, Ignored}
use Rattle.grasp_session.specs.Laws.{HasTaken, TakenInOrder}
use Rattle.grasp_laws_session.specs.Moves.{AbsentTookNothing}
use Rattle.grasp_laws_session.proofs.Follows.{other_other}
use Rattle.grasp_laws_session.proofs.Views.{same_side, checked}
use Rattle.grasp_laws_session.proofs.Sound.{SoundTalk, SoundStage, SoundView, sound_party}
use Rattle.grasp_laws_session.proofs.Moves.{is_kept, moved_sound, quiet_sound}
use Rattle.grasp_types.specs.declared.session.Kind.TheVariants.{Negotiation}

-- the end kept the first of the messages that it took, and all of them where its session goes on
record KeptFirst (v : Transcript) (taken : List Message) : Type 0 where
  ignored : List Message
  first : taken ≡ ignored ++ kept_of v.entries
  none : is_going v ≡ true → ignored ≡ []

abbrev KeptAll : Stage → List Message → Type 0
KeptAll Absent taken = taken ≡ []
KeptAll Refused taken = Unit {0}
KeptAll (Present v) taken = KeptFirst v taken

record Inbox (side : Side) (said : List Said) (p : Party) : Type 0 where
  given : spoken (other side) said ≡ reverse p.inbox ++ p.taken
  kept : KeptAll p.stage p.taken

record Inboxes (t : Talk) : Type 0 where
  near : Inbox Near t.said t.near
  far : Inbox Far t.said t.far

inbox_at : (t : Talk) (side : Side) → Inboxes t → Inbox side t.said (party t side)
inbox_at t Near s = s.near
inbox_at t Far s = s.far

inboxes_of : (side : Side) (said : List Said) (mine theirs : Party) → Inbox side said mine → Inbox (other side) said theirs → Inboxes (talk_of side said mine theirs)
inboxes_of Near said mine theirs m h = record { near = m; far = h }
inboxes_of Far said mine theirs m h = record { near = h; far = m }

handed_inbox : (side : Side) (said : List Said) (p : Party) (m : Message) → Inbox side said p → Inbox side (says (other side) m ∷ said) (handed p m)
handed_inbox side said p m i = record {
  given = cond-true (is_side (other side) (other side)) (m ∷ spoken (other side) said) (spoken (other side) said) (same_side (other side))
      ∙ (ap (λ (l : List Message). m ∷ l) i.given ∙ sym (ap (λ (l : List Message). l ++ p.taken) (reverse-append p.inbox (m ∷ []))));
  kept = i.kept;
}

-- the other side's inbox, where this side says a message
theirs_inbox : (side : Side) (said : List Said) (p : Party) (m : Message) → Inbox (other side) said p → Inbox (other side) (says side m ∷ said) (handed p m)
theirs_inbox side said p m i = subst (λ s. Inbox (other side) (says s m ∷ said) (handed p m)) (other_other side) (handed_inbox (other side) said p m i)

own_said : (side : Side) (said : List Said) (m : Message) → spoken (other side) (says side m ∷ said) ≡ spoken (other side) said
own_said Near said m = refl
own_said Far said m = refl

mine_inbox : (side : Side) (said : List Said) (p : Party) (m : Message) (stage : Stage) → Inbox side said p → KeptAll stage p.taken → Inbox side (says side m ∷ said) (in_stage p stage)
mine_inbox side said p m stage i k = record { given = own_said side said m ∙ i.given; kept = k }

took_inbox : (side : Side) (said : List Said) (p : Party) (m : Message) (left : List Message) (stage : Stage) → spoken (other side) said ≡ reverse (m ∷ left) ++ p.taken → KeptAll stage (m ∷ p.taken)
    → Inbox side said (having_taken p m left stage)
took_inbox side said p m left stage g k = record {
  given = g ∙ (ap (λ (l : List Message). l ++ p.taken) (reverse_onto left m []) ∙ append_assoc (reverse left) (m ∷ []) p.taken);
  kept = k;
}

spoke_inboxes : (t : Talk) (side : Side) (m : Message) (stage : Stage) → Inboxes t → KeptAll stage (party t side).taken → Inboxes (spoke t side m stage)
spoke_inboxes t side m stage i k =
    inboxes_of side (says side m ∷ t.said) (in_stage (party t side) stage) (handed (party t (other side)) m) (mine_inbox side t.said (party t side) m stage (inbox_at t side i) k)
    (theirs_inbox side t.said (party t (other side)) m (inbox_at t (other side) i))

took_inboxes : (t : Talk) (side : Side) (m : Message) (left : List Message) (stage : Stage) → Inboxes t → (party t side).inbox ≡ m ∷ left → KeptAll stage (m ∷ (party t side).taken) → Inboxes (took t side m left stage)
took_inboxes t side m left stage i e k =
    inboxes_of side t.said (having_taken (party t side) m left stage) (party t (other side))
    (took_inbox side t.said (party t side) m left stage ((inbox_at t side i).given ∙ ap (λ (l : List Message). reverse l ++ (party t side).taken) e) k)
    (inbox_at t (other side) i)

-- each move
requests_inboxes : (t : Talk) (now timeout session : ℕ) (o : Objective) (stage : Stage) → Inboxes t → KeptAll stage t.near.taken → Inboxes (requests t now timeout session o stage)
requests_inboxes t now timeout session o Absent i k = spoke_inboxes t Near (ReqNeg session o) (Present (opening Negotiation Near timeout now session o)) i (record { ignored = []; first = k; none = λ _. refl })
requests_inboxes t now timeout session o Refused i k = i
requests_inboxes t now timeout session o (Present v) i k = i

opens_at_inboxes : (t : Talk) (now timeout : ℕ) (inbox : List Message) → Inboxes t → t.far.inbox ≡ inbox → t.far.taken ≡ [] → Inboxes (opens_at t now timeout inbox)
opens_at_inboxes t now timeout (ReqNeg session o ∷ left) i e k = took_inboxes t Far (ReqNeg session o) left (Present (opening Negotiation Far timeout now session o)) i e (record { ignored = []; first = ap (λ (l : List Message). ReqNeg session o ∷ l) k; none = λ _. refl })
opens_at_inboxes t now timeout _ i e k = i

opens_inboxes : (t : Talk) (now timeout : ℕ) (stage : Stage) → Inboxes t → KeptAll stage t.far.taken → Inboxes (opens t now timeout stage)
opens_inboxes t now timeout Absent i k = opens_at_inboxes t now timeout t.far.inbox i refl k
opens_inboxes t now timeout Refused i k = i
opens_inboxes t now timeout (Present v) i k = i

refuses_at_inboxes : (t : Talk) (reason : Option (List ℕ)) (inbox : List Message) → Inboxes t → t.far.inbox ≡ inbox → Inboxes (refuses_at t reason inbox)
refuses_at_inboxes t reason (ReqNeg session o ∷ left) i e =
    spoke_inboxes (took t Far (ReqNeg session o) left Refused) Far (End session (Decline reason)) Refused (took_inboxes t Far (ReqNeg session o) left Refused i e tt) tt
refuses_at_inboxes t reason _ i e = i

refuses_inboxes : (t : Talk) (reason : Option (List ℕ)) (stage : Stage) → Inboxes t → Inboxes (refuses t reason stage)
refuses_inboxes t reason Absent i = refuses_at_inboxes t reason t.far.inbox i refl
refuses_inboxes t reason Refused i = i
refuses_inboxes t reason (Present v) i = i

says_checked_inboxes : (t : Talk) (side : Side) (now : ℕ) (sg : Saying) (v : Transcript) (c : Option SessionRefused) → Inboxes t → KeptFirst v (party t side).taken → (c ≡ None → is_going v ≡ true) → Inboxes (says_checked t side now sg v c)
says_checked_inboxes t side now sg v None i k g = spoke_inboxes t side (message_of v sg) (Present (with_sent v now (message_of v sg))) i (record { ignored = k.ignored; first = k.first; none = λ _. k.none (g refl) })
says_checked_inboxes t side now sg v (Some refused) i k g = i

says_at_inboxes : (t : Talk) (side : Side) (now : ℕ) (sg : Saying) (stage : Stage) → SoundStage side (party t side).inbox t.said stage → Inboxes t → KeptAll stage (party t side).taken → Inboxes (says_at t side now sg stage)
says_at_inboxes t side now sg Absent s i k = i
says_at_inboxes t side now sg Refused s i k = i
says_at_inboxes t side now sg (Present v) s i k = says_checked_inboxes t side now sg v (refusal v (act_of sg)) i k (λ e. (checked v sg s.has_begun e).0)

heard_kept : (side : Side) (left : List Message) (t : Talk) (v : Transcript) (now : ℕ) (m : Message) (taken : List Message) → SoundTalk t → SoundView side (m ∷ left) t.said v
    → KeptFirst v taken → (b : Bool) → is_going v ≡ b → KeptFirst (after_heard v now m (receive v m)) (m ∷ taken)
heard_kept side left t v now m taken s n k true g =
    let r : receive v m ≡ Kept = is_kept side left t.said v m s.legal n g in
    let all : taken ≡ kept_of v.entries = k.first ∙ ap (λ (l : List Message). l ++ kept_of v.entries) (k.none g) in
    subst (λ x. KeptFirst (after_heard v now m x) (m ∷ taken)) (sym r) (record { ignored = []; first = ap (λ (l : List Message). m ∷ l) all; none = λ _. refl })
heard_kept side left t v now m taken s n k false g =
    let r : receive v m ≡ Ignored = cond-false (is_going v) (receive_going v m) Ignored g in
    subst (λ x. KeptFirst (after_heard v now m x) (m ∷ taken)) (sym r)
    (record { ignored = m ∷ k.ignored; first = ap (λ (l : List Message). m ∷ l) k.first; none = λ h. absurd (true≢false (sym h ∙ g)) })

hears_inboxes : (t : Talk) (side : Side) (now : ℕ) (stage : Stage) (inbox : List Message) → SoundTalk t → SoundStage side inbox t.said stage → Inboxes t → (party t side).inbox ≡ inbox → KeptAll stage (party t side).taken → Inboxes (hears_next t side now stage inbox)
hears_inboxes t side now stage [] s n i e k = i
hears_inboxes t side now Absent (m ∷ left) s n i e k = i
hears_inboxes t side now Refused (m ∷ left) s n i e k = took_inboxes t side m left Refused i e tt
hears_inboxes t side now (Present v) (m ∷ left) s n i e k =
    took_inboxes t side m left (Present (after_heard v now m (receive v m))) i e (heard_kept side left t v now m (party t side).taken s n k (is_going v) refl)

marks_inboxes : (t : Talk) (side : Side) (cause : Cause) (stage : Stage) → Inboxes t → KeptAll stage (party t side).taken → Inboxes (marks_at t side cause stage)
marks_inboxes t side cause Absent i k = i
marks_inboxes t side cause Refused i k = i
marks_inboxes t side cause (Present v) i k =
    inboxes_of side t.said (in_stage (party t side) (Present (marked v (mark_of cause)))) (party t (other side))
    (record { given = (inbox_at t side i).given; kept = by_test (is_going v) }) (inbox_at t (other side) i) where
      by_test : (b : Bool) → KeptFirst (cond b (with_mark v (mark_of cause)) v) (party t side).taken
      by_test true = record { ignored = k.ignored; first = k.first; none = λ h. absurd (false≢true h) }
      by_test false = k

moved_inboxes : (t : Talk) (m : Move) → SoundTalk t → Inboxes t → Inboxes (moved t m)
moved_inboxes t (Requests now timeout session o) s i = requests_inboxes t now timeout session o t.near.stage i i.near.kept
moved_inboxes t (OpensFar now timeout) s i = opens_inboxes t now timeout t.far.stage i i.far.kept
moved_inboxes t (RefusesFar reason) s i = refuses_inboxes t reason t.far.stage i
moved_inboxes t (Says side now sg) s i = says_at_inboxes t side now sg (party t side).stage (sound_party t side s) i (inbox_at t side i).kept
moved_inboxes t (Hears side now) s i = hears_inboxes t side now (party t side).stage (party t side).inbox s (sound_party t side s) i refl (inbox_at t side i).kept
moved_inboxes t (Marks side cause) s i = marks_inboxes t side cause (party t side).stage i (inbox_at t side i).kept

run_inboxes : (t : Talk) (ms : List Move) → SoundTalk t → Inboxes t → Inboxes (run t ms)
run_inboxes t [] s i = i
run_inboxes t (m ∷ ms) s i = run_inboxes (moved t m) ms (moved_sound t m s) (moved_inboxes t m s i)

has_taken : (side : Side) (said : List Said) (p : Party) → Inbox side said p → HasTaken side said p
has_taken side said p i = record {
  given = i.given;
  first = λ v e. let k = kept_at v e in (k.ignored, k.first);
  kept = λ v e g. let k = kept_at v e in sym (k.first ∙ ap (λ (l : List Message). l ++ kept_of v.entries) (k.none g));
} where
  kept_at : (v : Transcript) → p.stage ≡ Present v → KeptFirst v p.taken
  kept_at v e = subst (λ s. KeptAll s p.taken) e i.kept

inboxes : (t : Talk) → Reached t → Inboxes t
inboxes t r = subst Inboxes (sym r.ran) (run_inboxes quiet r.moves quiet_sound (record { near = record { given = refl; kept = refl }; far = record { given = refl; kept = refl } }))

pub absent_took : AbsentTookNothing
absent_took t r side e = subst (λ s. KeptAll s (party t side).taken) e (inbox_at t side (inboxes t r)).kept

pub run_taken : TakenInOrder
run_taken t r side = has_taken side t.said (party t side) (inbox_at t side (inboxes t r))
