-- Each move keeps what is true.
use Rattle.std.proofs.Common.{◌≡◌, ◌≢◌, ℕ, Bool, true, false, cond, List, [], ◌∷◌, ◌++◌, ◌⊎◌, inl, inr, Option, Some, None, refl, sym, ap, ◌∙◌, subst}
use Rattle.std.proofs.lemmas.Bool.{false≢true, true≢false, cond-true, cond-false}
use Rattle.grasp_session.specs.Messages.{Side, Near, Far, other, is_side, is_invalid, is_last}
use Rattle.grasp_types.specs.declared.objective.Objective.{Objective}
use Rattle.grasp_types.specs.declared.message.Verdict.TheVariants.{Decline}
use Rattle.grasp_types.specs.declared.message.Message.{Message}
use Rattle.grasp_types.specs.declared.message.Message.TheVariants.{ReqNeg, End, Invalid}
use Rattle.grasp_session.specs.Conversation.{Said, says, strip, begun, MayFollow, IsLegal, Trails, gave_up, spoken}
use Rattle.grasp_session.specs.Transcript.{SayInvalid, Transcript, known, is_over, is_going, Faulty, marked, with_mark, opening, Saying, refusal, act_of, message_of, with_sent, receive, receive_going, with_kept, after_heard}
use Rattle.grasp_session.specs.Talk.{Cause, Expires, mark_of, Stage, Absent, Refused, Present, Party, Talk, quiet, party, in_stage, handed, spoke, having_taken, Move, Requests, OpensFar, RefusesFar, Says, Hears, Marks, requests, opens_at, opens, refuses_at, refuses, says_checked, says_at, hears_next, marks_at, moved, run}
use Rattle.grasp_session.specs.declared.answer.SessionRefused.{SessionRefused}
use Rattle.grasp_session.specs.declared.answer.Received.TheVariants.{Kept, Ignored}
use Rattle.grasp_laws_session.proofs.Follows.{other_other}
use Rattle.grasp_laws_session.proofs.Trailing.{IsStill, trails_eq, still_whole}
use Rattle.grasp_laws_session.proofs.Catching.{put_follows, put_trails, put_more, put_still}
use Rattle.grasp_laws_session.proofs.Views.{same_side, own_not_other, going_parts, known_sent, known_kept, Allowed, checked, kept}
use Rattle.grasp_laws_session.proofs.Requests.{trails_begun, trails_request}
use Rattle.grasp_laws_session.proofs.Numbers.{AtInvalid, said_numbered}
use Rattle.grasp_laws_session.proofs.Sound.{Untaken, SoundView, SoundAbsent, SoundStage, SoundParty, SoundTalk, sound_party, sound_talk_of}
use Rattle.grasp_types.specs.declared.session.Kind.TheVariants.{Negotiation}

-- the other side says a message
trails_more : (side : Side) (m : Message) (v c : List Said) → Trails side v c → Trails side v (cond (is_invalid m) c (says (other side) m ∷ c))
trails_more side (Invalid n d) v c t = t
trails_more side _ v c t = inr (refl, t)

other_untaken : (side : Side) (inbox : List Message) (said v : List Said) (m : Message) → Untaken side inbox said v → Untaken side (inbox ++ m ∷ []) (says (other side) m ∷ said) v
other_untaken side inbox said v m u = record {
  ahead = ap (λ (c : List Said). cond (is_invalid m) c (says (other side) m ∷ c)) u.ahead ∙ sym (put_more (other side) inbox m v);
  calm = rw (own_not_other side) u.calm;
}

other_spoken : (side : Side) (said : List Said) (m : Message) → spoken side (says (other side) m ∷ said) ≡ spoken side said
other_spoken side said m = cond-false (is_side side (other side)) (m ∷ spoken side said) (spoken side said) (own_not_other side)

other_stage : (side : Side) (inbox : List Message) (said : List Said) (m : Message) (stage : Stage) → SoundStage side inbox said stage → SoundStage side (inbox ++ m ∷ []) (says (other side) m ∷ said) stage
other_stage side inbox said m Absent s = record { untaken = other_untaken side inbox said [] m s.untaken; own = other_spoken side said m ∙ s.own }
other_stage side inbox said m Refused s = record { session = s.session; reason = s.reason; own = other_spoken side said m ∙ s.own }
other_stage side inbox said m (Present v) s = record {
  role = s.role;
  kind = s.kind;
  has_begun = s.has_begun;
  trails = trails_more side m (known v) (strip said) s.trails;
  untaken = λ g. other_untaken side inbox said (known v) m (s.untaken g);
  own = other_spoken side said m ∙ s.own;
  no_fault = s.no_fault;
}

other_said : (side : Side) (said : List Said) (m : Message) (p : Party) → SoundParty (other side) said p → SoundParty (other side) (says side m ∷ said) (handed p m)
other_said side said m p s = subst (λ t. SoundParty (other side) (says t m ∷ said) (handed p m)) (other_other side) (other_stage (other side) p.inbox said m p.stage s)

-- what holds where this side says a message that may follow
own_spoken : (side : Side) (said : List Said) (m : Message) → spoken side (says side m ∷ said) ≡ m ∷ spoken side said
own_spoken side said m = cond-true (is_side side side) (m ∷ spoken side said) (spoken side said) (same_side side)

plain_strip : (side : Side) (said : List Said) (m : Message) → is_invalid m ≡ false → strip (says side m ∷ said) ≡ says side m ∷ strip said
plain_strip side said m e = cond-false (is_invalid m) (strip said) (says side m ∷ strip said) e

-- where it is this side's turn, what it knows is the whole
untaken_whole : (side : Side) (inbox : List Message) (said v : List Said) → IsLegal (strip said) → Untaken side inbox said v → IsStill side v → v ≡ strip said
untaken_whole side inbox said v l u s = still_whole side v (strip said) l (subst (Trails side v) (sym u.ahead) (put_trails side inbox v)) s

pub own_legal : (side : Side) (said v : List Said) (m : Message) → IsLegal (strip said) → v ≡ strip said → is_invalid m ≡ false → MayFollow v (says side m) → IsLegal (strip (says side m ∷ said))
own_legal side said v m l w e f = subst IsLegal (sym (plain_strip side said m e)) (subst (λ (c : List Said). MayFollow c (says side m)) w f, l)

own_calm : (side : Side) (said : List Said) (m : Message) → is_invalid m ≡ false → gave_up side said ≡ false → gave_up side (says side m ∷ said) ≡ false
own_calm side said m e c = rw (same_side side, e) c

own_untaken : (side : Side) (inbox : List Message) (said v : List Said) (m : Message) → IsLegal (strip said) → Untaken side inbox said v → IsStill side v → is_invalid m ≡ false → Untaken side inbox (says side m ∷ said) (says side m ∷ v)
own_untaken side inbox said v m l u s e = record {
  ahead = plain_strip side said m e ∙ (ap (λ (c : List Said). says side m ∷ c) (sym (untaken_whole side inbox said v l u s)) ∙ sym (put_still side inbox v (says side m ∷ v) s (subst IsLegal u.ahead l)));
  calm = own_calm side said m e u.calm;
}

sent_sound : (side : Side) (inbox : List Message) (said : List Said) (v : Transcript) (now : ℕ) (m : Message) → IsLegal (strip said) → SoundView side inbox said v → is_going v ≡ true
    → Allowed v m → SoundView side inbox (says side m ∷ said) (with_sent v now m)
sent_sound side inbox said v now m l s g a =
    let st : IsStill side (known v) = inl (a.own_turn ∙ s.role) in
    let k : known (with_sent v now m) ≡ says side m ∷ known v = known_sent v now m side s.role ∙ cond-false (is_invalid m) (known v) (says side m ∷ known v) a.plain in
    let w : known v ≡ strip said = untaken_whole side inbox said (known v) l (s.untaken g) st in
    record {
      role = s.role;
      kind = s.kind;
      has_begun = ap begun k;
      trails = trails_eq side (known (with_sent v now m)) (strip (says side m ∷ said)) (k ∙ (ap (λ (c : List Said). says side m ∷ c) w ∙ sym (plain_strip side said m a.plain)));
      untaken = λ _. subst (Untaken side inbox (says side m ∷ said)) (sym k) (own_untaken side inbox said (known v) m l (s.untaken g) st a.plain);
      own = own_spoken side said m ∙ ap (λ (ms : List Message). m ∷ ms) s.own;
      no_fault = s.no_fault;
    }

-- what holds where this side says an invalid message
invalid_last : (m : Message) → is_invalid m ≡ true → is_last m ≡ true
invalid_last (End n d) e = refl
invalid_last (Invalid n d) e = refl
invalid_last _ e = absurd (false≢true e)

over_not_going : (v : Transcript) → is_over v.entries ≡ true → is_going v ≡ true → ⊥
over_not_going v o g = true≢false (sym o ∙ (going_parts v g).1)

invalid_strip : (side : Side) (said : List Said) (m : Message) → is_invalid m ≡ true → strip (says side m ∷ said) ≡ strip said
invalid_strip side said m e = cond-true (is_invalid m) (strip said) (says side m ∷ strip said) e

gave_up_sound : (side : Side) (inbox : List Message) (said : List Said) (v : Transcript) (now : ℕ) (m : Message) → SoundView side inbox said v → is_invalid m ≡ true
    → SoundView side inbox (says side m ∷ said) (with_sent v now m)
gave_up_sound side inbox said v now m s e =
    let k : known (with_sent v now m) ≡ known v = known_sent v now m side s.role ∙ cond-true (is_invalid m) (known v) (says side m ∷ known v) e in
    record {
      role = s.role;
      kind = s.kind;
      has_begun = ap begun k ∙ s.has_begun;
      trails = subst (Trails side (known (with_sent v now m))) (sym (invalid_strip side said m e)) (subst (λ (c : List Said). Trails side c (strip said)) (sym k) s.trails);
      untaken = λ g. absurd (over_not_going (with_sent v now m) (invalid_last m e) g);
      own = own_spoken side said m ∙ ap (λ (ms : List Message). m ∷ ms) s.own;
      no_fault = s.no_fault;
    }

-- what holds where this side takes a message
over_cases : (b : Bool) (m : Message) (V : List Said) (x : Said) → begun V ≡ true → begun (cond (is_invalid m) V (x ∷ V)) ≡ true
over_cases b (Invalid n d) V x e = e
over_cases b _ V x e = refl

kept_sound : (side : Side) (left : List Message) (said : List Said) (v : Transcript) (now : ℕ) (m : Message) → SoundView side (m ∷ left) said v → is_going v ≡ true → SoundView side left said (with_kept v now m)
kept_sound side left said v now m s g =
    let u : Untaken side (m ∷ left) said (known v) = s.untaken g in
    let w : List Said = cond (is_invalid m) (known v) (says (other side) m ∷ known v) in
    let k : known (with_kept v now m) ≡ cond (is_invalid m) (known v) (says (other side) m ∷ known v) = known_kept v now m side s.role in
    let n : Untaken side left said (cond (is_invalid m) (known v) (says (other side) m ∷ known v)) = record { ahead = u.ahead; calm = u.calm } in
    record {
      role = s.role;
      kind = s.kind;
      has_begun = ap begun k ∙ over_cases true m (known v) (says (other side) m) s.has_begun;
      trails = subst (λ (c : List Said). Trails side c (strip said)) (sym k) (subst (Trails side (cond (is_invalid m) (known v) (says (other side) m ∷ known v))) (sym u.ahead) (put_trails side left (cond (is_invalid m) (known v) (says (other side) m ∷ known v))));
      untaken = λ _. subst (Untaken side left said) (sym k) n;
      own = s.own;
      no_fault = s.no_fault;
    }

-- between two such ends each message is kept
pub is_kept : (side : Side) (left : List Message) (said : List Said) (v : Transcript) (m : Message) → IsLegal (strip said) → SoundView side (m ∷ left) said v → is_going v ≡ true → receive v m ≡ Kept
is_kept side left said v m l s g = kept v m s.kind s.has_begun g (by_test (is_invalid m) refl) where
  by_test : (b : Bool) → is_invalid m ≡ b → (is_invalid m ≡ true) ⊎ MayFollow (known v) (says (other v.role) m)
  by_test true e = inl e
  by_test false e = inr (subst (λ r. MayFollow (known v) (says (other r) m)) (sym s.role) (put_follows (other side) m left (known v) e (subst IsLegal (s.untaken g).ahead l)))

ignored_sound : (side : Side) (left : List Message) (said : List Said) (v : Transcript) (m : Message) → SoundView side (m ∷ left) said v → is_going v ≡ false → SoundView side left said v
ignored_sound side left said v m s g = record {
  role = s.role;
  kind = s.kind;
  has_begun = s.has_begun;
  trails = s.trails;
  untaken = λ h. absurd (true≢false (sym h ∙ g));
  own = s.own;
  no_fault = s.no_fault;
}

pub heard_sound : (side : Side) (left : List Message) (said : List Said) (v : Transcript) (now : ℕ) (m : Message) → IsLegal (strip said) → SoundView side (m ∷ left) said v → SoundView side left said (after_heard v now m (receive v m))
heard_sound side left said v now m l s = by_test (is_going v) refl where
  by_test : (b : Bool) → is_going v ≡ b → SoundView side left said (after_heard v now m (receive v m))
  by_test true g = subst (λ r. SoundView side left said (after_heard v now m r)) (sym (is_kept side left said v m l s g)) (kept_sound side left said v now m s g)
  by_test false g = subst (λ r. SoundView side left said (after_heard v now m r)) (sym (cond-false (is_going v) (receive_going v m) Ignored g)) (ignored_sound side left said v m s g)

-- a mark
not_faulty : (cause : Cause) → Some (mark_of cause) ≢ Some Faulty
not_faulty (Expires now) e = cc
not_faulty _ e = cc

with_mark_sound : (side : Side) (inbox : List Message) (said : List Said) (v : Transcript) (cause : Cause) → SoundView side inbox said v → SoundView side inbox said (with_mark v (mark_of cause))
with_mark_sound side inbox said v cause s = record {
  role = s.role;
  kind = s.kind;
  has_begun = s.has_begun;
  trails = s.trails;
  untaken = λ h. absurd (false≢true h);
  own = s.own;
  no_fault = not_faulty cause;
}

marked_sound : (side : Side) (inbox : List Message) (said : List Said) (v : Transcript) (cause : Cause) → SoundView side inbox said v → SoundView side inbox said (marked v (mark_of cause))
marked_sound side inbox said v cause s = by_test (is_going v) where
  by_test : (b : Bool) → SoundView side inbox said (cond b (with_mark v (mark_of cause)) v)
  by_test true = with_mark_sound side inbox said v cause s
  by_test false = s

-- a side says a message, and the talk goes on
spoke_sound : (t : Talk) (side : Side) (m : Message) (stage : Stage) → SoundTalk t → IsLegal (strip (says side m ∷ t.said)) → gave_up side t.said ≡ false → AtInvalid t.said m
    → SoundStage side (party t side).inbox (says side m ∷ t.said) stage → SoundTalk (spoke t side m stage)
spoke_sound t side m stage s l c o n =
    sound_talk_of side (says side m ∷ t.said) (in_stage (party t side) stage) (handed (party t (other side)) m) l (said_numbered side m t.said s.last c l o) n
    (other_said side t.said m (party t (other side)) (sound_party t (other side) s))

requests_sound : (t : Talk) (now timeout session : ℕ) (o : Objective) (stage : Stage) → SoundTalk t → SoundStage Near t.near.inbox t.said stage → SoundTalk (requests t now timeout session o stage)
requests_sound t now timeout session o Absent s n =
    let st : IsStill Near [] = inl refl in
    let w : [] ≡ strip t.said = untaken_whole Near t.near.inbox t.said [] s.legal n.untaken st in
    let m : Message = ReqNeg session o in
    let u : Untaken Near t.near.inbox (says Near (ReqNeg session o) ∷ t.said) (says Near (ReqNeg session o) ∷ []) = own_untaken Near t.near.inbox t.said [] (ReqNeg session o) s.legal n.untaken st refl in
    spoke_sound t Near (ReqNeg session o) (Present (opening Negotiation Near timeout now session o)) s (own_legal Near t.said [] (ReqNeg session o) s.legal w refl (refl, refl)) n.untaken.calm tt
    (record {
      role = refl;
      kind = refl;
      has_begun = refl;
      trails = trails_eq Near (says Near (ReqNeg session o) ∷ []) (says Near (ReqNeg session o) ∷ strip t.said) (ap (λ (c : List Said). says Near (ReqNeg session o) ∷ c) w);
      untaken = λ _. u;
      own = ap (λ (ms : List Message). ReqNeg session o ∷ ms) n.own;
      no_fault = λ e. cc;
    })
requests_sound t now timeout session o Refused s n = s
requests_sound t now timeout session o (Present v) s n = s

opens_at_sound : (t : Talk) (now timeout : ℕ) (inbox : List Message) → SoundTalk t → SoundAbsent Far inbox t.said → SoundTalk (opens_at t now timeout inbox)
opens_at_sound t now timeout (ReqNeg session o ∷ left) s a =
    sound_talk_of Far t.said (having_taken t.far (ReqNeg session o) left (Present (opening Negotiation Far timeout now session o))) t.near s.legal s.last
    (record {
      role = refl;
      kind = refl;
      has_begun = refl;
      trails = subst (Trails Far (says Near (ReqNeg session o) ∷ [])) (sym a.untaken.ahead) (put_trails Far left (says Near (ReqNeg session o) ∷ []));
      untaken = λ _. record { ahead = a.untaken.ahead; calm = a.untaken.calm };
      own = a.own;
      no_fault = λ e. cc;
    }) s.near
opens_at_sound t now timeout _ s a = s

opens_sound : (t : Talk) (now timeout : ℕ) (stage : Stage) → SoundTalk t → SoundStage Far t.far.inbox t.said stage → SoundTalk (opens t now timeout stage)
opens_sound t now timeout Absent s a = opens_at_sound t now timeout t.far.inbox s a
opens_sound t now timeout Refused s a = s
opens_sound t now timeout (Present v) s a = s

refuses_at_sound : (t : Talk) (reason : Option (List ℕ)) (inbox : List Message) → SoundTalk t → SoundAbsent Far inbox t.said → SoundTalk (refuses_at t reason inbox)
refuses_at_sound t reason (ReqNeg session o ∷ left) s a =
    let v : List Said = says Near (ReqNeg session o) ∷ [] in
    let u : Untaken Far left t.said (says Near (ReqNeg session o) ∷ []) = record { ahead = a.untaken.ahead; calm = a.untaken.calm } in
    let st : IsStill Far (says Near (ReqNeg session o) ∷ []) = inl refl in
    let w : says Near (ReqNeg session o) ∷ [] ≡ strip t.said = untaken_whole Far left t.said (says Near (ReqNeg session o) ∷ []) s.legal u st in
    let m : Message = End session (Decline reason) in
    let l : IsLegal (strip (says Far (End session (Decline reason)) ∷ t.said)) =
    own_legal Far t.said (says Near (ReqNeg session o) ∷ []) (End session (Decline reason)) s.legal w refl (record { has_begun = refl; no_end = refl; in_turn = refl; same_number = refl }) in
    sound_talk_of Far (says Far (End session (Decline reason)) ∷ t.said) (having_taken t.far (ReqNeg session o) left Refused) (handed t.near (End session (Decline reason))) l
    (said_numbered Far (End session (Decline reason)) t.said s.last a.untaken.calm l tt)
    (record { session = session; reason = reason; own = ap (λ (ms : List Message). End session (Decline reason) ∷ ms) a.own })
    (other_said Far t.said (End session (Decline reason)) t.near s.near)
refuses_at_sound t reason _ s a = s

refuses_sound : (t : Talk) (reason : Option (List ℕ)) (stage : Stage) → SoundTalk t → SoundStage Far t.far.inbox t.said stage → SoundTalk (refuses t reason stage)
refuses_sound t reason Absent s a = refuses_at_sound t reason t.far.inbox s a
refuses_sound t reason Refused s a = s
refuses_sound t reason (Present v) s a = s

-- an end says what it may
says_fine_sound : (t : Talk) (side : Side) (now : ℕ) (m : Message) (v : Transcript) → SoundTalk t → SoundView side (party t side).inbox t.said v → is_going v ≡ true
    → AtInvalid t.said m → (is_invalid m ≡ true) ⊎ Allowed v m → SoundTalk (spoke t side m (Present (with_sent v now m)))
says_fine_sound t side now m v s n g o (inl e) =
    spoke_sound t side m (Present (with_sent v now m)) s (subst IsLegal (sym (invalid_strip side t.said m e)) s.legal) (n.untaken g).calm o
    (gave_up_sound side (party t side).inbox t.said v now m n e)
says_fine_sound t side now m v s n g o (inr a) =
    let w : known v ≡ strip t.said = untaken_whole side (party t side).inbox t.said (known v) s.legal (n.untaken g) (inl (a.own_turn ∙ n.role)) in
    let f : MayFollow (known v) (says side m) = subst (λ r. MayFollow (known v) (says r m)) n.role a.follows in
    spoke_sound t side m (Present (with_sent v now m)) s (own_legal side t.said (known v) m s.legal w a.plain f) (n.untaken g).calm o
    (sent_sound side (party t side).inbox t.said v now m s.legal n g a)

said_number : (t : Talk) (side : Side) (v : Transcript) (sg : Saying) → SoundTalk t → SoundView side (party t side).inbox t.said v → AtInvalid t.said (message_of v sg)
said_number t side v (SayInvalid detail) s n = (trails_begun side (known v) (strip t.said) n.trails n.has_begun, (trails_request side (known v) (strip t.said) s.legal n.trails n.has_begun).0)
said_number t side v _ s n = tt

says_checked_sound : (t : Talk) (side : Side) (now : ℕ) (sg : Saying) (v : Transcript) (c : Option SessionRefused) → SoundTalk t → SoundView side (party t side).inbox t.said v → refusal v (act_of sg) ≡ c → SoundTalk (says_checked t side now sg v c)
says_checked_sound t side now sg v None s n e =
    let k = checked v sg n.has_begun e in
    says_fine_sound t side now (message_of v sg) v s n k.0 (said_number t side v sg s n) k.1
says_checked_sound t side now sg v (Some refused) s n e = s

says_at_sound : (t : Talk) (side : Side) (now : ℕ) (sg : Saying) (stage : Stage) → SoundTalk t → SoundStage side (party t side).inbox t.said stage → SoundTalk (says_at t side now sg stage)
says_at_sound t side now sg Absent s n = s
says_at_sound t side now sg Refused s n = s
says_at_sound t side now sg (Present v) s n = says_checked_sound t side now sg v (refusal v (act_of sg)) s n refl

-- an end takes the next message
hears_next_sound : (t : Talk) (side : Side) (now : ℕ) (stage : Stage) (inbox : List Message) → SoundTalk t → SoundStage side inbox t.said stage → SoundTalk (hears_next t side now stage inbox)
hears_next_sound t side now stage [] s n = s
hears_next_sound t side now Absent (m ∷ left) s n = s
hears_next_sound t side now Refused (m ∷ left) s n = sound_talk_of side t.said (having_taken (party t side) m left Refused) (party t (other side)) s.legal s.last n (sound_party t (other side) s)
hears_next_sound t side now (Present v) (m ∷ left) s n =
    sound_talk_of side t.said (having_taken (party t side) m left (Present (after_heard v now m (receive v m)))) (party t (other side)) s.legal s.last
    (heard_sound side left t.said v now m s.legal n) (sound_party t (other side) s)

marks_at_sound : (t : Talk) (side : Side) (cause : Cause) (stage : Stage) → SoundTalk t → SoundStage side (party t side).inbox t.said stage → SoundTalk (marks_at t side cause stage)
marks_at_sound t side cause Absent s n = s
marks_at_sound t side cause Refused s n = s
marks_at_sound t side cause (Present v) s n =
    sound_talk_of side t.said (in_stage (party t side) (Present (marked v (mark_of cause)))) (party t (other side)) s.legal s.last
    (marked_sound side (party t side).inbox t.said v cause n) (sound_party t (other side) s)

pub moved_sound : (t : Talk) (m : Move) → SoundTalk t → SoundTalk (moved t m)
moved_sound t (Requests now timeout session o) s = requests_sound t now timeout session o t.near.stage s s.near
moved_sound t (OpensFar now timeout) s = opens_sound t now timeout t.far.stage s s.far
moved_sound t (RefusesFar reason) s = refuses_sound t reason t.far.stage s s.far
moved_sound t (Says side now sg) s = says_at_sound t side now sg (party t side).stage s (sound_party t side s)
moved_sound t (Hears side now) s = hears_next_sound t side now (party t side).stage (party t side).inbox s (sound_party t side s)
moved_sound t (Marks side cause) s = marks_at_sound t side cause (party t side).stage s (sound_party t side s)

pub quiet_sound : SoundTalk quiet
quiet_sound = record {
  legal = tt;
  last = record { last = tt; opened = refl; numbered = tt };
  near = record { untaken = record { ahead = refl; calm = refl }; own = refl };
  far = record { untaken = record { ahead = refl; calm = refl }; own = refl };
}

pub run_sound : (t : Talk) (ms : List Move) → SoundTalk t → SoundTalk (run t ms)
run_sound t [] s = s
run_sound t (m ∷ ms) s = run_sound (moved t m) ms (moved_sound t m s)
