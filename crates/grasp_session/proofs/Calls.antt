-- What each call does to the sessions that a table keeps.
use Rattle.std.proofs.Common.{◌≡◌, ℕ, zero, suc, ◌+◌, ◌<◌, Bool, true, false, cond, not, ◌&&◌, List, Option, Some, None, Result, Ok, Err, is_some, is_none, IfOk, OnErr, IfSome, Bor, count_by, slice_set, nat_lt, nat_le, ◌==◌, bytes_eq, if◌then◌else◌, refl, sym, ap, ◌∙◌, subst, arith}
use Rattle.std.proofs.lemmas.Bool.{false≢true, true≢false, and_parts, cond-true, cond-false, eq-eqb, eqb-true}
use Rattle.std.specs.List.{position}
use Rattle.std.proofs.lemmas.List.{length-set}
use Rattle.grasp_cbor.proofs.Facts.Options.{is_none_is}
use Rattle.grasp_types.specs.declared.message.Message.{Message}
use Rattle.grasp_types.specs.declared.message.Verdict.{Verdict}
use Rattle.grasp_types.specs.declared.objective.Objective.{Objective}
use Rattle.grasp_types.specs.declared.session.Handle.{Handle}
use Rattle.grasp_types.specs.declared.session.Outcome.{Outcome}
use Rattle.grasp_types.specs.declared.session.Progress.TheVariants.{NotYet, Turn, Ended}
use Rattle.grasp_session.specs.declared.answer.Act.{Act}
use Rattle.grasp_session.specs.declared.answer.Act.TheVariants as act
use Rattle.grasp_session.specs.declared.answer.Received.{Received}
use Rattle.grasp_session.specs.declared.answer.Received.TheVariants.{Kept, Ignored, Bad}
use Rattle.grasp_session.specs.declared.answer.SessionRefused.{SessionRefused}
use Rattle.grasp_session.specs.declared.answer.SessionRefused.TheVariants.{SessionsFull, NoSession, NotYourTurn, LoopsSpent, WaitsSpent}
use Rattle.grasp_session.specs.declared.begin.Begin.{Begin}
use Rattle.grasp_session.specs.declared.session.Session.{Session}
use Rattle.grasp_session.specs.declared.table.Table.{Table}
use Rattle.grasp_session.specs.declared.wanted.Wanted.TheVariants.{OnStream, Due, Untaken, UntakenAbove}
use Rattle.grasp_session.specs.Transcript.{Mark, Expired, Saying, SayEnd, message_of, having_said, receive, after_received, with_mark, is_going, is_mine, outcome_of, peer_offer, last_offer, session_of}
use Rattle.grasp_session.specs.declared.session.Ending.{Ending}
use Rattle.grasp_session.specs.Keeps.{Keeps, refusal_in, leaves_in, offer_in, ending_of, ended_with}
use Rattle.grasp_session.specs.Sessions.{SessionState, Sessions, with_transcript, with_owner, begun_state, if_owner, if_refused, session_at, session_owned, on_stream, due, stream_of, with_place, left, is_leaving, changed, live_count, is_full, start_reply, after_start, MayRefuse, say_reply, after_say, receive_reply, after_receive, poll_reply, IsTurn, MayPoll, after_poll, mark_at, after_mark, expire_reply, after_expire, state_reply, stream_reply, session_reply, last_reply, adopt_reply, after_adopt, after_remove}
use Rattle.grasp_session.specs.Stands.{Stands, kept_at, kept_owned, answer_in, check_answer, state_at, state_answer, oldest_in, fits_at, full_in, settled, IsUntaken, owner_in}
use Rattle.grasp_session.proofs.Facts.{end_leaves}
use Rattle.grasp_session.proofs.Tables.{zip_count, place_same, zip_set, Found, find, oldest_stands, put_back, put_stands, back_stands, left_stands, settled_stands, reply_at, say_stands}

-- what has an answer in every case
pub if_ok_map : {A E : Type 0} (P Q : A → Type 0) (r : Result A E) → ((a : A) → P a → Q a) → IfOk r P → IfOk r Q
if_ok_map P Q (Ok a) f p = f a p
if_ok_map P Q (Err e) f p = tt

pub on_err_map : {A E : Type 0} (P Q : Type 0) (r : Result A E) → (P → Q) → OnErr r P → OnErr r Q
on_err_map P Q (Ok a) f p = tt
on_err_map P Q (Err e) f p = f p

pub some_none : {A : Type 0} (o : Option A) → is_some o ≡ true → is_none o ≡ false
some_none None e = absurd (false≢true e)
some_none (Some x) e = refl

pub not_some_none : {A : Type 0} (o : Option A) → is_some o ≡ false → is_none o ≡ true
not_some_none None e = refl
not_some_none (Some x) e = absurd (true≢false e)

some_not_none : {A : Type 0} (o : Option A) → is_some o ≡ not (is_none o)
some_not_none None = refl
some_not_none (Some x) = refl

-- a refusal of an act
pub refused_may : (s : Session) (a : Act) (refused : SessionRefused) → Some refused ≡ refusal_in s a → MayRefuse a refused
refused_may s act.Step refused e = by_test (is_none s.ending && s.my_turn) (nat_lt 1 (offer_in s).loops) e where
  by_test : (b c : Bool) → Some refused ≡ cond b (cond c None (Some LoopsSpent)) (Some NotYourTurn) → MayRefuse act.Step refused
  by_test true true f = absurd (cc)
  by_test true false f = let same : LoopsSpent ≡ refused = cc in subst (MayRefuse act.Step) same tt
  by_test false c f = let same : NotYourTurn ≡ refused = cc in subst (MayRefuse act.Step) same tt
refused_may s act.Wait refused e = by_test (is_none s.ending && s.my_turn) (nat_lt s.waits 4) e where
  by_test : (b c : Bool) → Some refused ≡ cond b (cond c None (Some WaitsSpent)) (Some NotYourTurn) → MayRefuse act.Wait refused
  by_test true true f = absurd (cc)
  by_test true false f = let same : WaitsSpent ≡ refused = cc in subst (MayRefuse act.Wait) same tt
  by_test false c f = let same : NotYourTurn ≡ refused = cc in subst (MayRefuse act.Wait) same tt
refused_may s act.End refused e = by_test (is_none s.ending && s.my_turn) e where
  by_test : (b : Bool) → Some refused ≡ cond b None (Some NotYourTurn) → MayRefuse act.End refused
  by_test true f = absurd (cc)
  by_test false f = let same : NotYourTurn ≡ refused = cc in subst (MayRefuse act.End) same tt
refused_may s act.Invalid refused e = by_test (is_none s.ending) e where
  by_test : (b : Bool) → Some refused ≡ cond b None (Some NotYourTurn) → MayRefuse act.Invalid refused
  by_test true f = absurd (cc)
  by_test false f = let same : NotYourTurn ≡ refused = cc in subst (MayRefuse act.Invalid) same tt

-- the step and the end that find no memory
going_refusal : (s : Session) (a : Act) → if_refused (refusal_in s a) ≡ Ok tt → is_none s.ending ≡ true
going_refusal s act.Step e = by_test (is_none s.ending) s.my_turn refl e where
  by_test : (b m : Bool) → is_none s.ending ≡ b → if_refused (cond (b && m) (cond (nat_lt 1 (offer_in s).loops) None (Some LoopsSpent)) (Some NotYourTurn)) ≡ Ok tt → is_none s.ending ≡ true
  by_test true m f g = f
  by_test false m f g = absurd (cc)
going_refusal s act.Wait e = by_test (is_none s.ending) s.my_turn refl e where
  by_test : (b m : Bool) → is_none s.ending ≡ b → if_refused (cond (b && m) (cond (nat_lt s.waits 4) None (Some WaitsSpent)) (Some NotYourTurn)) ≡ Ok tt → is_none s.ending ≡ true
  by_test true m f g = f
  by_test false m f g = absurd (cc)
going_refusal s act.End e = by_test (is_none s.ending) s.my_turn refl e where
  by_test : (b m : Bool) → is_none s.ending ≡ b → if_refused (cond (b && m) None (Some NotYourTurn)) ≡ Ok tt → is_none s.ending ≡ true
  by_test true m f g = f
  by_test false m f g = absurd (cc)
going_refusal s act.Invalid e = by_test (is_none s.ending) refl e where
  by_test : (b : Bool) → is_none s.ending ≡ b → if_refused (cond b None (Some NotYourTurn)) ≡ Ok tt → is_none s.ending ≡ true
  by_test true f g = f
  by_test false f g = absurd (cc)

going_answer : (owner : ℕ) (a : Act) (s : Session) → answer_in a (if_owner (λ r. r.owner) owner (Some s)) ≡ Ok tt → is_none s.ending ≡ true
going_answer owner a s e = by_test (s.owner == owner) e where
  by_test : (b : Bool) → answer_in a (cond b (Some s) None) ≡ Ok tt → is_none s.ending ≡ true
  by_test true f = going_refusal s a f
  by_test false f = absurd (cc)

pub going_checked : (t : Table) (owner : ℕ) (h : Handle) (a : Act) (s : Session) → check_answer t owner h a ≡ Ok tt → kept_at t.places h ≡ Some s → is_none s.ending ≡ true
going_checked t owner h a s e k = going_answer owner a s (subst (λ o. answer_in a (if_owner (λ r. r.owner) owner o) ≡ Ok tt) k e)

stays_settled : (l : List (Option Session)) (p : ℕ) (s : Session) → is_none s.ending ≡ true → settled l p s ≡ slice_set l p (Some s)
stays_settled l p s e = cond-false (leaves_in s) l (slice_set l p (Some s)) (not_leaving (s.owner == 0)) where
  not_leaving : (b : Bool) → b && not (is_none s.ending) ≡ false
  not_leaving true = ap not e
  not_leaving false = refl

pub same_stands : (t u v : Table) (z : Sessions) (h : Handle) (s r : Session) → Stands t z → kept_at t.places h ≡ Some s → is_none s.ending ≡ true → r ≡ s
    → u ≡ record t { places = slice_set t.places h.place None } → v ≡ record u { places = settled u.places h.place r } → Stands v z
same_stands t u v z h s r st e g same a b = by_found (find t z h s st e) where
  by_found : Found z h s → Stands v z
  by_found q =
      let back : Stands (put_back t h (slice_set (slice_set t.places h.place None) h.place (Some s))) z = back_stands t z h s q.state st q.is q.keeps in
      rw (b, a, same, stays_settled (slice_set t.places h.place None) h.place s g) back

-- the step and the end that are said
pub say_ok : (t u v : Table) (z : Sessions) (h : Handle) (now : ℕ) (saying : Saying) (s r : Session) (m : Message) → kept_at t.places h ≡ Some s
    → u ≡ record t { places = slice_set t.places h.place None } → v ≡ record u { places = settled u.places h.place r }
    → ((x : SessionState) → Keeps s x → (m ≡ message_of x.view saying) × Keeps r (with_transcript x (having_said x.view now saying)))
    → Stands t z → (m ≡ say_reply z h saying) × Stands v (after_say z now h saying)
say_ok t u v z h now saying s r m e a b f st = say_stands t u v z h now saying s r m st e f a b

-- what a session that is kept would say
pub message_is : (t : Table) (z : Sessions) (h : Handle) (saying : Saying) (s : Session) (m : Message) → Some s ≡ kept_at t.places h → ((x : SessionState) → Keeps s x → m ≡ message_of x.view saying) → Stands t z → m ≡ say_reply z h saying
message_is t z h saying s m e f st = by_found (find t z h s st (sym e)) where
  by_found : Found z h s → m ≡ say_reply z h saying
  by_found q = rw q.is (f q.state q.keeps)

-- the end of a session that no agent has taken
checked_owner : (t : Table) (owner : ℕ) (h : Handle) (a : Act) (s : Session) → check_answer t owner h a ≡ Ok tt → kept_at t.places h ≡ Some s → s.owner ≡ owner
checked_owner t owner h a s e k = by_test (s.owner == owner) refl (subst (λ o. answer_in a (if_owner (λ r. r.owner) owner o) ≡ Ok tt) k e) where
  by_test : (b : Bool) → s.owner == owner ≡ b → answer_in a (cond b (Some s) None) ≡ Ok tt → s.owner ≡ owner
  by_test true f g = eqb-true s.owner owner f
  by_test false f g = absurd (cc)

-- an end, which is kept where an agent has taken the session
pub end_done : (t u v : Table) (z : Sessions) (h : Handle) (now owner : ℕ) (verdict : Verdict) (ending : Ending) (s r : Session) (m : Message) → Stands t z → check_answer t owner h act.End ≡ Ok tt → kept_at t.places h ≡ Some s
    → (0 < owner → ending ≡ ending_of verdict)
    → ((x : SessionState) → Keeps s x → m ≡ message_of x.view (SayEnd verdict))
    → ((x : SessionState) → ending ≡ ending_of verdict → Keeps s x → Keeps r (with_transcript x (having_said x.view now (SayEnd verdict))))
    → leaves_in r ≡ (s.owner == 0) → u ≡ record t { places = slice_set t.places h.place None } → v ≡ record u { places = settled u.places h.place r }
    → (m ≡ say_reply z h (SayEnd verdict)) × Stands v (after_say z now h (SayEnd verdict))
end_done t u v z h now owner verdict ending s r m st allowed e kept says keeps over a b = by_found (find t z h s st e) where
  own : s.owner ≡ owner
  own = checked_owner t owner h act.End s allowed e

  untaken : Found z h s → owner ≡ 0 → (m ≡ say_reply z h (SayEnd verdict)) × Stands v (after_say z now h (SayEnd verdict))
  untaken q none =
      let left_it : is_leaving (with_transcript q.state (having_said q.state.view now (SayEnd verdict))) ≡ true = end_leaves q.state now verdict (sym q.keeps.owner ∙ (own ∙ none)) in
      let gone : leaves_in r ≡ true = over ∙ eq-eqb s.owner 0 (own ∙ none) in
      let back : Stands (put_back t h (slice_set t.places h.place None)) (left z h (with_transcript q.state (having_said q.state.view now (SayEnd verdict)))) = left_stands t z h (with_transcript q.state (having_said q.state.view now (SayEnd verdict))) st in
      (rw q.is (says q.state q.keeps), rw (q.is, left_it, b, gone, a) back)

  by_owner : Found z h s → (n : ℕ) → owner ≡ n → (m ≡ say_reply z h (SayEnd verdict)) × Stands v (after_say z now h (SayEnd verdict))
  by_owner q zero f = untaken q f
  by_owner q (suc n) f = say_ok t u v z h now (SayEnd verdict) s r m e a b (λ x k. (says x k, keeps x (kept (omega (arith, f))) k)) st

  by_found : Found z h s → (m ≡ say_reply z h (SayEnd verdict)) × Stands v (after_say z now h (SayEnd verdict))
  by_found q = by_owner q owner refl

-- a message that comes
stream_found : (t : Table) (z : Sessions) (stream : ℕ) (o : Option Handle) → Stands t z → o ≡ oldest_in (OnStream stream) t.places → on_stream z stream ≡ o
stream_found t z stream o st e = sym (e ∙ oldest_stands (OnStream stream) t z st)

pub receive_none : (t : Table) (z : Sessions) (now stream : ℕ) (m : Message) → Stands t z → None ≡ oldest_in (OnStream stream) t.places → (Ignored ≡ receive_reply z stream m) × Stands t (after_receive z now stream m Ignored)
receive_none t z now stream m st e = (rw (stream_found t z stream None st e) refl, st)

pub receive_kept : (t u v : Table) (z : Sessions) (now stream : ℕ) (m : Message) (h : Handle) (s r : Session) (k : Received) → k ≡ Kept → Stands t z → Some h ≡ oldest_in (OnStream stream) t.places → kept_at t.places h ≡ Some s
    → ((x : SessionState) → Keeps s x → (k ≡ receive x.view m) × Keeps r (with_transcript x (after_received x.view now m k)))
    → u ≡ record t { places = slice_set t.places h.place None } → v ≡ record u { places = settled u.places h.place r }
    → (k ≡ receive_reply z stream m) × Stands v (after_receive z now stream m k)
receive_kept t u v z now stream m h s r k kept st e f g a b = subst (λ j. (j ≡ receive_reply z stream m) × Stands v (after_receive z now stream m j)) (sym kept) (by_found (find t z h s st f)) where
  by_found : Found z h s → (Kept ≡ receive_reply z stream m) × Stands v (after_receive z now stream m Kept)
  by_found q =
      let at : on_stream z stream ≡ Some h = stream_found t z stream (Some h) st e in
      let w = subst (λ k. (k ≡ receive q.state.view m) × Keeps r (with_transcript q.state (after_received q.state.view now m k))) kept (g q.state q.keeps) in
      let back : Stands (put_back t h (settled (slice_set t.places h.place None) h.place r)) (changed z h (with_transcript q.state (after_received q.state.view now m Kept))) = settled_stands t z h r (with_transcript q.state (after_received q.state.view now m Kept)) st w.1 in
      (rw (at, q.is) w.0, rw (at, q.is, b, a) back)

pub receive_left : (t u v : Table) (z : Sessions) (now stream : ℕ) (m : Message) (h : Handle) (s r : Session) (k : Received) → (k ≡ Kept → ⊥) → Stands t z → Some h ≡ oldest_in (OnStream stream) t.places → kept_at t.places h ≡ Some s
    → ((x : SessionState) → Keeps s x → (k ≡ receive x.view m) × Keeps r (with_transcript x (after_received x.view now m k)))
    → u ≡ record t { places = slice_set t.places h.place None } → v ≡ record u { places = slice_set u.places h.place (Some r) }
    → (k ≡ receive_reply z stream m) × Stands v (after_receive z now stream m k)
receive_left t u v z now stream m h s r k other st e f g a b = by_found (find t z h s st f) where
  back : (q : Found z h s) → Keeps r q.state → Stands v z
  back q w =
      let p : Stands (put_back t h (slice_set (slice_set t.places h.place None) h.place (Some r))) z = back_stands t z h r q.state st q.is w in
      rw (b, a) p

  by_received : (q : Found z h s) (k : Received) → (k ≡ Kept → ⊥) → (k ≡ receive q.state.view m) × Keeps r (with_transcript q.state (after_received q.state.view now m k)) → (k ≡ receive q.state.view m) × Stands v (after_receive z now stream m k)
  by_received q Kept n w = absurd (n refl)
  by_received q Ignored n w = (w.0, back q w.1)
  by_received q Bad n w = (w.0, back q w.1)

  by_found : Found z h s → (k ≡ receive_reply z stream m) × Stands v (after_receive z now stream m k)
  by_found q =
      let at : on_stream z stream ≡ Some h = stream_found t z stream (Some h) st e in
      let w = by_received q k other (g q.state q.keeps) in
      (rw (at, q.is) w.0, w.1)

-- a session that ends from outside
pub mark_none : (t : Table) (z : Sessions) (stream : ℕ) (mark : Mark) → Stands t z → None ≡ oldest_in (OnStream stream) t.places → Stands t (after_mark z stream mark)
mark_none t z stream mark st e = rw (stream_found t z stream None st e) st

marks : (t u v : Table) (z : Sessions) (h : Handle) (s r : Session) (mark : Mark) → Stands t z → kept_at t.places h ≡ Some s → is_none s.ending ≡ true
    → ((x : SessionState) → Keeps s x → Keeps r (with_transcript x (with_mark x.view mark)))
    → u ≡ record t { places = slice_set t.places h.place None } → v ≡ record u { places = settled u.places h.place r } → Stands v (mark_at z mark (Some h))
marks t u v z h s r mark st f n g a b = by_found (find t z h s st f) where
  by_found : Found z h s → Stands v (mark_at z mark (Some h))
  by_found q =
      let going : is_going q.state.view ≡ true = sym q.keeps.going ∙ n in
      let back : Stands (put_back t h (settled (slice_set t.places h.place None) h.place r)) (changed z h (with_transcript q.state (with_mark q.state.view mark))) = settled_stands t z h r (with_transcript q.state (with_mark q.state.view mark)) st (g q.state q.keeps) in
      rw (q.is, going, b, a) back

pub mark_done : (t u v : Table) (z : Sessions) (stream : ℕ) (h : Handle) (s r : Session) (mark : Mark) → Stands t z → Some h ≡ oldest_in (OnStream stream) t.places → kept_at t.places h ≡ Some s → is_none s.ending ≡ true
    → ((x : SessionState) → Keeps s x → Keeps r (with_transcript x (with_mark x.view mark)))
    → u ≡ record t { places = slice_set t.places h.place None } → v ≡ record u { places = settled u.places h.place r } → Stands v (after_mark z stream mark)
mark_done t u v z stream h s r mark st e f n g a b = subst (λ o. Stands v (mark_at z mark o)) (sym (stream_found t z stream (Some h) st e)) (marks t u v z h s r mark st f n g a b)

pub mark_over : (t u v : Table) (z : Sessions) (stream : ℕ) (h : Handle) (s : Session) (mark : Mark) → Stands t z → Some h ≡ oldest_in (OnStream stream) t.places → kept_at t.places h ≡ Some s → is_some s.ending ≡ true
    → u ≡ record t { places = slice_set t.places h.place None } → v ≡ record u { places = slice_set u.places h.place (Some s) } → Stands v (after_mark z stream mark)
mark_over t u v z stream h s mark st e f n a b = by_found (find t z h s st f) where
  by_found : Found z h s → Stands v (after_mark z stream mark)
  by_found q =
      let over : is_going q.state.view ≡ false = sym q.keeps.going ∙ some_none s.ending n in
      let back : Stands (put_back t h (slice_set (slice_set t.places h.place None) h.place (Some s))) z = back_stands t z h s q.state st q.is q.keeps in
      rw (stream_found t z stream (Some h) st e, q.is, over, b, a) back

-- the session that is due
due_found : (t : Table) (z : Sessions) (now : ℕ) (o : Option Handle) → Stands t z → o ≡ oldest_in (Due now) t.places → due z now ≡ o
due_found t z now o st e = sym (e ∙ oldest_stands (Due now) t z st)

pub expire_none : (t : Table) (z : Sessions) (now : ℕ) → Stands t z → None ≡ oldest_in (Due now) t.places → (None ≡ expire_reply z now) × Stands t (after_expire z now)
expire_none t z now st e = (rw (due_found t z now None st e) refl, rw (due_found t z now None st e) st)

pub due_going : (now : ℕ) (o : Option Session) (s : Session) → fits_at (Due now) o ≡ true → o ≡ Some s → is_none s.ending ≡ true
due_going now o s f e = let g : fits_at (Due now) (Some s) ≡ true = subst (λ p. fits_at (Due now) p ≡ true) e f in (and_parts (is_none s.ending) (nat_le s.deadline now) g).0

pub expire_done : (t u v : Table) (z : Sessions) (now : ℕ) (h : Handle) (s r : Session) → Stands t z → Some h ≡ oldest_in (Due now) t.places → kept_at t.places h ≡ Some s → is_none s.ending ≡ true
    → ((x : SessionState) → Keeps s x → Keeps r (with_transcript x (with_mark x.view (Expired now))))
    → u ≡ record t { places = slice_set t.places h.place None } → v ≡ record u { places = settled u.places h.place r }
    → (Some s.stream ≡ expire_reply z now) × Stands v (after_expire z now)
expire_done t u v z now h s r st e f n g a b =
    let at : due z now ≡ Some h = due_found t z now (Some h) st e in
    (reply (find t z h s st f) at, subst (λ o. Stands v (mark_at z (Expired now) o)) (sym at) (marks t u v z h s r (Expired now) st f n g a b)) where
      reply : Found z h s → due z now ≡ Some h → Some s.stream ≡ expire_reply z now
      reply q at = rw (at, q.is, q.keeps.stream) refl

-- the look-ups
abbrev stream_in : Option Session → Option ℕ
stream_in None = None
stream_in (Some s) = Some s.stream

pub stream_at : (t : Table) (z : Sessions) (h : Handle) (o : Option Session) → Stands t z → o ≡ kept_at t.places h → stream_in o ≡ stream_reply z h
stream_at t z h o st e = reply_at stream_in stream_of refl (λ s x k. ap (λ (n : ℕ). Some n) k.stream) t z h o st e

abbrev going_state : Option SessionState → Option SessionState
going_state None = None
going_state (Some x) = if is_going x.view then Some x else None

abbrev session_in : Option Session → Option ℕ
session_in None = None
session_in (Some s) = if is_none s.ending then Some s.session else None

abbrev session_state : Option SessionState → Option ℕ
session_state None = None
session_state (Some x) = Some (session_of x.view)

session_same : (s : Session) (x : SessionState) → Keeps s x → session_in (Some s) ≡ session_state (going_state (Some x))
session_same s x k = subst (λ b. session_in (Some s) ≡ session_state (cond b (Some x) None)) k.going (by_test (is_none s.ending)) where
  by_test : (b : Bool) → cond b (Some s.session) None ≡ session_state (cond b (Some x) None)
  by_test true = ap (λ (n : ℕ). Some n) k.session
  by_test false = refl

pub session_is : (t : Table) (z : Sessions) (h : Handle) (o : Option Session) → Stands t z → o ≡ kept_at t.places h → session_in o ≡ session_reply z h
session_is t z h o st e = reply_at session_in (λ o. session_state (going_state o)) refl session_same t z h o st e

abbrev last_in : Option Session → Option Objective
last_in None = None
last_in (Some s) = if is_none s.ending then Some (offer_in s) else None

abbrev last_state : Option SessionState → Option Objective
last_state None = None
last_state (Some x) = Some (last_offer x.view)

last_same : (s : Session) (x : SessionState) → Keeps s x → last_in (Some s) ≡ last_state (going_state (Some x))
last_same s x k = subst (λ b. last_in (Some s) ≡ last_state (cond b (Some x) None)) k.going (by_test (is_none s.ending)) where
  by_test : (b : Bool) → cond b (Some (offer_in s)) None ≡ last_state (cond b (Some x) None)
  by_test true = ap (λ (o : Objective). Some o) k.offer
  by_test false = refl

pub last_is : (t : Table) (z : Sessions) (h : Handle) (o : Option Session) → Stands t z → o ≡ kept_at t.places h → last_in o ≡ last_reply z h
last_is t z h o st e = reply_at last_in (λ o. last_state (going_state o)) refl last_same t z h o st e

pub state_none : (t : Table) (z : Sessions) (stream : ℕ) → Stands t z → None ≡ oldest_in (OnStream stream) t.places → None ≡ state_reply z stream
state_none t z stream st e = rw (stream_found t z stream None st e) refl

pub state_some : (t : Table) (z : Sessions) (stream : ℕ) (h : Handle) (s : Session) → Stands t z → Some h ≡ oldest_in (OnStream stream) t.places → Some s ≡ kept_at t.places h → Some (s.session, is_some s.ending) ≡ state_reply z stream
state_some t z stream h s st e f = by_found (find t z h s st (sym f)) where
  by_found : Found z h s → Some (s.session, is_some s.ending) ≡ state_reply z stream
  by_found q = rw (stream_found t z stream (Some h) st e, q.is, q.keeps.session, some_not_none s.ending, q.keeps.going) refl

pub answer_none : (t : Table) (stream : ℕ) → None ≡ oldest_in (OnStream stream) t.places → None ≡ state_answer t stream
answer_none t stream e = ap (state_at t.places) e

pub answer_some : (t : Table) (stream : ℕ) (h : Handle) (s : Session) → Some h ≡ oldest_in (OnStream stream) t.places → Some s ≡ kept_at t.places h → Some (s.session, is_some s.ending) ≡ state_answer t stream
answer_some t stream h s e f = at_handle ∙ ap (state_at t.places) e where
  at_handle : Some (s.session, is_some s.ending) ≡ state_at t.places (Some h)
  at_handle = rw (sym f) refl

-- how many there are
pub live_is : (t : Table) (z : Sessions) (n : ℕ) → Stands t z → n ≡ count_by is_some t.places → n ≡ live_count z
live_is t z n st e = e ∙ zip_count t.places z.places st.places

pub full_same : (t : Table) (z : Sessions) → Stands t z → full_in t ≡ is_full z
full_same t z st = rw (zip_count t.places z.places st.places, st.made) refl

pub if_some_map : {A : Type 0} (P Q : A → Type 0) (o : Option A) → ((a : A) → P a → Q a) → IfSome o P → IfSome o Q
if_some_map P Q None f p = tt
if_some_map P Q (Some a) f p = f a p

-- a session that no agent has taken
pub untaken_fits : (name : Bor (List ℕ)) (o : Option Session) → fits_at (Untaken name) o ≡ true → owner_in o ≡ Some 0
untaken_fits name None e = absurd (false≢true e)
untaken_fits name (Some s) e = ap (λ (n : ℕ). Some n) (eqb-true s.owner 0 (and_parts (s.owner == 0) (bytes_eq s.request.name name.now) e).0)

pub untaken_above_fits : (name : Bor (List ℕ)) (number : ℕ) (o : Option Session) → fits_at (UntakenAbove name number) o ≡ true → owner_in o ≡ Some 0
untaken_above_fits name number None e = absurd (false≢true e)
untaken_above_fits name number (Some s) e =
    let front = and_parts (nat_lt number s.number && (s.owner == 0)) (bytes_eq s.request.name name.now) e in
    ap (λ (n : ℕ). Some n) (eqb-true s.owner 0 (and_parts (nat_lt number s.number) (s.owner == 0) front.0).1)

-- a session that an agent has not taken
pub untaken_owner : (t : Table) (h : Handle) (s : Session) → IsUntaken t h → kept_at t.places h ≡ Some s → s.owner ≡ 0
untaken_owner t h s u e = some_same s.owner (subst (λ o. owner_in o ≡ Some 0) e u) where
  some_same : (n : ℕ) → Some n ≡ Some 0 → n ≡ 0
  some_same n f = cc

owned_keeps : (s r : Session) (x : SessionState) (owner : ℕ) → r ≡ record s { owner = owner } → Keeps s x → Keeps r (with_owner x owner)
owned_keeps s r x owner e k = subst (λ w. Keeps w (with_owner x owner)) (sym e) (record {
  number = k.number;
  owner = refl;
  stream = k.stream;
  kind = k.kind;
  requester = k.requester;
  timeout = k.timeout;
  session = k.session;
  request = k.request;
  offer = k.offer;
  turn = k.turn;
  waits = k.waits;
  deadline = k.deadline;
  outcome = k.outcome;
  going = k.going;
  theirs = k.theirs;
  mine = k.mine;
  named = k.named;
  flagged = k.flagged;
})

pub adopt_done : (t u v : Table) (z : Sessions) (owner : ℕ) (h : Handle) (s r : Session) (o : Objective) → Stands t z → kept_at t.places h ≡ Some s → r ≡ record s { owner = owner } → o ≡ s.request
    → u ≡ record t { places = slice_set t.places h.place None } → v ≡ record u { places = slice_set u.places h.place (Some r) }
    → (Some o ≡ adopt_reply z h) × Stands v (after_adopt z owner h)
adopt_done t u v z owner h s r o st e same copied a b = by_found (find t z h s st e) where
  by_found : Found z h s → (Some o ≡ adopt_reply z h) × Stands v (after_adopt z owner h)
  by_found q =
      let back : Stands (put_back t h (slice_set (slice_set t.places h.place None) h.place (Some r))) (with_place z h.place (Some (with_owner q.state owner))) = put_stands t z h r (with_owner q.state owner) st (owned_keeps s r q.state owner same q.keeps) in
      (rw (q.is, copied, q.keeps.request) refl, rw (q.is, b, a) back)

pub back_done : (t u v : Table) (z : Sessions) (h : Handle) (s : Session) → Stands t z → kept_at t.places h ≡ Some s
    → u ≡ record t { places = slice_set t.places h.place None } → v ≡ record u { places = slice_set u.places h.place (Some s) } → Stands v z
back_done t u v z h s st e a b = by_found (find t z h s st e) where
  by_found : Found z h s → Stands v z
  by_found q =
      let back : Stands (put_back t h (slice_set (slice_set t.places h.place None) h.place (Some s))) z = back_stands t z h s q.state st q.is q.keeps in
      rw (b, a) back

pub remove_done : (t u : Table) (z : Sessions) (h : Handle) (s : Session) → Stands t z → kept_at t.places h ≡ Some s → u ≡ record t { places = slice_set t.places h.place None } → Stands u (after_remove z h)
remove_done t u z h s st e a = by_found (find t z h s st e) where
  by_found : Found z h s → Stands u (after_remove z h)
  by_found q = let back : Stands (put_back t h (slice_set t.places h.place None)) (left z h q.state) = left_stands t z h q.state st in rw (q.is, a) back

-- poll
owned_at : (t : Table) (z : Sessions) (owner : ℕ) (h : Handle) (s : Session) → Stands t z → Some s ≡ kept_owned t.places owner h → (kept_at t.places h ≡ Some s) × (s.owner == owner ≡ true)
owned_at t z owner h s st e = by_kept (kept_at t.places h) refl e where
  by_kept : (o : Option Session) → kept_at t.places h ≡ o → Some s ≡ if_owner (λ r. r.owner) owner o → (kept_at t.places h ≡ Some s) × (s.owner == owner ≡ true)
  by_kept None f g = absurd (cc)
  by_kept (Some r) f g = by_test (r.owner == owner) refl g where
    by_test : (b : Bool) → r.owner == owner ≡ b → Some s ≡ cond b (Some r) None → (kept_at t.places h ≡ Some s) × (s.owner == owner ≡ true)
    by_test true i j = let same : r ≡ s = cc in (f ∙ ap (λ (w : Session). Some w) same, subst (λ (w : Session). w.owner == owner ≡ true) same i)
    by_test false i j = absurd (cc)

-- a session of this owner that is kept
pub record Owned (z : Sessions) (owner : ℕ) (h : Handle) (s : Session) : Type 0 where
  pub state : SessionState
  pub is : session_at z h ≡ Some state
  pub owned : session_owned z owner h ≡ Some state
  pub keeps : Keeps s state

pub find_owned : (t : Table) (z : Sessions) (owner : ℕ) (h : Handle) (s : Session) → Stands t z → Some s ≡ kept_owned t.places owner h → Owned z owner h s
find_owned t z owner h s st e = by_at (owned_at t z owner h s st e) where
  by_found : s.owner == owner ≡ true → Found z h s → Owned z owner h s
  by_found o q = record {
    state = q.state;
    is = q.is;
    owned = ap (if_owner (λ x. x.owner) owner) q.is ∙ cond-true (q.state.owner == owner) (Some q.state) None (subst (λ n. n == owner ≡ true) q.keeps.owner o);
    keeps = q.keeps;
  }

  by_at : (kept_at t.places h ≡ Some s) × (s.owner == owner ≡ true) → Owned z owner h s
  by_at p = by_found p.1 (find t z h s st p.0)

owner_none : (owner : ℕ) (s : Session) (x : SessionState) → Keeps s x → is_none (if_owner (λ r. r.owner) owner (Some s)) ≡ is_none (if_owner (λ r. r.owner) owner (Some x))
owner_none owner s x k = subst (λ n. is_none (if_owner (λ r. r.owner) owner (Some s)) ≡ is_none (cond (n == owner) (Some x) None)) k.owner (by_test (s.owner == owner)) where
  by_test : (b : Bool) → is_none (cond b (Some s) None) ≡ is_none (cond b (Some x) None)
  by_test true = refl
  by_test false = refl

pub poll_none : (t : Table) (z : Sessions) (owner : ℕ) (h : Handle) → Stands t z → None ≡ kept_owned t.places owner h → MayPoll z owner h (Err NoSession) × Stands t (after_poll z h (Err NoSession))
poll_none t z owner h st e =
    let n : is_none (kept_owned t.places owner h) ≡ is_none (session_owned z owner h) = reply_at (λ o. is_none (if_owner (λ r. r.owner) owner o)) (λ o. is_none (if_owner (λ r. r.owner) owner o)) refl (owner_none owner) t z h (kept_at t.places h) st refl in
    let none : session_owned z owner h ≡ None = is_none_is (session_owned z owner h) (sym n ∙ sym (ap is_none e)) in
    (rw none refl, st)

-- without an outcome there is a turn or none yet
going_outcome : (s : Session) (x : SessionState) → Keeps s x → is_none s.ending ≡ true → outcome_of x.view ≡ None
going_outcome s x k e = sym k.outcome ∙ ap (ended_with (offer_in s)) (is_none_is s.ending e)

pub poll_not_yet : (t : Table) (z : Sessions) (owner : ℕ) (h : Handle) (s : Session) → Stands t z → Some s ≡ kept_owned t.places owner h → is_none s.ending ≡ true → s.my_turn ≡ false
    → MayPoll z owner h (Ok NotYet) × Stands t (after_poll z h (Ok NotYet))
poll_not_yet t z owner h s st e n f = by_owned (find_owned t z owner h s st e) where
  by_owned : Owned z owner h s → MayPoll z owner h (Ok NotYet) × Stands t (after_poll z h (Ok NotYet))
  by_owned q = (rw (q.owned, going_outcome s q.state q.keeps n, sym q.keeps.turn ∙ f) refl, st)

pub poll_turn : (t : Table) (z : Sessions) (owner : ℕ) (h : Handle) (s : Session) (o : Objective) → Stands t z → Some s ≡ kept_owned t.places owner h → is_none s.ending ≡ true → s.my_turn ≡ true → o ≡ offer_in s
    → MayPoll z owner h (Ok (Turn o)) × Stands t (after_poll z h (Ok (Turn o)))
poll_turn t z owner h s o st e n f g = by_owned (find_owned t z owner h s st e) where
  by_owned : Owned z owner h s → MayPoll z owner h (Ok (Turn o)) × Stands t (after_poll z h (Ok (Turn o)))
  by_owned q =
      let mine : is_mine q.state.view ≡ true = sym q.keeps.turn ∙ f in
      let same : o ≡ peer_offer q.state.view = g ∙ (q.keeps.offer ∙ sym (q.keeps.theirs mine)) in
      (rw (q.owned, going_outcome s q.state q.keeps n, mine, same) refl, st)

pub poll_starved : (t : Table) (z : Sessions) (owner : ℕ) (h : Handle) (s : Session) → Stands t z → Some s ≡ kept_owned t.places owner h → is_none s.ending ≡ true → s.my_turn ≡ true
    → MayPoll z owner h (Err Rattle.grasp_session.specs.declared.answer.SessionRefused.TheVariants.OutOfMemory) × Stands t (after_poll z h (Err Rattle.grasp_session.specs.declared.answer.SessionRefused.TheVariants.OutOfMemory))
poll_starved t z owner h s st e n f = by_owned (find_owned t z owner h s st e) where
  by_owned : Owned z owner h s → IsTurn (poll_reply z owner h) × Stands t z
  by_owned q = let mine : is_mine q.state.view ≡ true = sym q.keeps.turn ∙ f in (rw (q.owned, going_outcome s q.state q.keeps n, mine) tt, st)

pub poll_ended : (t u : Table) (z : Sessions) (owner : ℕ) (h : Handle) (s r : Session) (o : Outcome) → Stands t z → Some s ≡ kept_owned t.places owner h → kept_at t.places h ≡ Some r → Some o ≡ ended_with (offer_in r) r.ending
    → u ≡ record t { places = slice_set t.places h.place None } → MayPoll z owner h (Ok (Ended o)) × Stands u (after_poll z h (Ok (Ended o)))
poll_ended t u z owner h s r o st e f g a = by_owned (find_owned t z owner h s st e) (find t z h r st f) where
  same_state : (q : Owned z owner h s) (w : Found z h r) → q.state ≡ w.state
  same_state q w = let twice : Some q.state ≡ Some w.state = sym q.is ∙ w.is in cc

  by_owned : Owned z owner h s → Found z h r → MayPoll z owner h (Ok (Ended o)) × Stands u (after_poll z h (Ok (Ended o)))
  by_owned q w =
      let over : outcome_of q.state.view ≡ Some o = ap (λ (x : SessionState). outcome_of x.view) (same_state q w) ∙ (sym w.keeps.outcome ∙ sym g) in
      let back : Stands (put_back t h (slice_set t.places h.place None)) (left z h q.state) = left_stands t z h q.state st in
      (rw (q.owned, over) refl, rw (q.is, a) back)

-- start
pub start_full : (t : Table) (z : Sessions) (now : ℕ) (begin : Begin) → Stands t z → full_in t ≡ true → (Err SessionsFull ≡ start_reply z) × Stands t (after_start z now begin (Err SessionsFull))
start_full t z now begin st e = (rw (sym (full_same t z st) ∙ e) refl, st)

pub start_none : (t : Table) (z : Sessions) (now : ℕ) (begin : Begin) → Stands t z → full_in t ≡ false → None ≡ position is_none t.places
    → (Err SessionsFull ≡ start_reply z) × Stands t (after_start z now begin (Err SessionsFull))
start_none t z now begin st e p = (rw (sym (full_same t z st) ∙ e, sym (place_same t z st) ∙ sym p) refl, st)

pub start_done : (t v : Table) (z : Sessions) (now place : ℕ) (begin : Begin) (s : Session) → Stands t z → full_in t ≡ false → Some place ≡ position is_none t.places → Keeps s (begun_state now (t.made + 1) begin)
    → v ≡ record { made = t.made + 1; places = slice_set t.places place (Some s) }
    → (Ok (record { place = place; number = t.made + 1 }) ≡ start_reply z) × Stands v (after_start z now begin (Ok (record { place = place; number = t.made + 1 })))
start_done t v z now place begin s st e p k b = (rw (sym (full_same t z st) ∙ e, sym (place_same t z st) ∙ sym p) (ap handle st.made), rw b new) where
  handle : ℕ → Result Handle SessionRefused
  handle n = Ok (record { place = place; number = n + 1 })

  new : Stands (record { made = t.made + 1; places = slice_set t.places place (Some s) }) (record { made = t.made + 1; places = slice_set z.places place (Some (begun_state now (t.made + 1) begin)); gone = z.gone })
  new = record { made = refl; long = length-set t.places place (Some s) ∙ st.long; places = zip_set t.places z.places st.places place (Some s) (Some (begun_state now (t.made + 1) begin)) k }
