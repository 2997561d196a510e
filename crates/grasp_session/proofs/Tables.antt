-- What a table keeps of its sessions, place by place.
use Rattle.std.proofs.Common.{◌≡◌, ℕ, zero, suc, ◌+◌, ◌<◌, ◌≤◌, Bool, true, false, cond, ◌&&◌, List, [], ◌∷◌, length, Option, Some, None, Result, Err, is_some, is_none, count_by, slice_index_or, slice_set, nat_lt, nat_le, ◌==◌, bytes_eq, refl, sym, ap, ◌∙◌, subst, arith}
use Rattle.std.proofs.lemmas.Bool.{cond-true, cond-false, ltb-false}
use Rattle.std.proofs.lemmas.List.{set-get_or, length-set, get_or_past}
use Rattle.std.proofs.lemmas.List.Sums.{sum_by-cons}
use Rattle.std.specs.List.{AllZip, position, position_or_len}
use Rattle.grasp_types.specs.declared.session.Handle.{Handle}
use Rattle.grasp_session.specs.declared.answer.Act.{Act}
use Rattle.grasp_session.specs.declared.answer.Act.TheVariants as act
use Rattle.grasp_session.specs.declared.answer.SessionRefused.{SessionRefused}
use Rattle.grasp_types.specs.declared.message.Message.{Message}
use Rattle.grasp_session.specs.declared.answer.SessionRefused.TheVariants.{NoSession}
use Rattle.grasp_session.specs.declared.session.Session.{Session}
use Rattle.grasp_session.specs.declared.table.Table.{Table}
use Rattle.grasp_session.specs.declared.wanted.Wanted.{Wanted}
use Rattle.grasp_session.specs.declared.wanted.Wanted.TheVariants.{OnStream, Due, Untaken, UntakenAbove, OwnedBy, Requested}
use Rattle.grasp_session.specs.Messages.{Near, is_side}
use Rattle.grasp_session.specs.Transcript.{Saying, message_of, having_said, refusal, is_going, deadline_of, request_of, session_of}
use Rattle.grasp_session.specs.Keeps.{Keeps, refusal_in, leaves_in}
use Rattle.grasp_session.specs.Sessions.{SessionState, Sessions, if_number, if_owner, older, oldest_from, oldest, session_at, if_refused, check_reply, is_leaving, empty_place, with_place, left, changed, with_transcript, say_reply, after_say}
use Rattle.grasp_session.specs.Stands.{Stands, StandsAt, kept_at, answer_in, check_answer, fits_in, oldest_in, settled}

abbrev pub slot : {A : Type 0} → List (Option A) → ℕ → Option A
slot l p = slice_index_or l p None

-- one place
pub zip_slot : (l : List (Option Session)) (k : List (Option SessionState)) → AllZip StandsAt l k → (p : ℕ) → StandsAt (slot l p) (slot k p)
zip_slot [] [] h p = tt
zip_slot [] (y ∷ ys) h p = absurd h
zip_slot (x ∷ xs) [] h p = absurd h
zip_slot (x ∷ xs) (y ∷ ys) h zero = h.0
zip_slot (x ∷ xs) (y ∷ ys) h (suc p) = zip_slot xs ys h.1 p

pub zip_set : (l : List (Option Session)) (k : List (Option SessionState)) → AllZip StandsAt l k → (p : ℕ) (s : Option Session) (x : Option SessionState) → StandsAt s x → AllZip StandsAt (slice_set l p s) (slice_set k p x)
zip_set [] [] h p s x e = tt
zip_set [] (b ∷ bs) h p s x e = absurd h
zip_set (a ∷ xs) [] h p s x e = absurd h
zip_set (a ∷ xs) (b ∷ bs) h zero s x e = (e, h.1)
zip_set (a ∷ xs) (b ∷ bs) h (suc p) s x e = (h.0, zip_set xs bs h.1 p s x e)

pub zip_length : (l : List (Option Session)) (k : List (Option SessionState)) → AllZip StandsAt l k → length l ≡ length k
zip_length [] [] h = refl
zip_length [] (b ∷ bs) h = absurd h
zip_length (a ∷ xs) [] h = absurd h
zip_length (a ∷ xs) (b ∷ bs) h = ap suc (zip_length xs bs h.1)

same_some : (s : Option Session) (x : Option SessionState) → StandsAt s x → is_some s ≡ is_some x
same_some None None h = refl
same_some None (Some x) h = absurd h
same_some (Some s) None h = absurd h
same_some (Some s) (Some x) h = refl

pub zip_count : (l : List (Option Session)) (k : List (Option SessionState)) → AllZip StandsAt l k → count_by is_some l ≡ count_by is_some k
zip_count [] [] h = refl
zip_count [] (b ∷ bs) h = absurd h
zip_count (a ∷ xs) [] h = absurd h
zip_count (a ∷ xs) (b ∷ bs) h =
    let m = sum_by-cons (λ (x : Option Session). cond (is_some x) 1 0) a xs in
    let n = sum_by-cons (λ (x : Option SessionState). cond (is_some x) 1 0) b bs in
    let i = zip_count xs bs h.1 in
    let z : cond {A = ℕ} (is_some a) 1 0 ≡ cond (is_some b) 1 0 = ap (λ c. cond c 1 0) (same_some a b h.0) in omega (arith, m, n, i, z)

-- the least empty place
none_same : (s : Option Session) (x : Option SessionState) → StandsAt s x → is_none s ≡ is_none x
none_same None None h = refl
none_same None (Some x) h = absurd h
none_same (Some s) None h = absurd h
none_same (Some s) (Some x) h = refl

zip_filled : (l : List (Option Session)) (k : List (Option SessionState)) → AllZip StandsAt l k → position_or_len is_none l ≡ position_or_len is_none k
zip_filled [] [] h = refl
zip_filled [] (b ∷ bs) h = absurd h
zip_filled (a ∷ xs) [] h = absurd h
zip_filled (a ∷ xs) (b ∷ bs) h = rw (none_same a b h.0, zip_filled xs bs h.1) refl

pub place_same : (t : Table) (z : Sessions) → Stands t z → position is_none t.places ≡ empty_place z
place_same t z st = rw (zip_filled t.places z.places st.places, zip_length t.places z.places st.places) refl

-- the oldest that passes
older_same : (f : Session → Bool) (g : SessionState → Bool) → ((s : Session) (x : SessionState) → Keeps s x → f s ≡ g x) → (p : ℕ) (s : Option Session) (x : Option SessionState) (rest : Option Handle) → StandsAt s x
    → older (λ s. s.number) f p s rest ≡ older (λ x. x.number) g p x rest
older_same f g same p None None rest h = refl
older_same f g same p None (Some x) rest h = absurd h
older_same f g same p (Some s) None rest h = absurd h
older_same f g same p (Some s) (Some x) rest h = rw (same s x h, h.number) refl

pub oldest_same : (f : Session → Bool) (g : SessionState → Bool) → ((s : Session) (x : SessionState) → Keeps s x → f s ≡ g x) → (p : ℕ) (l : List (Option Session)) (k : List (Option SessionState)) → AllZip StandsAt l k
    → oldest_from (λ s. s.number) f p l ≡ oldest_from (λ x. x.number) g p k
oldest_same f g same p [] [] h = refl
oldest_same f g same p [] (b ∷ bs) h = absurd h
oldest_same f g same p (a ∷ xs) [] h = absurd h
oldest_same f g same p (a ∷ xs) (b ∷ bs) h =
    ap (older (λ (s : Session). s.number) f p a) (oldest_same f g same (p + 1) xs bs h.1) ∙ older_same f g same p a b (oldest_from (λ x. x.number) g (p + 1) bs) h.0

-- what a wanted session is
abbrev pub wants : Wanted → SessionState → Bool
wants (OnStream stream) x = x.stream == stream
wants (Due now) x = is_going x.view && nat_le (deadline_of x.view) now
wants (Untaken name) x = (x.owner == 0) && bytes_eq (request_of x.view).name name.now
wants (UntakenAbove name number) x = nat_lt number x.number && (x.owner == 0) && bytes_eq (request_of x.view).name name.now
wants (OwnedBy owner) x = x.owner == owner
wants (Requested number) x = is_side x.view.role Near && (session_of x.view == number)

fits_same : (w : Wanted) (s : Session) (x : SessionState) → Keeps s x → fits_in w s ≡ wants w x
fits_same (OnStream stream) s x h = rw h.stream refl
fits_same (Due now) s x h = rw (h.going, h.deadline) refl
fits_same (Untaken name) s x h = rw (h.owner, h.request) refl
fits_same (UntakenAbove name number) s x h = rw (h.number, h.owner, h.request) refl
fits_same (OwnedBy owner) s x h = rw h.owner refl
fits_same (Requested number) s x h = rw (h.requester, h.session) refl

pub oldest_stands : (w : Wanted) (t : Table) (z : Sessions) → Stands t z → oldest_in w t.places ≡ oldest (wants w) z
oldest_stands w t z h = oldest_same (fits_in w) (wants w) (fits_same w) 0 t.places z.places h.places

-- the session with a handle
if_number_stands : (n : ℕ) (s : Option Session) (x : Option SessionState) → StandsAt s x → StandsAt (if_number (λ s. s.number) n s) (if_number (λ x. x.number) n x)
if_number_stands n None None h = tt
if_number_stands n None (Some x) h = absurd h
if_number_stands n (Some s) None h = absurd h
if_number_stands n (Some s) (Some x) h = subst (λ k. StandsAt (cond (s.number == n) (Some s) None) (cond (k == n) (Some x) None)) h.number (by_test (s.number == n)) where
  by_test : (b : Bool) → StandsAt (cond b (Some s) None) (cond b (Some x) None)
  by_test true = h
  by_test false = tt

nothing_past : (z : Sessions) (h : Handle) → length z.places ≡ 64 → nat_lt h.place 64 ≡ false → session_at z h ≡ None
nothing_past z h long e = ap (if_number (λ x. x.number) h.number) (get_or_past z.places h.place None (subst (λ n. n ≤ h.place) (sym long) (not_below e))) where
  not_below : nat_lt h.place 64 ≡ false → 64 ≤ h.place
  not_below f = omega (arith, ltb-false h.place 64 f)

pub places_long : (t : Table) (z : Sessions) → Stands t z → length z.places ≡ 64
places_long t z s = sym (zip_length t.places z.places s.places) ∙ s.long

pub stands_at : (t : Table) (z : Sessions) (h : Handle) → Stands t z → StandsAt (kept_at t.places h) (session_at z h)
stands_at t z h s = by_test (nat_lt h.place 64) refl where
  by_test : (b : Bool) → nat_lt h.place 64 ≡ b → StandsAt (kept_at t.places h) (session_at z h)
  by_test true e = subst (λ o. StandsAt o (session_at z h)) (sym (cond-true (nat_lt h.place 64) _ None e)) (if_number_stands h.number (slot t.places h.place) (slot z.places h.place) (zip_slot t.places z.places s.places h.place))
  by_test false e = subst (λ o. StandsAt o (session_at z h)) (sym (cond-false (nat_lt h.place 64) _ None e)) (subst (StandsAt None) (sym (nothing_past z h (places_long t z s) e)) tt)

-- a session that is kept stands for one
pub record Found (z : Sessions) (h : Handle) (s : Session) : Type 0 where
  pub state : SessionState
  pub is : session_at z h ≡ Some state
  pub keeps : Keeps s state

find_in : (z : Sessions) (h : Handle) (s : Session) (o : Option SessionState) → session_at z h ≡ o → StandsAt (Some s) o → Found z h s
find_in z h s None e k = absurd k
find_in z h s (Some x) e k = record { state = x; is = e; keeps = k }

pub find : (t : Table) (z : Sessions) (h : Handle) (s : Session) → Stands t z → kept_at t.places h ≡ Some s → Found z h s
find t z h s st e = find_in z h s (session_at z h) refl (subst (λ o. StandsAt o (session_at z h)) e (stands_at t z h st))

none_in : (o : Option SessionState) → StandsAt None o → o ≡ None
none_in None k = refl
none_in (Some x) k = absurd k

pub find_none : (t : Table) (z : Sessions) (h : Handle) → Stands t z → kept_at t.places h ≡ None → session_at z h ≡ None
find_none t z h st e = none_in (session_at z h) (subst (λ o. StandsAt o (session_at z h)) e (stands_at t z h st))

-- a session that is kept lies at its place
pub record Seated (l : List (Option Session)) (h : Handle) (s : Session) : Type 0 where
  pub place : h.place < 64
  pub slot_is : slot l h.place ≡ Some s

state_some : (n : ℕ) (o : Option SessionState) (x : SessionState) → if_number (λ x. x.number) n o ≡ Some x → o ≡ Some x
state_some n None x e = absurd (cc)
state_some n (Some r) x e = by_test (r.number == n) e where
  by_test : (b : Bool) → cond b (Some r) None ≡ Some x → Some r ≡ Some x
  by_test true f = f
  by_test false f = absurd (cc)

pub state_slot : (z : Sessions) (h : Handle) (x : SessionState) → session_at z h ≡ Some x → slot z.places h.place ≡ Some x
state_slot z h x e = state_some h.number (slot z.places h.place) x e

-- the code's session refuses the same acts, and for the same reasons, as the session that it stands for
pub refusal_same : (s : Session) (x : SessionState) → Keeps s x → (a : Act) → refusal_in s a ≡ refusal x.view a
refusal_same s x h act.Step = rw (h.going, h.turn, h.offer) refl
refusal_same s x h act.Wait = rw (h.going, h.turn, h.waits) refl
refusal_same s x h act.End = rw (h.going, h.turn) refl
refusal_same s x h act.Invalid = rw h.going refl

leaves_same : (s : Session) (x : SessionState) → Keeps s x → leaves_in s ≡ is_leaving x
leaves_same s x h = rw (h.owner, h.going) refl

-- a session is put back at its place, as another
abbrev pub put_back : Table → Handle → List (Option Session) → Table
put_back t h places = record { made = t.made; places = places }

pub set_twice : (k : List (Option SessionState)) (p : ℕ) (a b : Option SessionState) → slice_set (slice_set k p a) p b ≡ slice_set k p b
set_twice [] p a b = refl
set_twice (x ∷ k) zero a b = refl
set_twice (x ∷ k) (suc p) a b = ap (λ (l : List (Option SessionState)). x ∷ l) (set_twice k p a b)

emptied : (t : Table) (z : Sessions) (p : ℕ) → Stands t z → AllZip StandsAt (slice_set t.places p None) (slice_set z.places p None)
emptied t z p st = zip_set t.places z.places st.places p None None tt

refilled : (t : Table) (z : Sessions) (p : ℕ) (s : Session) (x : SessionState) → Stands t z → Keeps s x → AllZip StandsAt (slice_set (slice_set t.places p None) p (Some s)) (slice_set z.places p (Some x))
refilled t z p s x st k =
    subst (AllZip StandsAt (slice_set (slice_set t.places p None) p (Some s))) (set_twice z.places p None (Some x))
    (zip_set (slice_set t.places p None) (slice_set z.places p None) (emptied t z p st) p (Some s) (Some x) k)

pub put_stands : (t : Table) (z : Sessions) (h : Handle) (s : Session) (x : SessionState) → Stands t z → Keeps s x
    → Stands (put_back t h (slice_set (slice_set t.places h.place None) h.place (Some s))) (with_place z h.place (Some x))
put_stands t z h s x st k = record {
  made = st.made;
  long = length-set (slice_set t.places h.place None) h.place (Some s) ∙ (length-set t.places h.place None ∙ st.long);
  places = refilled t z h.place s x st k;
}

-- where a session is put back unchanged, the table stands for the same sessions as before
pub back_stands : (t : Table) (z : Sessions) (h : Handle) (s : Session) (x : SessionState) → Stands t z → session_at z h ≡ Some x → Keeps s x
    → Stands (put_back t h (slice_set (slice_set t.places h.place None) h.place (Some s))) z
back_stands t z h s x st e k =
    subst (Stands (put_back t h (slice_set (slice_set t.places h.place None) h.place (Some s))))
    (ap (λ (l : List (Option SessionState)). record { made = z.made; places = l; gone = z.gone })
    (subst (λ o. slice_set z.places h.place o ≡ z.places) (state_slot z h x e) (set-get_or z.places h.place None)))
    (put_stands t z h s x st k)

-- a session leaves
pub left_stands : (t : Table) (z : Sessions) (h : Handle) (x : SessionState) → Stands t z → Stands (put_back t h (slice_set t.places h.place None)) (left z h x)
left_stands t z h x st = record { made = st.made; long = length-set t.places h.place None ∙ st.long; places = emptied t z h.place st }

-- a session is put back, unless it leaves
pub settled_stands : (t : Table) (z : Sessions) (h : Handle) (s : Session) (x : SessionState) → Stands t z → Keeps s x
    → Stands (put_back t h (settled (slice_set t.places h.place None) h.place s)) (changed z h x)
settled_stands t z h s x st k = by_test (is_leaving x) refl where
  by_test : (b : Bool) → is_leaving x ≡ b → Stands (put_back t h (settled (slice_set t.places h.place None) h.place s)) (changed z h x)
  by_test true e =
      subst (λ l. Stands (put_back t h l) (changed z h x)) (sym (cond-true (leaves_in s) (slice_set t.places h.place None) _ (leaves_same s x k ∙ e)))
      (subst (Stands (put_back t h (slice_set t.places h.place None))) (sym (cond-true (is_leaving x) (left z h x) _ e)) (left_stands t z h x st))
  by_test false e =
      subst (λ l. Stands (put_back t h l) (changed z h x)) (sym (cond-false (leaves_in s) (slice_set t.places h.place None) _ (leaves_same s x k ∙ e)))
      (subst (Stands (put_back t h (slice_set (slice_set t.places h.place None) h.place (Some s)))) (sym (cond-false (is_leaving x) (left z h x) _ e)) (put_stands t z h s x st k))

-- an answer that is the same at each session that is kept
pub same_at : {A : Type 0} (f : Option Session → A) (g : Option SessionState → A) → f None ≡ g None → ((s : Session) (x : SessionState) → Keeps s x → f (Some s) ≡ g (Some x)) → (o : Option Session) (p : Option SessionState) → StandsAt o p → f o ≡ g p
same_at f g n s None None h = n
same_at f g n s None (Some x) h = absurd h
same_at f g n s (Some r) None h = absurd h
same_at f g n s (Some r) (Some x) h = s r x h

pub reply_at : {A : Type 0} (f : Option Session → A) (g : Option SessionState → A) → f None ≡ g None → ((s : Session) (x : SessionState) → Keeps s x → f (Some s) ≡ g (Some x)) → (t : Table) (z : Sessions) (h : Handle) (o : Option Session) → Stands t z → o ≡ kept_at t.places h
    → f o ≡ g (session_at z h)
reply_at f g n s t z h o st e = same_at f g n s o (session_at z h) (subst (λ k. StandsAt k (session_at z h)) (sym e) (stands_at t z h st))

-- check
abbrev by_owner : ℕ → Act → Option Session → Result (Unit {0}) SessionRefused
by_owner owner a o = answer_in a (if_owner (λ s. s.owner) owner o)

abbrev state_answer : Act → Option SessionState → Result (Unit {0}) SessionRefused
state_answer a None = Err NoSession
state_answer a (Some x) = if_refused (refusal x.view a)

by_owner_same : (owner : ℕ) (a : Act) (s : Session) (x : SessionState) → Keeps s x → by_owner owner a (Some s) ≡ state_answer a (if_owner (λ x. x.owner) owner (Some x))
by_owner_same owner a s x k =
    subst (λ n. by_owner owner a (Some s) ≡ state_answer a (cond (n == owner) (Some x) None)) k.owner (by_test (s.owner == owner)) where
      by_test : (b : Bool) → answer_in a (cond b (Some s) None) ≡ state_answer a (cond b (Some x) None)
      by_test true = ap if_refused (refusal_same s x k a)
      by_test false = refl

pub check_stands : (t : Table) (z : Sessions) (owner : ℕ) (h : Handle) (a : Act) → Stands t z → check_answer t owner h a ≡ check_reply z owner h a
check_stands t z owner h a st = reply_at (by_owner owner a) (λ o. state_answer a (if_owner (λ x. x.owner) owner o)) refl (by_owner_same owner a) t z h (kept_at t.places h) st refl

-- a session that is kept says something
pub say_stands : (t u v : Table) (z : Sessions) (h : Handle) (now : ℕ) (saying : Saying) (s r : Session) (m : Message) → Stands t z → kept_at t.places h ≡ Some s
    → ((x : SessionState) → Keeps s x → (m ≡ message_of x.view saying) × Keeps r (with_transcript x (having_said x.view now saying)))
    → u ≡ record t { places = slice_set t.places h.place None } → v ≡ record u { places = settled u.places h.place r }
    → (m ≡ say_reply z h saying) × Stands v (after_say z now h saying)
say_stands t u v z h now saying s r m st e f a b = by_found (find t z h s st e) where
  by_found : Found z h s → (m ≡ say_reply z h saying) × Stands v (after_say z now h saying)
  by_found q =
      let g = f q.state q.keeps in
      let back : Stands (put_back t h (settled (slice_set t.places h.place None) h.place r)) (changed z h (with_transcript q.state (having_said q.state.view now saying))) = settled_stands t z h r (with_transcript q.state (having_said q.state.view now saying)) st g.1 in
      (rw q.is g.0, rw (q.is, b, a) back)
