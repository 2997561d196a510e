-- What a beginning ends, and that a second one changes nothing.
use Rattle.std.proofs.Common.{◌≡◌, ◌≢◌, ℕ, zero, suc, ◌-◌, ◌<◌, ◌≤◌, max, nat_le, Bool, true, false, cond, ◌&&◌, ◌==◌, ◌⊎◌, inl, inr, List, [], ◌∷◌, length, take, fold, All, Option, None, Some, IfSome, refl, sym, ap, ◌∙◌, subst, arith, add-one}
use Rattle.std.specs.Prelude.{slice_index_or}
use Rattle.std.proofs.lemmas.Bool.{and_parts}
use Rattle.std.proofs.lemmas.Bool.Decides.{eqb_tells, leb_tells}
use Rattle.std.proofs.lemmas.List.{get_or-set_other, get_or-set_same}
use Rattle.grasp_discovery.specs.Discoveries as discovery
use Rattle.grasp_discovery.proofs.Expiry as discoveries
use Rattle.grasp_flood.specs.Floods as flood
use Rattle.grasp_flood.proofs.Expiry as floods
use Rattle.grasp_laws_session.specs.Expiry as session
use Rattle.grasp_laws_session.proofs.Expiry.{expiry_ends, expiry_goes_on, no_due as none_due}
use Rattle.grasp_laws_session.proofs.Runs.{at_below, calls_in_order, some_state}
use Rattle.grasp_laws_session.proofs.Streams.{oldest_least, none_is_left}
use Rattle.grasp_session.specs.Says.{IsAt, IsLeast, LookUpSays}
use Rattle.grasp_session.specs.Sessions.{SessionState, Sessions, with_transcript, found, stream_of, with_place, left, is_leaving, changed, due, mark_at, expire_reply, after_expire}
use Rattle.grasp_session.specs.Transcript.{Expired, is_going, deadline_of, with_mark}
use Rattle.grasp_types.specs.declared.session.Handle.{Handle}
use Rattle.grasp_model_node.specs.Begin.{expire_on, expire_next, expired, discoveries_expired, floods_expired, begin}
use Rattle.grasp_laws_node.specs.Beginnings.{NothingEnded, BeginningsEndThings, IsDue, timed_out, TimesOut, SessionsTimeOut, BeginTwiceIsOnce, DrainOfNothing}
use Rattle.grasp_model_node.specs.Draining.{closes_behind, after_drain}
use Rattle.grasp_model_node.specs.Moves.{with_reading, with_sessions, with_discoveries, with_floods, begin_closing}
use Rattle.grasp_model_node.specs.Node.{NodeState}
use Rattle.grasp_model_node.specs.Queue.{Queued}
use Rattle.grasp_model_node.specs.Streams.{past_of, closing, closing_numbers, without}
use Rattle.grasp_laws_node.proofs.Consistent.Streams.{closing_none}
use Rattle.grasp_laws_node.proofs.Meaning.Said.{stays_closed}
use Rattle.grasp_laws_node.proofs.Remembered.{begun, times}

-- ---- sessions that time out

-- none is due
abbrev Settled : NodeState → Type 0
Settled n = expire_reply n.sessions n.reading ≡ None

still : (n : NodeState) → Settled n → expire_next n ≡ n
still n e = ap (expire_on n) e

still_all : (k : ℕ) (n : NodeState) → Settled n → expired k n ≡ n
unfolding expired
still_all zero n e = refl
still_all (suc k) n e = ap expire_next (still_all k n e) ∙ still n e

-- as many have timed out, or none is due any more
abbrev Follows : ℕ → NodeState → NodeState → Type 0
Follows k n m = (m.sessions ≡ session.expired k n.sessions n.reading) ⊎ Settled m

follows_on : (k : ℕ) (n m : NodeState) (o : Option ℕ) → m.reading ≡ n.reading → m.sessions ≡ session.expired k n.sessions n.reading → expire_reply m.sessions m.reading ≡ o → Follows (suc k) n (expire_on m o)
unfolding with_sessions begin_closing
follows_on k n m None r e f = inr f
follows_on k n m (Some stream) r e f =
    inl
    (ap (after_expire m.sessions) r
    ∙ (ap (λ z. after_expire z n.reading) e ∙ (sym (expiry_goes_on n.sessions n.reading k).sessions ∙ ap (λ j. session.expired j n.sessions n.reading) (add-one k))))

follows_more : (k : ℕ) (n m : NodeState) → m.reading ≡ n.reading → Follows k n m → Follows (suc k) n (expire_next m)
follows_more k n m r (inl e) = follows_on k n m (expire_reply m.sessions m.reading) r e refl
follows_more k n m r (inr e) = inr (subst Settled (sym (still m e)) e)

follows : (k : ℕ) (n : NodeState) → Follows k n (expired k n)
unfolding expired
follows zero n = inl refl
follows (suc k) n = follows_more k n (expired k n) (times k n).reading (follows k n)

settled : (n : NodeState) → length n.sessions.places ≡ 64 → Settled (expired 64 n)
settled n long = by (follows 64 n) where
  by : Follows 64 n (expired 64 n) → Settled (expired 64 n)
  by (inl e) =
      ap (expire_reply (expired 64 n).sessions) (times 64 n).reading
      ∙
      (ap (λ z. expire_reply z n.reading) (e ∙ ap (λ k. session.expired k n.sessions n.reading) (sym long)) ∙ expiry_ends n.sessions n.reading)
  by (inr e) = e

-- the session that is due
least_due : (z : Sessions) (now : ℕ) (h : Handle) → due z now ≡ Some h → IsLeast z (λ x. is_going x.view && nat_le (deadline_of x.view) now) h
least_due z now h e =
    subst (LookUpSays z (λ x. is_going x.view && nat_le (deadline_of x.view) now)) e (oldest_least z (λ x. is_going x.view && nat_le (deadline_of x.view) now))

not_due : (x : SessionState) (now : ℕ) → (is_going x.view && nat_le (deadline_of x.view) now) ≡ false → is_going x.view ≡ true → now < deadline_of x.view
not_due x now e going = by (leb_tells (deadline_of x.view) now) where
  by : ((nat_le (deadline_of x.view) now ≡ true) × (deadline_of x.view ≤ now)) ⊎ ((nat_le (deadline_of x.view) now ≡ false) × (now < deadline_of x.view)) → now < deadline_of x.view
  by (inl h) = let clash : true ≡ false = sym (ap (λ b. b && nat_le (deadline_of x.view) now) going ∙ h.0) ∙ e in absurd (cc)
  by (inr h) = h.1

none_left : (z : Sessions) (now : ℕ) → expire_reply z now ≡ None → (place : ℕ) (x : SessionState) → IsAt z place x → is_going x.view ≡ true → now < deadline_of x.view
none_left z now e place x at going =
    not_due x now (none_is_left z (λ x. is_going x.view && nat_le (deadline_of x.view) now) place x (none_due z now e) at) going

is_due : (x : SessionState) (now : ℕ) → (is_going x.view && nat_le (deadline_of x.view) now) ≡ true → IsDue now x
is_due x now e = by (leb_tells (deadline_of x.view) now) where
  parts : (is_going x.view ≡ true) × (nat_le (deadline_of x.view) now ≡ true)
  parts = let p = and_parts (is_going x.view) (nat_le (deadline_of x.view) now) e in (p.0, p.1)

  by : ((nat_le (deadline_of x.view) now ≡ true) × (deadline_of x.view ≤ now)) ⊎ ((nat_le (deadline_of x.view) now ≡ false) × (now < deadline_of x.view)) → IsDue now x
  by (inl h) = (parts.0, h.1)
  by (inr h) = let clash : true ≡ false = sym parts.1 ∙ h.0 in absurd (cc)

-- the session as it times out
abbrev marked : ℕ → SessionState → SessionState
marked now x = with_transcript x (with_mark x.view (Expired now))

-- what is at a place
abbrev at_slot : Sessions → ℕ → Option SessionState
at_slot z place = slice_index_or z.places place None

-- nobody is there who could time out
abbrev IsOver : Option SessionState → Type 0
IsOver None = Unit {0}
IsOver (Some y) = is_going y.view ≡ false

timed_is_over : (now : ℕ) (x : SessionState) → IsOver (timed_out now x)
timed_is_over now x = by (is_leaving (marked now x)) where
  by : (b : Bool) → IsOver (cond b None (Some (marked now x)))
  by true = tt
  by false = refl

-- the session that is due changes alone
module _ (z : Sessions) (now : ℕ) (h : Handle) (m : IsLeast z (λ x. is_going x.view && nat_le (deadline_of x.view) now) h) where
  going : is_going m.state.view ≡ true
  going = (and_parts (is_going m.state.view) (nat_le (deadline_of m.state.view) now) m.passes).0

  elsewhere : (place : ℕ) (b : Bool) → place ≢ h.place → at_slot (cond b (left z h (marked now m.state)) (with_place z h.place (Some (marked now m.state)))) place ≡ at_slot z place
  elsewhere place true n = get_or-set_other z.places h.place place None None n
  elsewhere place false n = get_or-set_other z.places h.place place (Some (marked now m.state)) None n

  here : (b : Bool) → at_slot (cond b (left z h (marked now m.state)) (with_place z h.place (Some (marked now m.state)))) h.place ≡ cond b None (Some (marked now m.state))
  here true = get_or-set_same z.places h.place None None (at_below z.places h.place m.state m.place)
  here false = get_or-set_same z.places h.place (Some (marked now m.state)) None (at_below z.places h.place m.state m.place)

  expires : due z now ≡ Some h → after_expire z now ≡ changed z h (marked now m.state)
  expires e = ap (mark_at z (Expired now)) e ∙ rw (m.at, going) refl

-- a session that is due changes, and each other is where it was
abbrev OrDue : Sessions → ℕ → ℕ → ℕ → SessionState → Type 0
OrDue after now stream place x = IsAt after place x ⊎ (IsDue now x × (x.stream ≡ stream) × (at_slot after place ≡ timed_out now x))

changed_one : (z : Sessions) (now : ℕ) (h : Handle) (m : IsLeast z (λ x. is_going x.view && nat_le (deadline_of x.view) now) h) (place : ℕ) (x : SessionState) → IsAt z place x
    → OrDue (changed z h (marked now m.state)) now m.state.stream place x
changed_one z now h m place x at = by (eqb_tells place h.place) where
  by : (((place == h.place) ≡ true) × (place ≡ h.place)) ⊎ (((place == h.place) ≡ false) × (place ≢ h.place)) → OrDue (changed z h (marked now m.state)) now m.state.stream place x
  by (inl i) =
      let same : m.state ≡ x = some_state m.state x (sym (subst (λ k. IsAt z k m.state) (sym i.1) m.place) ∙ at) in
      inr (
        is_due x now (subst (λ (s : SessionState). (is_going s.view && nat_le (deadline_of s.view) now) ≡ true) same m.passes),
        ap (λ (s : SessionState). s.stream) (sym same),
        ap (at_slot (changed z h (marked now m.state))) i.1 ∙ (here z now h m (is_leaving (marked now m.state)) ∙ ap (timed_out now) same),
      )
  by (inr i) = inl (elsewhere z now h m place (is_leaving (marked now m.state)) i.1 ∙ at)

changed_over : (z : Sessions) (now : ℕ) (h : Handle) (m : IsLeast z (λ x. is_going x.view && nat_le (deadline_of x.view) now) h) (place : ℕ) (v : Option SessionState) → at_slot z place ≡ v → IsOver v
    → at_slot (changed z h (marked now m.state)) place ≡ v
changed_over z now h m place v at over = by (eqb_tells place h.place) where
  by : (((place == h.place) ≡ true) × (place ≡ h.place)) ⊎ (((place == h.place) ≡ false) × (place ≢ h.place)) → at_slot (changed z h (marked now m.state)) place ≡ v
  by (inl i) =
      let is : v ≡ Some m.state = sym at ∙ subst (λ k. IsAt z k m.state) (sym i.1) m.place in
      let ended : is_going m.state.view ≡ false = subst IsOver is over in
      let clash : true ≡ false = sym (going z now h m) ∙ ended in
      absurd (cc)
  by (inr i) = elsewhere z now h m place (is_leaving (marked now m.state)) i.1 ∙ at

expires_one : (z : Sessions) (now stream place : ℕ) (x : SessionState) → expire_reply z now ≡ Some stream → IsAt z place x → OrDue (after_expire z now) now stream place x
expires_one z now stream place x e at = by_handle (due z now) refl e where
  by_handle : (o : Option Handle) → due z now ≡ o → stream_of (found z o) ≡ Some stream → OrDue (after_expire z now) now stream place x
  by_handle None f g = absurd (cc)
  by_handle (Some h) f g =
      let m = least_due z now h f in
      let on : Some m.state.stream ≡ Some stream = sym (ap stream_of m.at) ∙ g in
      let there : m.state.stream ≡ stream = cc in
      subst (λ w. OrDue w now stream place x) (sym (expires z now h m f)) (subst (λ s. OrDue (changed z h (marked now m.state)) now s place x) there (changed_one z now h m place x at))

expires_over : (z : Sessions) (now place : ℕ) (v : Option SessionState) → at_slot z place ≡ v → IsOver v → at_slot (after_expire z now) place ≡ v
expires_over z now place v at over = by_handle (due z now) refl where
  by_handle : (o : Option Handle) → due z now ≡ o → at_slot (after_expire z now) place ≡ v
  by_handle None f = ap (λ o. at_slot (mark_at z (Expired now) o) place) f ∙ at
  by_handle (Some h) f = let m = least_due z now h f in ap (λ w. at_slot w place) (expires z now h m f) ∙ changed_over z now h m place v at over

-- each session is as it was, or was due and timed out, and its stream is closing
abbrev Stays : NodeState → ℕ → SessionState → Type 0
Stays m place x = IsAt m.sessions place x ⊎ (IsDue m.reading x × (at_slot m.sessions place ≡ timed_out m.reading x) × (past_of m.streams x.stream ≡ None))

stays_on : (m : NodeState) (o : Option ℕ) (place : ℕ) (x : SessionState) → expire_reply m.sessions m.reading ≡ o → Stays m place x → Stays (expire_on m o) place x
unfolding with_sessions begin_closing
stays_on m None place x e s = s
stays_on m (Some stream) place x e (inr s) =
    inr (s.0, expires_over m.sessions m.reading place (timed_out m.reading x) s.1 (timed_is_over m.reading x), stays_closed m.streams stream x.stream s.2)
stays_on m (Some stream) place x e (inl at) = by (expires_one m.sessions m.reading stream place x e at) where
  by : OrDue (after_expire m.sessions m.reading) m.reading stream place x
      → IsAt (after_expire m.sessions m.reading) place x
      ⊎ (IsDue m.reading x × (at_slot (after_expire m.sessions m.reading) place ≡ timed_out m.reading x) × (past_of (closing m.streams stream) x.stream ≡ None))
  by (inl k) = inl k
  by (inr k) = inr (k.0, k.2, subst (λ s. past_of (closing m.streams stream) s ≡ None) (sym k.1) (closing_none m.streams stream))

stays : (k : ℕ) (n : NodeState) (place : ℕ) (x : SessionState) → IsAt n.sessions place x → Stays (expired k n) place x
unfolding expired
stays zero n place x at = inl at
stays (suc k) n place x at = stays_on (expired k n) (expire_reply (expired k n).sessions (expired k n).reading) place x refl (stays k n place x at)

empty_on : (m : NodeState) (o : Option ℕ) (place : ℕ) → at_slot m.sessions place ≡ None → at_slot (expire_on m o).sessions place ≡ None
unfolding with_sessions begin_closing
empty_on m None place e = e
empty_on m (Some stream) place e = expires_over m.sessions m.reading place None e tt

empty : (k : ℕ) (n : NodeState) (place : ℕ) → at_slot n.sessions place ≡ None → at_slot (expired k n).sessions place ≡ None
unfolding expired
empty zero n place e = e
empty (suc k) n place e = empty_on (expired k n) (expire_reply (expired k n).sessions (expired k n).reading) place (empty k n place e)

same_sessions : (n : NodeState) (now : ℕ) → (with_reading n now).sessions ≡ n.sessions
unfolding with_reading
same_sessions n now = refl

same_reading : (n : NodeState) (now : ℕ) → (with_reading n now).reading ≡ max n.reading now
unfolding with_reading
same_reading n now = refl

-- the parts of a node after its sessions timed out
parts : (n m b : NodeState) → Settled m → ((place : ℕ) (x : SessionState) → IsAt n.sessions place x → Stays m place x)
    → ((place : ℕ) → at_slot n.sessions place ≡ None → at_slot m.sessions place ≡ None) → b.sessions ≡ m.sessions → b.streams ≡ m.streams → b.reading ≡ m.reading → TimesOut n b
parts n m b e s t p q r =
    let none : Settled b = ap (λ z. expire_reply z b.reading) p ∙ (ap (expire_reply m.sessions) r ∙ e) in record {
      none_due = none;
      none_left = none_left b.sessions b.reading none;
      each = λ place x at. by place x (s place x at);
      empty = λ place at. ap (λ z. at_slot z place) p ∙ t place at;
    } where
      by : (place : ℕ) (x : SessionState) → Stays m place x
          → IsAt b.sessions place x ⊎ (IsDue b.reading x × (at_slot b.sessions place ≡ timed_out b.reading x) × (past_of b.streams x.stream ≡ None))
      by place x (inl at) = inl (subst (λ z. IsAt z place x) (sym p) at)
      by place x (inr d) =
          inr (
            subst (λ k. IsDue k x) (sym r) d.0,
            ap (λ z. at_slot z place) p ∙ (d.1 ∙ ap (λ k. timed_out k x) (sym r)),
            subst (λ k. past_of k x.stream ≡ None) (sym q) d.2,
          )

times_out : (n : NodeState) (now : ℕ) → length n.sessions.places ≡ 64 → TimesOut n (begin n now)
times_out n now long =
    let b = begun n now in
    parts n (expired 64 (with_reading n now)) (begin n now)
    (settled (with_reading n now) (ap (λ (z : Sessions). length z.places) (same_sessions n now) ∙ long))
    (λ place x at. stays 64 (with_reading n now) place x (subst (λ z. IsAt z place x) (sym (same_sessions n now)) at))
    (λ place at. empty 64 (with_reading n now) place (ap (λ z. at_slot z place) (same_sessions n now) ∙ at))
    b.sessions b.streams (b.reading ∙ sym ((times 64 (with_reading n now)).reading ∙ same_reading n now))

pub sessions_time_out : SessionsTimeOut
sessions_time_out n now i = times_out n now (calls_in_order n.sessions i.sessions).long

-- ---- what else has ended

nothing_ended : (d : discovery.Discoveries) (f : flood.Floods) (b : NodeState) → b.discoveries ≡ discovery.after_expiry d b.reading → b.floods ≡ flood.after_expiry f b.reading → NothingEnded b
nothing_ended d f b e g =
    let dn = discoveries.nothing_ended d b.reading in
    let fn = floods.nothing_ended f b.reading in record {
      searches = subst (λ (x : discovery.Discoveries). All (λ search. search.end ≤ b.reading → search.over ≡ true) x.searches) (sym e) dn.0;
      locators = subst (λ (x : discovery.Discoveries). All (λ entry. (1 ≤ length entry.1) × All (λ one. b.reading < one.end) entry.1) x.entries) (sym e) dn.1;
      discoveries = subst (λ (x : discovery.Discoveries). All (λ memory. b.reading < memory.1.end) x.memories) (sym e) dn.2;
      told = subst (λ (x : flood.Floods). All (λ entry. IfSome entry.1.end (λ last. b.reading < last)) x.entries) (sym g) fn.0;
      floods = subst (λ (x : flood.Floods). All (λ memory. b.reading < memory.1) x.memories) (sym g) fn.1;
    }

pub beginnings_end : BeginningsEndThings
beginnings_end n now =
    let b = begun n now in (
      record { plan = b.plan; reading = b.reading; registrations = b.registrations; dialled = b.dialled; queue = b.queue; drawn = b.drawn },
      nothing_ended n.discoveries n.floods (begin n now) (b.discoveries ∙ ap (discovery.after_expiry n.discoveries) (sym b.reading)) (b.floods ∙ ap (flood.after_expiry n.floods) (sym b.reading)),
    )

-- ---- a second beginning

larger : (a b : ℕ) → max (max a b) b ≡ max a b
larger a b = grind arith

read_again : (b : NodeState) (now : ℕ) → max b.reading now ≡ b.reading → with_reading b now ≡ b
unfolding with_reading
read_again b now e = ap (λ (r : ℕ). record b { reading = r }) e

discoveries_again : (b : NodeState) → discovery.after_expiry b.discoveries b.reading ≡ b.discoveries → discoveries_expired b ≡ b
unfolding with_discoveries
discoveries_again b e = ap (λ (d : discovery.Discoveries). record b { discoveries = d }) e

floods_again : (b : NodeState) → flood.after_expiry b.floods b.reading ≡ b.floods → floods_expired b ≡ b
unfolding with_floods
floods_again b e = ap (λ (f : flood.Floods). record b { floods = f }) e

begins_again : (b : NodeState) (now : ℕ) → max b.reading now ≡ b.reading → Settled b → discovery.after_expiry b.discoveries b.reading ≡ b.discoveries → flood.after_expiry b.floods b.reading ≡ b.floods
    → begin b now ≡ b
unfolding begin
begins_again b now r s d f =
    ap (λ (m : NodeState). floods_expired (discoveries_expired (expired 64 m))) (read_again b now r)
    ∙ (ap (λ (m : NodeState). floods_expired (discoveries_expired m)) (still_all 64 b s) ∙ (ap floods_expired (discoveries_again b d) ∙ floods_again b f))

pub twice : BeginTwiceIsOnce
twice n now i =
    let b = begun n now in
    begins_again (begin n now) now (ap (λ r. max r now) b.reading ∙ (larger n.reading now ∙ sym b.reading)) (sessions_time_out n now i).none_due
    (ap (discovery.after_expiry (begin n now).discoveries) b.reading
    ∙ (ap (λ d. discovery.after_expiry d (max n.reading now)) b.discoveries ∙ (discoveries.expiry_twice n.discoveries (max n.reading now) ∙ sym b.discoveries)))
    (ap (flood.after_expiry (begin n now).floods) b.reading
    ∙ (ap (λ f. flood.after_expiry f (max n.reading now)) b.floods ∙ (floods.expiry_twice n.floods (max n.reading now) ∙ sym b.floods)))

-- ---- a drain of nothing

no_closes : (n : NodeState) (qs : List Queued) → qs ≡ n.queue → closes_behind n 0 qs ≡ []
no_closes n [] e = let z : 0 - length n.queue ≡ 0 = omega arith in ap (λ k. take k (closing_numbers n.streams)) z
no_closes n (q ∷ qs) e = refl

pub drains_nothing : (n : NodeState) → after_drain n 0 ≡ n
unfolding after_drain
drains_nothing n = ap (λ (l : List ℕ). record n { queue = n.queue; streams = fold without n.streams l }) (no_closes n n.queue refl)

pub drain_of_nothing : DrainOfNothing
drain_of_nothing n now = drains_nothing (begin n now)
