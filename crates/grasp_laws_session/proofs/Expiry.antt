-- All sessions that are due time out.
use Rattle.std.proofs.Common.{◌≡◌, ℕ, zero, suc, ◌+◌, ◌-◌, ◌≤◌, Bool, true, false, cond, ◌&&◌, List, [], ◌++◌, Option, Some, None, length, count_by, slice_index_or, slice_set, nat_le, refl, sym, ap, ◌∙◌, arith}
use Rattle.std.specs.List.{cons_option}
use Rattle.std.proofs.lemmas.Bool.{and_parts}
use Rattle.std.proofs.lemmas.List.{append-nil}
use Rattle.std.proofs.lemmas.List.Sums.{sum_by-set, count_by-le-length}
use Rattle.grasp_types.specs.declared.session.Handle.{Handle}
use Rattle.grasp_session.specs.Transcript.{Expired, is_going, deadline_of, with_mark}
use Rattle.grasp_session.specs.Sessions.{SessionState, Sessions, with_transcript, found, stream_of, with_place, left, is_leaving, changed, due, mark_at, expire_reply, after_expire}
use Rattle.grasp_session.specs.Says.{IsLeast}
use Rattle.grasp_laws_session.specs.Expiry.{expired, streams_expired, ExpiryEnds, ExpiryGoesOn, ExpiryStops}
use Rattle.grasp_laws_session.proofs.Runs.{at_below}
use Rattle.grasp_laws_session.proofs.Streams.{is_least}

-- a place whose session is due
abbrev due_in : ℕ → Option SessionState → Bool
due_in now None = false
due_in now (Some x) = is_going x.view && nat_le (deadline_of x.view) now

-- how many are due
abbrev many : Sessions → ℕ → ℕ
many z now = count_by (due_in now) z.places

-- each call makes one fewer
module _ (z : Sessions) (now : ℕ) (h : Handle) (m : IsLeast z (λ x. is_going x.view && nat_le (deadline_of x.view) now) h) where
  fewer : (v : Option SessionState) → due_in now v ≡ false → count_by (due_in now) (slice_set z.places h.place v) + 1 ≡ many z now
  fewer v e =
      let k = sum_by-set (λ (o : Option SessionState). cond (due_in now o) 1 0) z.places h.place v None (at_below z.places h.place m.state m.place) in
      let new : cond {A = ℕ} (due_in now v) 1 0 ≡ 0 = ap (λ b. cond b 1 0) e in
      let old : cond {A = ℕ} (due_in now (slice_index_or z.places h.place None)) 1 0
      ≡ 1 = ap (λ (o : Option SessionState). cond {A = ℕ} (due_in now o) 1 0) m.place ∙ ap (λ b. cond b 1 0) m.passes in
      omega (arith, k, new, old)

  fewer_changed : many (changed z h (with_transcript m.state (with_mark m.state.view (Expired now)))) now + 1 ≡ many z now
  fewer_changed = by_test (is_leaving (with_transcript m.state (with_mark m.state.view (Expired now)))) where
    by_test : (b : Bool)
        → many
        (cond b (left z h (with_transcript m.state (with_mark m.state.view (Expired now)))) (with_place z h.place (Some (with_transcript m.state (with_mark m.state.view (Expired now)))))) now + 1 ≡ many z now
    by_test true = fewer None refl
    by_test false = fewer (Some (with_transcript m.state (with_mark m.state.view (Expired now)))) refl

  expires : due z now ≡ Some h → after_expire z now ≡ changed z h (with_transcript m.state (with_mark m.state.view (Expired now)))
  expires e =
      let going : is_going m.state.view ≡ true = (and_parts (is_going m.state.view) (nat_le (deadline_of m.state.view) now) m.passes).0 in
      ap (mark_at z (Expired now)) e ∙ rw (m.at, going) refl

one_fewer : (z : Sessions) (now : ℕ) (h : Handle) → due z now ≡ Some h → many (after_expire z now) now + 1 ≡ many z now
one_fewer z now h e =
    let m = is_least z (λ x. is_going x.view && nat_le (deadline_of x.view) now) h e in
    ap (λ w. many w now + 1) (expires z now h m e) ∙ fewer_changed z now h m

-- where none is due nothing changes
none_due : (z : Sessions) (now : ℕ) → due z now ≡ None → after_expire z now ≡ z
none_due z now e = ap (mark_at z (Expired now)) e

no_stream : (z : Sessions) (now : ℕ) → due z now ≡ None → expire_reply z now ≡ None
no_stream z now e = ap (λ o. stream_of (found z o)) e

pub no_due : (z : Sessions) (now : ℕ) → expire_reply z now ≡ None → due z now ≡ None
no_due z now e = by_handle (due z now) refl e where
  by_handle : (o : Option Handle) → due z now ≡ o → stream_of (found z o) ≡ None → due z now ≡ None
  by_handle None f g = f
  by_handle (Some h) f g =
      let m = is_least z (λ x. is_going x.view && nat_le (deadline_of x.view) now) h f in
      let clash : Some m.state.stream ≡ None = sym (ap stream_of m.at) ∙ g in
      absurd (cc)

still : (k : ℕ) (z : Sessions) (now : ℕ) → due z now ≡ None → expired k z now ≡ z
still zero z now e = refl
still (suc k) z now e = ap (λ w. expired k w now) (none_due z now e) ∙ still k z now e

still_streams : (k : ℕ) (z : Sessions) (now : ℕ) → due z now ≡ None → streams_expired k z now ≡ []
still_streams zero z now e = refl
still_streams (suc k) z now e =
    ap (λ (o : Option ℕ). cons_option o (streams_expired k (after_expire z now) now)) (no_stream z now e)
    ∙ (ap (λ w. streams_expired k w now) (none_due z now e) ∙ still_streams k z now e)

-- so many calls, where so many are due
ends : (k : ℕ) (z : Sessions) (now : ℕ) → many z now ≤ k → due (expired k z now) now ≡ None
ends zero z now h = by_handle (due z now) refl where
  by_handle : (o : Option Handle) → due z now ≡ o → due z now ≡ None
  by_handle None e = e
  by_handle (Some g) e = let f = one_fewer z now g e in absurd (omega (arith, f, h))
ends (suc k) z now h = by_handle (due z now) refl (λ m. ends k (after_expire z now) now m) where
  by_handle : (o : Option Handle) → due z now ≡ o → (many (after_expire z now) now ≤ k → due (expired k (after_expire z now) now) now ≡ None)
      → due (expired k (after_expire z now) now) now ≡ None
  by_handle None e rest = ap (λ w. due w now) (ap (λ w. expired k w now) (none_due z now e) ∙ still k z now e) ∙ e
  by_handle (Some g) e rest = let f = one_fewer z now g e in rest (omega (arith, f, h))

pub expiry_ends : ExpiryEnds
expiry_ends z now = no_stream (expired (length z.places) z now) now (ends (length z.places) z now (count_by-le-length (due_in now) z.places))

-- some calls and then some
expired_add : (k j n : ℕ) (z : Sessions) (now : ℕ) → n ≡ k + j → expired n z now ≡ expired j (expired k z now) now
expired_add zero j n z now e = let same : n ≡ j = omega (arith, e) in ap (λ i. expired i z now) same
expired_add (suc k) j zero z now e = absurd (omega (arith, e))
expired_add (suc k) j (suc n) z now e = expired_add k j n (after_expire z now) now (omega (arith, e))

cons_append : (o : Option ℕ) (l k : List ℕ) → cons_option o (l ++ k) ≡ cons_option o l ++ k
cons_append None l k = refl
cons_append (Some x) l k = refl

streams_add : (k j n : ℕ) (z : Sessions) (now : ℕ) → n ≡ k + j → streams_expired n z now ≡ streams_expired k z now ++ streams_expired j (expired k z now) now
streams_add zero j n z now e = let same : n ≡ j = omega (arith, e) in ap (λ i. streams_expired i z now) same
streams_add (suc k) j zero z now e = absurd (omega (arith, e))
streams_add (suc k) j (suc n) z now e =
    ap (cons_option (expire_reply z now)) (streams_add k j n (after_expire z now) now (omega (arith, e)))
    ∙ cons_append (expire_reply z now) (streams_expired k (after_expire z now) now) (streams_expired j (expired k (after_expire z now) now) now)

pub expiry_goes_on : ExpiryGoesOn
expiry_goes_on z now k = record { sessions = expired_add k 1 (k + 1) z now refl; streams = streams_add k 1 (k + 1) z now refl }

pub expiry_stops : ExpiryStops
expiry_stops z now k h e =
    let d : due (expired k z now) now ≡ None = no_due (expired k z now) now e in
    let n : length z.places ≡ k + (length z.places - k) = omega (arith, h) in record {
      sessions = expired_add k (length z.places - k) (length z.places) z now n ∙ still (length z.places - k) (expired k z now) now d;
      streams =
          streams_add k (length z.places - k) (length z.places) z now n
          ∙
          (ap (λ (l : List ℕ). streams_expired k z now ++ l) (still_streams (length z.places - k) (expired k z now) now d) ∙ append-nil (streams_expired k z now));
    }
