-- A stream for which `state` answers that it has no live session has none.
use Rattle.std.proofs.Common.{◌≡◌, ℕ, zero, suc, ◌+◌, Bool, true, false, cond, not, ◌&&◌, List, [], ◌∷◌, ◌⊎◌, inl, inr, Option, Some, None, slice_index_or, nat_le, ◌<◌, ◌≤◌, ◌==◌, refl, sym, ap, ◌∙◌, subst, arith}
use Rattle.std.proofs.lemmas.Bool.{true≢false, cond-true, eq-eqb, leb-true, leb-false}
use Rattle.grasp_types.specs.declared.session.Handle.{Handle}
use Rattle.grasp_session.specs.Transcript.{session_of, is_going}
use Rattle.grasp_session.specs.Sessions.{SessionState, Sessions, if_number, older, oldest_from, oldest, session_at, found, on_stream, state_reply}
use Rattle.grasp_session.specs.Says.{IsAt, IsLeast, LookUpSays, OldestIsLeast}

abbrev Test : Type 0
Test = SessionState → Bool

abbrev handle_at : ℕ → SessionState → Handle
handle_at place x = record { place = place; number = x.number }

older_none : (test : Test) (place : ℕ) (x : SessionState) (rest : Option Handle) → older (λ y. y.number) test place (Some x) rest ≡ None → (rest ≡ None) × (test x ≡ false)
older_none test place x None e = (refl, by_test (test x) e) where
  by_test : (b : Bool) → cond (b && true) (Some (handle_at place x)) None ≡ None → b ≡ false
  by_test true f = absurd (cc)
  by_test false f = refl
older_none test place x (Some h) e = absurd (by_test (test x && nat_le x.number h.number) e) where
  by_test : (b : Bool) → cond b (Some (handle_at place x)) (Some h) ≡ None → ⊥
  by_test true f = cc
  by_test false f = cc

-- where none passes
none_passes : (test : Test) (i : ℕ) (l : List (Option SessionState)) (p : ℕ) (x : SessionState) → oldest_from (λ y. y.number) test i l ≡ None → slice_index_or l p None ≡ Some x → test x ≡ false
none_passes test i [] p x e f = absurd (cc)
none_passes test i (None ∷ l) zero x e f = absurd (cc)
none_passes test i (None ∷ l) (suc p) x e f = none_passes test (i + 1) l p x e f
none_passes test i (Some y ∷ l) zero x e f =
    let same : y ≡ x = cc in
    subst (λ z. test z ≡ false) same (older_none test i y (oldest_from (λ y. y.number) test (i + 1) l) e).1
none_passes test i (Some y ∷ l) (suc p) x e f = none_passes test (i + 1) l p x (older_none test i y (oldest_from (λ y. y.number) test (i + 1) l) e).0 f

-- where one passes
older_some : (test : Test) (place : ℕ) (x : SessionState) (rest : Option Handle) (h : Handle) → older (λ y. y.number) test place (Some x) rest ≡ Some h → (handle_at place x ≡ h) ⊎ (rest ≡ Some h)
older_some test place x None h e = by_test (test x) e where
  by_test : (b : Bool) → cond (b && true) (Some (handle_at place x)) None ≡ Some h → (handle_at place x ≡ h) ⊎ (None ≡ Some h)
  by_test true f = inl (cc)
  by_test false f = absurd (cc)
older_some test place x (Some r) h e = by_test (test x && nat_le x.number r.number) e where
  by_test : (b : Bool) → cond b (Some (handle_at place x)) (Some r) ≡ Some h → (handle_at place x ≡ h) ⊎ (Some r ≡ Some h)
  by_test true f = inl (cc)
  by_test false f = inr f

record Seat (i : ℕ) (l : List (Option SessionState)) (h : Handle) : Type 0 where
  index : ℕ
  state : SessionState
  place : h.place ≡ index + i
  at : slice_index_or l index None ≡ Some state
  number : state.number ≡ h.number

abbrev seat_later : (i : ℕ) (o : Option SessionState) (l : List (Option SessionState)) (h : Handle) → Seat (i + 1) l h → Seat i (o ∷ l) h
seat_later i o l h s = record { index = suc s.index; state = s.state; place = omega (arith, s.place); at = s.at; number = s.number }

abbrev seat_here : (i : ℕ) (x : SessionState) (l : List (Option SessionState)) (h : Handle) → handle_at i x ≡ h → Seat i (Some x ∷ l) h
seat_here i x l h e = record { index = 0; state = x; place = omega (arith, ap (λ (g : Handle). g.place) e); at = refl; number = ap (λ (g : Handle). g.number) e }

seat : (test : Test) (i : ℕ) (l : List (Option SessionState)) (h : Handle) → oldest_from (λ y. y.number) test i l ≡ Some h → Seat i l h
seat test i [] h e = absurd (cc)
seat test i (None ∷ l) h e = seat_later i None l h (seat test (i + 1) l h e)
seat test i (Some x ∷ l) h e = by_case (older_some test i x (oldest_from (λ y. y.number) test (i + 1) l) h e) (seat test (i + 1) l h) where
  by_case : (handle_at i x ≡ h) ⊎ (oldest_from (λ y. y.number) test (i + 1) l ≡ Some h) → (oldest_from (λ y. y.number) test (i + 1) l ≡ Some h → Seat (i + 1) l h) → Seat i (Some x ∷ l) h
  by_case (inl f) g = seat_here i x l h f
  by_case (inr f) g = seat_later i (Some x) l h (g f)

seat_found : (z : Sessions) (h : Handle) → (s : Seat 0 z.places h) → session_at z h ≡ Some s.state
seat_found z h s =
    let p : h.place ≡ s.index = omega (arith, s.place) in
    ap (λ (k : ℕ). if_number (λ x. x.number) h.number (slice_index_or z.places k None)) p
    ∙ (ap (if_number (λ x. x.number) h.number) s.at ∙ cond-true (s.state.number == h.number) (Some s.state) None (eq-eqb s.state.number h.number s.number))

abbrev state_found : Option SessionState → Option (ℕ × Bool)
state_found None = None
state_found (Some x) = Some (session_of x.view, not (is_going x.view))

pub free_stream : (z : Sessions) (stream p : ℕ) (x : SessionState) → state_reply z stream ≡ None → IsAt z p x → (x.stream == stream) ≡ false
free_stream z stream p x e at = by_handle (on_stream z stream) refl e where
  by_handle : (o : Option Handle) → on_stream z stream ≡ o → state_found (found z o) ≡ None → (x.stream == stream) ≡ false
  by_handle None f g = none_passes (λ y. y.stream == stream) 0 z.places p x f at
  by_handle (Some h) f g =
      let s = seat (λ y. y.stream == stream) 0 z.places h f in
      let k : state_found (Some s.state) ≡ None = subst (λ o. state_found o ≡ None) (seat_found z h s) g in
      absurd (cc)

-- a look-up gives the least number
record Best (test : Test) (i : ℕ) (l : List (Option SessionState)) (h : Handle) : Type 0 where
  seat : Seat i l h
  passes : test seat.state ≡ true
  least : (p : ℕ) (x : SessionState) → slice_index_or l p None ≡ Some x → test x ≡ true → h.number ≤ x.number

best_later : (test : Test) (i : ℕ) (l : List (Option SessionState)) (h : Handle) → Best test (i + 1) l h → Best test i (None ∷ l) h
best_later test i l h b = record { seat = seat_later i None l h b.seat; passes = b.passes; least = λ p x e f. least p x e f } where
  least : (p : ℕ) (x : SessionState) → slice_index_or (None ∷ l) p None ≡ Some x → test x ≡ true → h.number ≤ x.number
  least zero x e f = absurd (cc)
  least (suc p) x e f = b.least p x e f

-- one that doesn't pass, or whose number is above
best_past : (test : Test) (i : ℕ) (y : SessionState) (l : List (Option SessionState)) (h : Handle) → (test y ≡ true → h.number ≤ y.number) → Best test (i + 1) l h → Best test i (Some y ∷ l) h
best_past test i y l h above b = record { seat = seat_later i (Some y) l h b.seat; passes = b.passes; least = λ p x e f. least p x e f } where
  least : (p : ℕ) (x : SessionState) → slice_index_or (Some y ∷ l) p None ≡ Some x → test x ≡ true → h.number ≤ x.number
  least zero x e f = let same : y ≡ x = cc in subst (λ (w : SessionState). h.number ≤ w.number) same (above (subst (λ w. test w ≡ true) (sym same) f))
  least (suc p) x e f = b.least p x e f

best_here : (test : Test) (i : ℕ) (y : SessionState) (l : List (Option SessionState)) → test y ≡ true → ((p : ℕ) (x : SessionState) → slice_index_or l p None ≡ Some x → test x ≡ true → y.number ≤ x.number) → Best test i (Some y ∷ l) (handle_at i y)
best_here test i y l t below = record { seat = seat_here i y l (handle_at i y) refl; passes = t; least = λ p x e f. least p x e f } where
  least : (p : ℕ) (x : SessionState) → slice_index_or (Some y ∷ l) p None ≡ Some x → test x ≡ true → y.number ≤ x.number
  least zero x e f = let same : y ≡ x = cc in subst (λ (w : SessionState). y.number ≤ w.number) same (omega arith)
  least (suc p) x e f = below p x e f

abbrev oldest_later : Test → ℕ → List (Option SessionState) → Option Handle
oldest_later test i l = oldest_from (λ y. y.number) test (i + 1) l

best_some : (test : Test) (i : ℕ) (y : SessionState) (l : List (Option SessionState)) (h : Handle) (rest : Option Handle) → oldest_later test i l ≡ rest → ((k : Handle) → rest ≡ Some k → Best test (i + 1) l k)
    → older (λ x. x.number) test i (Some y) rest ≡ Some h → Best test i (Some y ∷ l) h
best_some test i y l h None r f e = by_test (test y) refl e where
  by_test : (b : Bool) → test y ≡ b → cond (b && true) (Some (handle_at i y)) None ≡ Some h → Best test i (Some y ∷ l) h
  by_test true t g =
      let same : handle_at i y ≡ h = cc in
      subst (Best test i (Some y ∷ l)) same (best_here test i y l t (λ p x q u. absurd (true≢false (sym u ∙ none_passes test (i + 1) l p x r q))))
  by_test false t g = absurd (cc)
best_some test i y l h (Some k) r f e = by_test (test y) (nat_le y.number k.number) refl refl e where
  by_test : (b c : Bool) → test y ≡ b → nat_le y.number k.number ≡ c → cond (b && c) (Some (handle_at i y)) (Some k) ≡ Some h → Best test i (Some y ∷ l) h
  by_test true true t q g =
      let same : handle_at i y ≡ h = cc in
      let low : y.number ≤ k.number = leb-true y.number k.number q in
      subst (Best test i (Some y ∷ l)) same (best_here test i y l t (λ p x u v. let m = (f k refl).least p x u v in omega (arith, low, m)))
  by_test true false t q g =
      let same : k ≡ h = cc in
      let low : k.number < y.number = leb-false y.number k.number q in
      subst (Best test i (Some y ∷ l)) same (best_past test i y l k (λ u. omega (arith, low)) (f k refl))
  by_test false c t q g = let same : k ≡ h = cc in subst (Best test i (Some y ∷ l)) same (best_past test i y l k (λ u. absurd (true≢false (sym u ∙ t))) (f k refl))

best : (test : Test) (i : ℕ) (l : List (Option SessionState)) (h : Handle) → oldest_from (λ y. y.number) test i l ≡ Some h → Best test i l h
best test i [] h e = absurd (cc)
best test i (None ∷ l) h e = best_later test i l h (best test (i + 1) l h e)
best test i (Some y ∷ l) h e = best_some test i y l h (oldest_later test i l) refl (λ k q. best test (i + 1) l k q) e

pub is_least : (z : Sessions) (test : Test) (h : Handle) → oldest test z ≡ Some h → IsLeast z test h
is_least z test h e =
    let b = best test 0 z.places h e in
    let p : h.place ≡ b.seat.index = omega (arith, b.seat.place) in record {
      state = b.seat.state;
      at = seat_found z h b.seat;
      place = ap (λ (k : ℕ). slice_index_or z.places k None) p ∙ b.seat.at;
      passes = b.passes;
      least = b.least;
    }

pub none_is_left : (z : Sessions) (test : Test) (p : ℕ) (x : SessionState) → oldest test z ≡ None → IsAt z p x → test x ≡ false
none_is_left z test p x e at = none_passes test 0 z.places p x e at

pub oldest_least : OldestIsLeast
oldest_least z test = by_handle (oldest test z) refl where
  by_handle : (o : Option Handle) → oldest test z ≡ o → LookUpSays z test o
  by_handle None e = λ p x at. none_is_left z test p x e at
  by_handle (Some h) e = is_least z test h e
