-- What the answers of a table say, in the words of its sessions.
use Rattle.std.proofs.Common.{◌≡◌, ℕ, zero, suc, ◌+◌, ◌<◌, ◌≤◌, Bool, true, false, cond, ◌&&◌, List, [], ◌∷◌, length, Option, Some, None, is_some, is_none, IsSome, Result, Ok, Err, count_by, slice_index_or, nat_lt, refl, sym, ap, ◌∙◌, subst, arith}
use Rattle.std.specs.List.{position, position_or_len}
use Rattle.std.proofs.lemmas.Bool.{true≢false, ltb-true, ltb-false}
use Rattle.std.proofs.lemmas.List.Quantifiers.{position-Some}
use Rattle.std.proofs.lemmas.List.Sums.{sum_by-cons, fails_before_first}
use Rattle.grasp_cbor.proofs.Facts.Options.{is_none_is}
use Rattle.grasp_types.specs.declared.session.Handle.{Handle}
use Rattle.grasp_session.specs.declared.answer.Act.{Act}
use Rattle.grasp_session.specs.declared.answer.Act.TheVariants as act
use Rattle.grasp_session.specs.declared.answer.SessionRefused.{SessionRefused}
use Rattle.grasp_session.specs.declared.answer.SessionRefused.TheVariants.{SessionsFull, NoSession, NotYourTurn, LoopsSpent, WaitsSpent}
use Rattle.grasp_session.specs.Transcript.{is_going, is_mine, last_offer, waits_of, refusal}
use Rattle.grasp_session.specs.Sessions.{SessionState, Sessions, session_owned, is_full, empty_place, place_given, start_reply, if_refused}
use Rattle.grasp_session.specs.Says.{Starts, StartSays, StartsSay, CheckSays, ChecksSay}

some_is : {A : Type 0} (o : Option A) → is_none o ≡ false → IsSome o
some_is None e = absurd (true≢false e)
some_is (Some x) e = refl

pub started : (z : Sessions) (h : Handle) → start_reply z ≡ Ok h → Starts z h
started z h e = by_full (is_full z) refl e where
  by_place : is_full z ≡ false → (o : Option ℕ) → empty_place z ≡ o → place_given z.made o ≡ Ok h → Starts z h
  by_place f None g i = absurd (cc)
  by_place f (Some place) g i =
      let same : record { place = place; number = z.made + 1 } ≡ h = cc in
      let p = position-Some is_none z.places place None g in
      subst (Starts z) same
      (record { not_full = f; place = p.0; empty = is_none_is (slice_index_or z.places place None) p.1; least = λ k q. some_is (slice_index_or z.places k None) (p.2 k q); number = refl })

  by_full : (b : Bool) → is_full z ≡ b → cond b (Err SessionsFull) (place_given z.made (empty_place z)) ≡ Ok h → Starts z h
  by_full true f g = absurd (cc)
  by_full false f g = by_place f (empty_place z) refl g

-- where no place is empty
count_all : (l : List (Option SessionState)) → ((k : ℕ) → k < length l → is_none (slice_index_or l k None) ≡ false) → count_by is_some l ≡ length l
count_all [] f = refl
count_all (x ∷ l) f =
    let m = sum_by-cons (λ (y : Option SessionState). cond (is_some y) 1 0) x l in
    let i = count_all l (λ k h. f (suc k) (omega (arith, h))) in
    let z : cond {A = ℕ} (is_some x) 1 0 ≡ 1 = ap (λ b. cond b 1 0) (some_is x (f zero (omega arith))) in omega (arith, m, i, z)

none_empty : (l : List (Option SessionState)) → position is_none l ≡ None → count_by is_some l ≡ length l
none_empty l e = by_test (nat_lt (position_or_len is_none l) (length l)) refl e where
  by_test : (b : Bool) → nat_lt (position_or_len is_none l) (length l) ≡ b → cond b (Some (position_or_len is_none l)) None ≡ None
      → count_by is_some l ≡ length l
  by_test true f g = absurd (cc)
  by_test false f g =
      let long : length l ≤ position_or_len is_none l = ltb-false (position_or_len is_none l) (length l) f in count_all l
      (λ k h. fails_before_first is_none l k None (omega (arith, h, long)))

pub starts_say : StartsSay
starts_say z long = by_full (is_full z) refl where
  by_place : is_full z ≡ false → (o : Option ℕ) → empty_place z ≡ o → StartSays z (place_given z.made o)
  by_place f None g = absurd (true≢false (sym (full (none_empty z.places g)) ∙ f)) where
    full : count_by is_some z.places ≡ length z.places → is_full z ≡ true
    full e = rw (e, long) refl
  by_place f (Some place) g = started z (record { place = place; number = z.made + 1 }) (rw (f, g) refl)

  by_full : (b : Bool) → is_full z ≡ b → StartSays z (cond b (Err SessionsFull) (place_given z.made (empty_place z)))
  by_full true f = f
  by_full false f = by_place f (empty_place z) refl

-- check
module _ (z : Sessions) (owner : ℕ) (h : Handle) (x : SessionState) (o : session_owned z owner h ≡ Some x) where
  says_step : (b c : Bool) → is_going x.view && is_mine x.view ≡ b → nat_lt 1 (last_offer x.view).loops ≡ c
      → CheckSays z owner h act.Step (if_refused (cond b (cond c None (Some LoopsSpent)) (Some NotYourTurn)))
  says_step true true e f = (x, o, e, ltb-true 1 (last_offer x.view).loops f)
  says_step true false e f = (x, o, e, refl, ltb-false 1 (last_offer x.view).loops f)
  says_step false c e f = (x, o, e)

  says_wait : (b c : Bool) → is_going x.view && is_mine x.view ≡ b → nat_lt (waits_of x.view) 4 ≡ c
      → CheckSays z owner h act.Wait (if_refused (cond b (cond c None (Some WaitsSpent)) (Some NotYourTurn)))
  says_wait true true e f = (x, o, e, ltb-true (waits_of x.view) 4 f)
  says_wait true false e f = (x, o, e, refl, ltb-false (waits_of x.view) 4 f)
  says_wait false c e f = (x, o, e)

  says_end : (b : Bool) → is_going x.view && is_mine x.view ≡ b → CheckSays z owner h act.End (if_refused (cond b None (Some NotYourTurn)))
  says_end true e = (x, o, e, tt)
  says_end false e = (x, o, e)

  says_invalid : (b : Bool) → is_going x.view ≡ b → CheckSays z owner h act.Invalid (if_refused (cond b None (Some NotYourTurn)))
  says_invalid true e = (x, o, e, tt)
  says_invalid false e = (x, o, e)

  says_of : (a : Act) → CheckSays z owner h a (if_refused (refusal x.view a))
  says_of act.Step = says_step (is_going x.view && is_mine x.view) (nat_lt 1 (last_offer x.view).loops) refl refl
  says_of act.Wait = says_wait (is_going x.view && is_mine x.view) (nat_lt (waits_of x.view) 4) refl refl
  says_of act.End = says_end (is_going x.view && is_mine x.view) refl
  says_of act.Invalid = says_invalid (is_going x.view) refl

abbrev answer : Act → Option SessionState → Result (Unit {0}) SessionRefused
answer a None = Err NoSession
answer a (Some x) = if_refused (refusal x.view a)

pub checks_say : ChecksSay
checks_say z owner h a = by_state (session_owned z owner h) refl where
  by_state : (o : Option SessionState) → session_owned z owner h ≡ o → CheckSays z owner h a (answer a o)
  by_state None e = e
  by_state (Some x) e = says_of z owner h x e a
