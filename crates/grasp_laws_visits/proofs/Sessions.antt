-- What a seat knows of its agent and its sessions is what its visitor's calls were answered.
use Rattle.std.proofs.Common.{◌≡◌, ◌≢◌, refl, sym, ap, ◌∙◌, subst, ◌⊎◌, inl, inr, arith, ℕ, suc, ◌+◌, ◌<◌, ◌≤◌, ◌==◌, ◌++◌, not, Bool, true, false, cond, filter, drop, append_assoc, length-append, List, [], ◌∷◌, length, Option, Some, None}
use Rattle.std.proofs.lemmas.Bool.{eq-eqb, eqb-true, ltb-false, ne_eqb}
use Rattle.std.proofs.lemmas.List.Elements.{filter-append}
use Rattle.std.proofs.lemmas.Option.{none-some, same_Some}
use Rattle.std.specs.List.{AllByRecursion}
use Rattle.std.specs.Prelude.{find, nat_lt}
use Rattle.grasp_crew.specs.Seats.{SeatState, is_deregistering, placed, placed_as, placed_call, polled_number, seat_after, seat_ended, with_handle, without_number}
use Rattle.grasp_laws_visits.proofs.Lists.{all_append, all_last, all_map, filter_all}
use Rattle.grasp_laws_visits.specs.Calls.{IsPlaced, IsPlacedAt, session_named, with_session}
use Rattle.grasp_laws_visits.specs.Knowing.{Deregisters, StillHas, TellsEnd, TellsOf, WasTold, agent_number, number_left, number_replied, one_if_some, session_told, sessions_told, told_by}
use Rattle.grasp_laws_visits.specs.Logs.{Happening, Log, called, heard}
use Rattle.grasp_service_visits.specs.Calling.{seat_entry}
use Rattle.grasp_shared.specs.History.{Entry}
use Rattle.grasp_types.specs.declared.call.Call.{Call}
use Rattle.grasp_types.specs.declared.call.Call.TheVariants as call
use Rattle.grasp_types.specs.declared.reply.ApiAnswer.TheVariants as answer
use Rattle.grasp_types.specs.declared.reply.Reply.{Reply}
use Rattle.grasp_types.specs.declared.reply.Reply.TheVariants as reply
use Rattle.grasp_types.specs.declared.session.Handle.{Handle}
use Rattle.grasp_types.specs.declared.session.Outcome.{Outcome}
use Rattle.grasp_types.specs.declared.session.Progress.{Progress}
use Rattle.grasp_types.specs.declared.session.Progress.TheVariants as progress
use Rattle.grasp_types.specs.declared.traffic.Input.TheVariants as input

-- ---- a session that a caller still has

-- the caller had it before this, and was told of so many since then
pub record IsOlder (caller : ℕ) (h : Happening) (log : Log) (k : Handle) (count : ℕ) : Type 0 where
  pub still : StillHas caller log k
  pub count_is : count ≡ told_by caller h + sessions_told caller still.since
  pub lives : ¬ TellsEnd caller k.number h

same_heads : (x y : Happening) (xs ys : Log) → x ∷ xs ≡ y ∷ ys → (y ≡ x) × (xs ≡ ys)
same_heads x y xs ys e = let head : y ≡ x = cc in let tail : xs ≡ ys = cc in (head, tail)

module _ (caller : ℕ) (h : Happening) (log : Log) (k : Handle) where
  split_at : (since : Log) (telling : Happening) (before : Log) → h ∷ log ≡ since ++ telling ∷ before → TellsOf caller k telling → sessions_told caller since < 64
      → AllByRecursion (λ (x : Happening). ¬ TellsEnd caller k.number x) since → ((x : Handle) → WasTold caller (h ∷ log) x → x.number ≡ k.number → x ≡ k)
      → TellsOf caller k h ⊎ IsOlder caller h log k (sessions_told caller since)
  split_at [] telling before are told few lives only = inl (subst (TellsOf caller k) (same_heads h telling log before are).0 told)
  split_at (x ∷ since) telling before are told few lives only =
      let heads = same_heads h x log (since ++ telling ∷ before) are in
      inr
      (record {
        still =
            record {
              since = since;
              telling = telling;
              before = before;
              are = heads.1;
              told = told;
              few = fewer (told_by caller x) (sessions_told caller since) few;
              lives = lives.1;
              only = λ y w e. only y (inr w) e;
            };
        count_is = ap (λ (y : Happening). told_by caller y + sessions_told caller since) heads.0;
        lives = subst (λ (y : Happening). ¬ TellsEnd caller k.number y) heads.0 lives.0;
      }) where
        fewer : (a b : ℕ) → a + b < 64 → b < 64
        fewer a b few = omega (arith, few)

  -- the newest tells of it, or it is older
  pub split : (s : StillHas caller (h ∷ log) k) → TellsOf caller k h ⊎ IsOlder caller h log k (sessions_told caller s.since)
  split s = split_at s.since s.telling s.before s.are s.told s.few s.lives s.only

-- the session is among these, and so many stand behind it at most
pub record IsIn (k : Handle) (count : ℕ) (ks : List Handle) : Type 0 where
  pub front : List Handle
  pub back : List Handle
  pub are : ks ≡ front ++ k ∷ back
  pub few : length back ≤ count

more_in : (k : Handle) (m n : ℕ) (ks : List Handle) → m ≤ n → IsIn k m ks → IsIn k n ks
more_in k m n ks least i = record { front = i.front; back = i.back; are = i.are; few = omega (arith, least, i.few) }

-- each was told to the caller, and each that the caller still has is among them
pub record Knows (caller : ℕ) (log : Log) (ks : List Handle) : Type 0 where
  pub told : AllByRecursion (WasTold caller log) ks
  pub held : (k : Handle) (s : StillHas caller log k) → IsIn k (sessions_told caller s.since) ks

older_in : (caller : ℕ) (h : Happening) (log : Log) (k : Handle) (count : ℕ) (ks : List Handle) → Knows caller log ks → (o : IsOlder caller h log k count)
    → IsIn k count ks
older_in caller h log k count ks knows o =
    more_in k (sessions_told caller o.still.since) count ks (above (told_by caller h) (sessions_told caller o.still.since) count o.count_is) (knows.held k o.still) where
      above : (a b c : ℕ) → c ≡ a + b → b ≤ c
      above a b c e = omega (arith, e)

told_on : (caller : ℕ) (h : Happening) (log : Log) (ks : List Handle) → AllByRecursion (WasTold caller log) ks → AllByRecursion (WasTold caller (h ∷ log)) ks
told_on caller h log ks all = all_map (WasTold caller log) (WasTold caller (h ∷ log)) ks (λ k w. inr w) all

-- what tells of no session changes nothing
pub same_knows : (caller : ℕ) (h : Happening) (log : Log) (ks : List Handle) → ((k : Handle) → ¬ TellsOf caller k h) → Knows caller log ks → Knows caller (h ∷ log) ks
same_knows caller h log ks none knows = record { told = told_on caller h log ks knows.told; held = λ k s. by_newest k s (split caller h log k s) } where
  by_newest : (k : Handle) (s : StillHas caller (h ∷ log) k) → TellsOf caller k h ⊎ IsOlder caller h log k (sessions_told caller s.since) → IsIn k (sessions_told caller s.since) ks
  by_newest k s (inl tells) = absurd (none k tells)
  by_newest k s (inr o) = older_in caller h log k (sessions_told caller s.since) ks knows o

-- ---- one session more

told_one : (e : Entry) (x : Handle) (caller : ℕ) → e.caller ≡ caller → session_told e.reply ≡ Some x → told_by caller (called e) ≡ 1
told_one e x caller own is =
    ap (λ (b : Bool). cond b (one_if_some (session_told e.reply)) 0) (eq-eqb e.caller caller own) ∙ ap one_if_some is

drop_all : {A : Type 0} (P : A → Type 0) (xs : List A) → AllByRecursion P xs → AllByRecursion P (drop 1 xs)
drop_all P [] all = tt
drop_all P (x ∷ xs) all = all.1

module _ (caller : ℕ) (e : Entry) (log : Log) (ks : List Handle) (x : Handle) (own : e.caller ≡ caller) (is : session_told e.reply ≡ Some x) (knows : Knows caller log ks) where
  new_told : (b : Bool) → AllByRecursion (WasTold caller (called e ∷ log)) (cond b ks (drop 1 ks) ++ x ∷ [])
  new_told true = all_append (WasTold caller (called e ∷ log)) ks (x ∷ []) (told_on caller (called e) log ks knows.told) (inl (own, is), tt)
  new_told false =
      all_append (WasTold caller (called e ∷ log)) (drop 1 ks) (x ∷ []) (drop_all (WasTold caller (called e ∷ log)) ks (told_on caller (called e) log ks knows.told))
      (inl (own, is), tt)

  newest_in : (b : Bool) (k : Handle) (count : ℕ) → session_told e.reply ≡ Some k → IsIn k count (cond b ks (drop 1 ks) ++ x ∷ [])
  newest_in b k count told =
      let same : x ≡ k = same_Some x k (sym is ∙ told) in
      record { front = cond b ks (drop 1 ks); back = []; are = ap (λ (y : Handle). cond b ks (drop 1 ks) ++ y ∷ []) same; few = omega arith }

  pushed : (k : Handle) (back : List Handle) (n count : ℕ) → length back ≤ n → count ≡ 1 + n → length (back ++ x ∷ []) ≤ count
  pushed k back n count few is_more = let h : length (back ++ x ∷ []) ≡ length back + 1 = length-append back (x ∷ []) in omega (arith, h, few, is_more)

  -- where there is room, and where there is none
  roomy : (k : Handle) (n count : ℕ) → count ≡ 1 + n → IsIn k n ks → IsIn k count (ks ++ x ∷ [])
  roomy k n count is_more i = record {
    front = i.front;
    back = i.back ++ x ∷ [];
    are = ap (λ (l : List Handle). l ++ x ∷ []) i.are ∙ append_assoc i.front (k ∷ i.back) (x ∷ []);
    few = pushed k i.back n count i.few is_more;
  }

  full : (k : Handle) (n count : ℕ) → count ≡ 1 + n → count < 64 → 64 ≤ length ks → (front back : List Handle) → ks ≡ front ++ k ∷ back → length back ≤ n
      → IsIn k count (drop 1 ks ++ x ∷ [])
  full k n count is_more under many [] back are few =
      let long : length ks ≡ 1 + length back = ap (λ (l : List Handle). length l) are ∙ one (length back) in absurd (omega (arith, long, many, few, is_more, under)) where
        one : (a : ℕ) → suc a ≡ 1 + a
        one a = omega arith
  full k n count is_more under many (f ∷ front) back are few = record {
    front = front;
    back = back ++ x ∷ [];
    are = ap (λ (l : List Handle). drop 1 l ++ x ∷ []) are ∙ append_assoc front (k ∷ back) (x ∷ []);
    few = pushed k back n count few is_more;
  }

  older_stays : (k : Handle) (count : ℕ) → count < 64 → IsOlder caller (called e) log k count → IsIn k count (with_handle ks x)
  older_stays k count under o = by_room (nat_lt (length ks) 64) refl where
    is_more : count ≡ 1 + sessions_told caller o.still.since
    is_more = o.count_is ∙ ap (λ (a : ℕ). a + sessions_told caller o.still.since) (told_one e x caller own is)

    i : IsIn k (sessions_told caller o.still.since) ks
    i = knows.held k o.still

    by_room : (b : Bool) → nat_lt (length ks) 64 ≡ b → IsIn k count (cond b ks (drop 1 ks) ++ x ∷ [])
    by_room true f = roomy k (sessions_told caller o.still.since) count is_more i
    by_room false f = full k (sessions_told caller o.still.since) count is_more under (ltb-false (length ks) 64 f) i.front i.back i.are i.few

  pub new_knows : Knows caller (called e ∷ log) (with_handle ks x)
  new_knows = record {
    told = new_told (nat_lt (length ks) 64);
    held = λ k s. by_newest k s (split caller (called e) log k s);
  } where
    by_newest : (k : Handle) (s : StillHas caller (called e ∷ log) k) → TellsOf caller k (called e) ⊎ IsOlder caller (called e) log k (sessions_told caller s.since)
        → IsIn k (sessions_told caller s.since) (with_handle ks x)
    by_newest k s (inl tells) = newest_in (nat_lt (length ks) 64) k (sessions_told caller s.since) tells.1
    by_newest k s (inr o) = older_stays k (sessions_told caller s.since) s.few o

-- ---- a session that is over

filter_fewer : (p : Handle → Bool) (ks : List Handle) → length (filter p ks) ≤ length ks
filter_fewer p [] = omega arith
filter_fewer p (k ∷ ks) = by_test (p k) (filter_fewer p ks) where
  by_test : (b : Bool) → length (filter p ks) ≤ length ks → length (cond b (k ∷ filter p ks) (filter p ks)) ≤ length (k ∷ ks)
  by_test true least = omega (arith, least)
  by_test false least = omega (arith, least)

filter_in : (p : Handle → Bool) (k : Handle) (n : ℕ) (ks : List Handle) → p k ≡ true → IsIn k n ks → IsIn k n (filter p ks)
filter_in p k n ks passes i = record {
  front = filter p i.front;
  back = filter p i.back;
  are =
      ap (filter p) i.are
      ∙ (filter-append p i.front (k ∷ i.back)
      ∙ ap (λ (b : Bool). filter p i.front ++ cond b (k ∷ filter p i.back) (filter p i.back)) passes);
  few = let least = filter_fewer p i.back in omega (arith, least, i.few);
}

-- ---- a session's name

placed_number : (ks : List Handle) (h : Handle) → (placed ks h).number ≡ h.number
placed_number [] h = refl
placed_number (x ∷ ks) h = by_test (x.number == h.number) refl (placed_number ks h) where
  by_test : (b : Bool) → (x.number == h.number) ≡ b → (placed ks h).number ≡ h.number
      → (placed_as h (cond b (Some x) (find (λ (k : Handle). k.number == h.number) ks))).number ≡ h.number
  by_test true e rest = eqb-true x.number h.number e
  by_test false e rest = rest

placed_told : (P : Handle → Type 0) (ks : List Handle) (h : Handle) → AllByRecursion P ks → (placed ks h ≡ h) ⊎ P (placed ks h)
placed_told P [] h all = inl refl
placed_told P (x ∷ ks) h all = by_test (x.number == h.number) (placed_told P ks h all.1) where
  by_test : (b : Bool) → (placed ks h ≡ h) ⊎ P (placed ks h) → (placed_as h (cond b (Some x) (find (λ (k : Handle). k.number == h.number) ks)) ≡ h)
      ⊎ P (placed_as h (cond b (Some x) (find (λ (k : Handle). k.number == h.number) ks)))
  by_test true rest = inr all.0
  by_test false rest = rest

-- where one of this number is among them, and no other, it is that one
placed_same : (front back : List Handle) (k h : Handle) → k.number ≡ h.number → AllByRecursion (λ (x : Handle). x.number ≡ k.number → x ≡ k) (front ++ k ∷ back)
    → placed (front ++ k ∷ back) h ≡ k
placed_same [] back k h same all = ap (λ (b : Bool). placed_as h (cond b (Some k) (find (λ (x : Handle). x.number == h.number) back))) (eq-eqb k.number h.number same)
placed_same (x ∷ front) back k h same all = by_test (x.number == h.number) refl (placed_same front back k h same all.1) where
  by_test : (b : Bool) → (x.number == h.number) ≡ b → placed (front ++ k ∷ back) h ≡ k
      → placed_as h (cond b (Some x) (find (λ (y : Handle). y.number == h.number) (front ++ k ∷ back))) ≡ k
  by_test true e rest = all.0 (eqb-true x.number h.number e ∙ sym same)
  by_test false e rest = rest

module _ (caller : ℕ) (log : Log) (ks : List Handle) (knows : Knows caller log ks) where
  known_at : (h k : Handle) → StillHas caller log k → k.number ≡ h.number → placed ks h ≡ k
  known_at h k s same =
      let i : IsIn k (sessions_told caller s.since) ks = knows.held k s in
      ap (λ (l : List Handle). placed l h) i.are
      ∙ placed_same i.front i.back k h same
      (subst (AllByRecursion (λ (x : Handle). x.number ≡ k.number → x ≡ k)) i.are
      (all_map (WasTold caller log) (λ (x : Handle). x.number ≡ k.number → x ≡ k) ks (λ x w. s.only x w) knows.told))

  named_at : (c : Call) (h : Handle) (d : Call) → d ≡ with_session c (placed ks h) → IsPlacedAt caller log c h d
  named_at c h d is = record {
    session = placed ks h;
    call_is = is;
    number = placed_number ks h;
    told = placed_told (WasTold caller log) ks h knows.told;
    known = known_at h;
  }

  -- a call names a session as its seat knows it
  pub placed_is : (c : Call) → IsPlaced caller log c (session_named c) (placed_call ks c)
  placed_is (call.NegotiateStep h v) = named_at (call.NegotiateStep h v) h (call.NegotiateStep (placed ks h) v) refl
  placed_is (call.NegotiateWait h m) = named_at (call.NegotiateWait h m) h (call.NegotiateWait (placed ks h) m) refl
  placed_is (call.EndNegotiate h v) = named_at (call.EndNegotiate h v) h (call.EndNegotiate (placed ks h) v) refl
  placed_is (call.SendInvalid h d) = named_at (call.SendInvalid h d) h (call.SendInvalid (placed ks h) d) refl
  placed_is (call.Poll h) = named_at (call.Poll h) h (call.Poll (placed ks h)) refl
  placed_is _ = refl

-- ---- after a call of its own

-- the number of its agent is the one that its calls were answered, and so are its sessions
pub record Owns (caller : ℕ) (log : Log) (s : SeatState) : Type 0 where
  pub number : s.asa ≡ agent_number caller log
  pub sessions : Knows caller log s.handles

left_number : (s : SeatState) (c : Call) (asa : ℕ) (ks : List Handle)
    → (cond (is_deregistering c) (record s { asa = 0; handles = [] }) s).asa ≡ number_left (input.Api asa (placed_call ks c)) s.asa
left_number s call.DeregisterAsa asa ks = refl
left_number s _ asa ks = refl

pub ended_number : (s : SeatState) (polled : Option ℕ) (p : Progress) → (seat_ended s polled p).asa ≡ s.asa
ended_number s polled (progress.Ended o) = refl
ended_number s polled _ = refl

pub after_number : (s : SeatState) (c : Call) (r : Reply) (asa : ℕ) (ks : List Handle) → (seat_after s c r).asa ≡ number_replied (input.Api asa (placed_call ks c)) r s.asa
after_number s c (reply.Api (answer.Asa n)) asa ks = refl
after_number s c (reply.Api answer.Done) asa ks = left_number s c asa ks
after_number s c (reply.Api (answer.Polled p)) asa ks = ended_number s (polled_number c) p
after_number s c (reply.Api _) asa ks = refl
after_number s c _ asa ks = refl

own_number : (caller now : ℕ) (s : SeatState) (c : Call) (r : Reply) (log : Log) → s.asa ≡ agent_number caller log
    → (seat_after s c r).asa ≡ agent_number caller (called (seat_entry caller now s c r) ∷ log)
own_number caller now s c r log is =
    after_number s c r s.asa s.handles
    ∙ (ap (number_replied (input.Api s.asa (placed_call s.handles c)) r) is
    ∙ sym
    (ap (λ (b : Bool). cond b (number_replied (input.Api s.asa (placed_call s.handles c)) r (agent_number caller log)) (agent_number caller log)) (eq-eqb caller caller refl)))

deregisters : (c : Call) (asa : ℕ) (ks : List Handle) → is_deregistering c ≡ true → Deregisters (input.Api asa (placed_call ks c))
deregisters call.DeregisterAsa asa ks e = tt
deregisters _ asa ks e = absurd (false_true e) where
  false_true : false ≡ true → ⊥
  false_true p = cc

tells_none : (caller : ℕ) (r : Reply) → session_told r ≡ None → (k : Handle) → ¬ ((caller ≡ caller) × (session_told r ≡ Some k))
tells_none caller r none k tells = none-some k (sym none ∙ tells.1)

module _ (caller now : ℕ) (s : SeatState) (log : Log) (knows : Knows caller log s.handles) where
  quiet : (c : Call) (r : Reply) → session_told r ≡ None → Knows caller (called (seat_entry caller now s c r) ∷ log) s.handles
  quiet c r none = same_knows caller (called (seat_entry caller now s c r)) log s.handles (tells_none caller r none) knows

  gone : (c : Call) → is_deregistering c ≡ true → Knows caller (called (seat_entry caller now s c (reply.Api answer.Done)) ∷ log) []
  gone c e = record { told = tt; held = λ k t. by_newest k (sessions_told caller t.since) (split caller (called (seat_entry caller now s c (reply.Api answer.Done))) log k t) } where
    by_newest : (k : Handle) (n : ℕ) → TellsOf caller k (called (seat_entry caller now s c (reply.Api answer.Done)))
        ⊎ IsOlder caller (called (seat_entry caller now s c (reply.Api answer.Done))) log k n → IsIn k n []
    by_newest k n (inl tells) = absurd (none-some k tells.1)
    by_newest k n (inr o) = absurd (o.lives (refl, deregisters c s.asa s.handles e))

  done : (c : Call) (b : Bool) → is_deregistering c ≡ b
      → Knows caller (called (seat_entry caller now s c (reply.Api answer.Done)) ∷ log) (cond b (record s { asa = 0; handles = [] }) s).handles
  done c true e = gone c e
  done c false e = quiet c (reply.Api answer.Done) refl

  abbrev polled : Handle → Outcome → Entry
  polled h o = seat_entry caller now s (call.Poll h) (reply.Api (answer.Polled (progress.Ended o)))

  filtered : (h : Handle) (o : Outcome) → Knows caller (called (seat_entry caller now s (call.Poll h) (reply.Api (answer.Polled (progress.Ended o)))) ∷ log)
      (filter (λ (k : Handle). not (k.number == h.number)) s.handles)
  filtered h o = record {
    told = filter_all (WasTold caller (called (polled h o) ∷ log)) (λ (k : Handle). not (k.number == h.number)) s.handles (told_on caller (called (polled h o)) log s.handles knows.told);
    held = λ k t. by_newest k (sessions_told caller t.since) (split caller (called (polled h o)) log k t);
  } where
    by_newest : (k : Handle) (n : ℕ) → TellsOf caller k (called (polled h o)) ⊎ IsOlder caller (called (polled h o)) log k n
        → IsIn k n (filter (λ (x : Handle). not (x.number == h.number)) s.handles)
    by_newest k n (inl tells) = absurd (none-some k tells.1)
    by_newest k n (inr older) =
        let differ : k.number ≢ h.number = λ e. older.lives (refl, placed_number s.handles h ∙ sym e) in
        filter_in (λ (x : Handle). not (x.number == h.number)) k n s.handles (ap not (ne_eqb k.number h.number differ))
        (older_in caller (called (polled h o)) log k n s.handles knows older)

  over : (c : Call) (o : Outcome) → Knows caller (called (seat_entry caller now s c (reply.Api (answer.Polled (progress.Ended o)))) ∷ log)
      (without_number s.handles (polled_number c))
  over (call.Poll h) o = filtered h o
  over c o = quiet c (reply.Api (answer.Polled (progress.Ended o))) refl

  asked : (c : Call) (p : Progress) → Knows caller (called (seat_entry caller now s c (reply.Api (answer.Polled p))) ∷ log) (seat_ended s (polled_number c) p).handles
  asked c (progress.Ended o) = over c o
  asked c p = quiet c (reply.Api (answer.Polled p)) refl

  after_knows : (c : Call) (r : Reply) → Knows caller (called (seat_entry caller now s c r) ∷ log) (seat_after s c r).handles
  after_knows c (reply.Api (answer.Asa n)) = quiet c (reply.Api (answer.Asa n)) refl
  after_knows c (reply.Api (answer.Started h)) = new_knows caller (seat_entry caller now s c (reply.Api (answer.Started h))) log s.handles h refl refl knows
  after_knows c (reply.Api (answer.Incoming h from o)) =
      new_knows caller (seat_entry caller now s c (reply.Api (answer.Incoming h from o))) log s.handles h refl refl knows
  after_knows c (reply.Api (answer.Polled p)) = asked c p
  after_knows c (reply.Api answer.Done) = done c (is_deregistering c) refl
  after_knows c (reply.Api a) = quiet c (reply.Api a) refl
  after_knows c r = quiet c r refl

-- after a call of its own it is so still
pub own_call : (caller now : ℕ) (s : SeatState) (c : Call) (r : Reply) (log : Log) → Owns caller log s → Owns caller (called (seat_entry caller now s c r) ∷ log) (seat_after s c r)
own_call caller now s c r log o = record { number = own_number caller now s c r log o.number; sessions = after_knows caller now s log o.sessions c r }

-- ---- after what is of others

-- it is no call of this caller
abbrev pub IsOfOthers : ℕ → Happening → Type 0
IsOfOthers caller (heard v) = Unit {0}
IsOfOthers caller (called e) = e.caller ≢ caller

not_told : (caller : ℕ) (h : Happening) → IsOfOthers caller h → (k : Handle) → ¬ TellsOf caller k h
not_told caller (heard v) other k tells = tells
not_told caller (called e) other k tells = other tells.0

pub other_number : (caller : ℕ) (h : Happening) (log : Log) → IsOfOthers caller h → agent_number caller (h ∷ log) ≡ agent_number caller log
other_number caller (heard v) log other = refl
other_number caller (called e) log other =
    ap (λ (b : Bool). cond b (number_replied e.input e.reply (agent_number caller log)) (agent_number caller log)) (ne_eqb e.caller caller other)

pub own_other : (caller : ℕ) (h : Happening) (log : Log) (s : SeatState) → IsOfOthers caller h → Owns caller log s → Owns caller (h ∷ log) s
own_other caller h log s other o = record {
  number = o.number ∙ sym (other_number caller h log other);
  sessions = same_knows caller h log s.handles (not_told caller h other) o.sessions;
}

-- ---- before its first call

pub none_number : (caller : ℕ) (log : Log) → AllByRecursion (IsOfOthers caller) log → agent_number caller log ≡ 0
none_number caller [] all = refl
none_number caller (h ∷ log) all = other_number caller h log all.0 ∙ none_number caller log all.1

none_still : (caller : ℕ) (log : Log) (k : Handle) → AllByRecursion (IsOfOthers caller) log → ¬ StillHas caller log k
none_still caller log k all s =
    not_told caller s.telling
    (all_last (IsOfOthers caller) s.since (s.telling ∷ s.before) (subst (AllByRecursion (IsOfOthers caller)) s.are all)).0 k s.told

pub none_knows : (caller : ℕ) (log : Log) → AllByRecursion (IsOfOthers caller) log → Knows caller log []
none_knows caller log all = record { told = tt; held = λ k s. absurd (none_still caller log k all s) }
