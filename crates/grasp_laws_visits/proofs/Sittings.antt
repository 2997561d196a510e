-- All seats stand as what came and what was answered says, sitting after sitting.
use Rattle.std.proofs.Common.{◌≡◌, ◌≢◌, refl, sym, ap, ◌∙◌, subst, inl, inr, arith, ℕ, ◌+◌, ◌≤◌, ◌==◌, ◌&&◌, ◌++◌, not, Bool, true, false, cond, get_or, List, [], ◌∷◌, length, slice_get, slice_set, Option, Some, None}
use Rattle.std.proofs.lemmas.Bool.{eqb-false, false≢true, ltb-false}
use Rattle.std.proofs.lemmas.List.Quantifiers.{position-Some}
use Rattle.std.proofs.lemmas.Option.{none-some, slice_get-get_or}
use Rattle.std.specs.List.{AllByRecursion, position_or_len}
use Rattle.std.specs.Prelude.{nat_lt, position}
use Rattle.grasp_crew.specs.Seats.{SeatState, is_seat_of, leaving, new_seat, stays, without_await}
use Rattle.grasp_desk.specs.Desk.{IsNext}
use Rattle.grasp_desk.specs.declared.desk.Visiting.{Visiting}
use Rattle.grasp_desk.specs.declared.desk.Visiting.TheVariants as desk
use Rattle.grasp_laws_visits.proofs.Lists.{all_append, all_map, append_apart, at_place, each_apart, filter_all, filter_apart, found_at, IsFound, set_apart, set_others}
use Rattle.grasp_laws_visits.proofs.Seats.{left_same, said_same, tended_same}
use Rattle.grasp_laws_visits.proofs.Seated.{IsNoLeaving, Seated, Took, left_took, line_took, seated_by, seated_more, seated_on, seated_over, tended_took}
use Rattle.grasp_laws_visits.proofs.Sessions.{IsOfOthers, none_knows, none_number}
use Rattle.grasp_laws_visits.specs.Calls.{AreApart, AreOwnCalls}
use Rattle.grasp_laws_visits.specs.Knowing.{HasCome, HasLeft, Heard, LeavesBy}
use Rattle.grasp_laws_visits.specs.Logs.{AreNext, Happening, Log, Sitting, SittingsMean, all_visitings, called, heard, log_sitting, log_sittings, log_tends, log_visits, logged, seats_at_last, seats_heard, seats_left}
use Rattle.grasp_service_visits.specs.Calling.{call_made, goodbye_call}
use Rattle.grasp_service_visits.specs.Each.{each_after}
use Rattle.grasp_service_visits.specs.Tending.{tend_call, tend_calls, tend_seat, tended}
use Rattle.grasp_service_visits.specs.Visits.{AllMean, MeantBy, Said, VisitMeans, Visited, heard_calls, left_calls, place_of, said_call, said_seat, seat_by, seat_left, seat_of, seats_after, seats_by, seats_visited, seats_where, visit_calls, visitings}
use Rattle.grasp_shared.specs.History.{Entry, History}
use Rattle.grasp_types.specs.declared.call.Call.{Call}
use Rattle.grasp_types.specs.declared.reply.Reply.{Reply}

-- ---- so many came

-- whoever came has one of the first numbers, and so has whoever called
abbrev pub ComesBelow : ℕ → Visiting → Type 0
ComesBelow count (desk.Came visitor guest) = visitor ≤ count
ComesBelow count _ = Unit {0}

abbrev pub IsBelow : ℕ → ℕ → Happening → Type 0
IsBelow agents count (heard v) = ComesBelow count v
IsBelow agents count (called e) = e.caller ≤ agents + count

comes_more : (m n : ℕ) (v : Visiting) → m ≤ n → ComesBelow m v → ComesBelow n v
comes_more m n (desk.Came visitor guest) least h = omega (arith, least, h)
comes_more m n _ least h = h

below_one : (agents m n : ℕ) (h : Happening) → m ≤ n → IsBelow agents m h → IsBelow agents n h
below_one agents m n (heard v) least below = comes_more m n v least below
below_one agents m n (called e) least below = omega (arith, least, below)

below_more : (agents m n : ℕ) (log : Log) → m ≤ n → AllByRecursion (IsBelow agents m) log → AllByRecursion (IsBelow agents n) log
below_more agents m n log least all = all_map (IsBelow agents m) (IsBelow agents n) log (λ h b. below_one agents m n h least b) all

-- these calls are of this caller
abbrev pub AreOf : ℕ → History → Type 0
AreOf caller es = AllByRecursion (λ (e : Entry). e.caller ≡ caller) es

made_of : (caller now : ℕ) (s : SeatState) (o : Option Call) (r : Reply) → AreOf caller (call_made caller now s o r)
made_of caller now s None r = tt
made_of caller now s (Some c) r = (refl, tt)

logged_below : (es : History) (agents count w : ℕ) (log : Log) → w ≤ count → AreOf (agents + w) es → AllByRecursion (IsBelow agents count) log
    → AllByRecursion (IsBelow agents count) (logged log es)
logged_below [] agents count w log least of all = all
logged_below (e ∷ es) agents count w log least of all =
    logged_below es agents count w (called e ∷ log) least of.1 (let is = of.0 in omega (arith, is, least), all)

-- who has the next number is new
come_below : (agents count visitor : ℕ) (log : Log) → AllByRecursion (IsBelow agents count) log → HasCome visitor log → visitor ≤ count
come_below agents count visitor log all come = by_log log all come.1 where
  by_visiting : (v : Visiting) → ComesBelow count v → v ≡ desk.Came visitor come.0 → visitor ≤ count
  by_visiting v below is = subst (ComesBelow count) is below

  by_log : (l : Log) → AllByRecursion (IsBelow agents count) l → Heard (desk.Came visitor come.0) l → visitor ≤ count
  by_log [] below was = absurd was
  by_log (heard v ∷ l) below (inl is) = by_visiting v below.0 is
  by_log (heard v ∷ l) below (inr was) = by_log l below.1 was
  by_log (called e ∷ l) below was = by_log l below.1 was

come_on : (visitor : ℕ) (v : Visiting) (log : Log) → HasCome visitor log → HasCome visitor (heard v ∷ log)
come_on visitor v log come = (come.0, inr come.1)

came_left : (visitor : ℕ) (log : Log) → HasLeft visitor log → HasCome visitor log
came_left visitor [] left = absurd left
came_left visitor (heard v ∷ log) (inl leaves) = come_on visitor v log (by_visiting v leaves) where
  by_visiting : (x : Visiting) → LeavesBy visitor x log → HasCome visitor log
  by_visiting (desk.Left who) l = l.1
  by_visiting _ l = absurd l
came_left visitor (heard v ∷ log) (inr left) = come_on visitor v log (came_left visitor log left)
came_left visitor (called e ∷ log) left = let come = came_left visitor log left in (come.0, come.1)

others_below : (agents count : ℕ) (log : Log) → AllByRecursion (IsBelow agents count) log → AllByRecursion (IsOfOthers (agents + (count + 1))) log
others_below agents count log all = all_map (IsBelow agents count) (IsOfOthers (agents + (count + 1))) log other all where
  differs : (caller : ℕ) → caller ≤ agents + count → caller ≢ agents + (count + 1)
  differs caller least is = omega (arith, least, is)

  other : (h : Happening) → IsBelow agents count h → IsOfOthers (agents + (count + 1)) h
  other (heard v) below = tt
  other (called e) below = differs e.caller below

-- ---- all seats

pub record Stands (agents count : ℕ) (log : Log) (seats : List SeatState) : Type 0 where
  pub below : AllByRecursion (IsBelow agents count) log
  pub seated : AllByRecursion (Seated agents count log) seats
  pub apart : AreApart seats
  pub own : AreOwnCalls agents log

pub none_stands : (agents : ℕ) → Stands agents 0 [] []
none_stands agents = record { below = tt; seated = tt; apart = tt; own = tt }

other_caller : (agents a b c : ℕ) → c ≡ agents + a → b ≢ a → c ≢ agents + b
other_caller agents a b c is differ e = differ (omega (arith, is, e))

others_of : (agents a b : ℕ) (es : History) → b ≢ a → AreOf (agents + a) es → AllByRecursion (λ (e : Entry). e.caller ≢ agents + b) es
others_of agents a b es differ of =
    all_map (λ (e : Entry). e.caller ≡ agents + a) (λ (e : Entry). e.caller ≢ agents + b) es (λ e is. other_caller agents a b e.caller is differ) of

-- this was heard of one visitor, and these calls were made of its seat
took_stands : (agents count : ℕ) (log : Log) (seats : List SeatState) (place : ℕ) (v : Visiting) (s t : SeatState) (es : History) → slice_get seats place ≡ Some s
    → ComesBelow count v → ((x : SeatState) → x.visitor ≢ s.visitor → IsNoLeaving x.visitor (heard v)) → t.visitor ≡ s.visitor → s.visitor ≤ count → AreOf (agents + s.visitor) es
    → Took agents count (heard v ∷ log) es t → Stands agents count log seats → Stands agents count (logged (heard v ∷ log) es) (slice_set seats place t)
took_stands agents count log seats place v s t es at comes unleft same least of took h = record {
  below = logged_below es agents count s.visitor (heard v ∷ log) least of (comes, h.below);
  seated = set_others (Seated agents count log) (Seated agents count (logged (heard v ∷ log) es)) seats place s t at h.apart h.seated took.seated others;
  apart = set_apart seats place s t at same h.apart;
  own = took.own h.own;
} where
  others : (x : SeatState) → x.visitor ≢ s.visitor → Seated agents count log x → Seated agents count (logged (heard v ∷ log) es) x
  others x differ g =
      seated_over es agents count (heard v ∷ log) x (others_of agents s.visitor x.visitor es differ of)
      (seated_on agents count (heard v) log x tt (unleft x differ) g)

-- this was heard, and no seat changed
heard_stands : (agents count : ℕ) (log : Log) (seats : List SeatState) (v : Visiting) → ComesBelow count v
    → AllByRecursion (λ (x : SeatState). x.leaving ≡ false → IsNoLeaving x.visitor (heard v)) seats → Stands agents count log seats → Stands agents count (heard v ∷ log) seats
heard_stands agents count log seats v comes unleft h = record {
  below = (comes, h.below);
  seated = each seats unleft h.seated;
  apart = h.apart;
  own = h.own;
} where
  each : (xs : List SeatState) → AllByRecursion (λ (x : SeatState). x.leaving ≡ false → IsNoLeaving x.visitor (heard v)) xs → AllByRecursion (Seated agents count log) xs
      → AllByRecursion (Seated agents count (heard v ∷ log)) xs
  each [] a b = tt
  each (x ∷ xs) a b = (seated_by agents count (heard v) log x tt a.0 b.0, each xs a.1 b.1)

all_true : {A : Type 0} (P : A → Type 0) (xs : List A) → ((x : A) → P x) → AllByRecursion P xs
all_true P [] f = tt
all_true P (x ∷ xs) f = (f x, all_true P xs f)

-- ---- who comes

abbrev come_log : ℕ → Bool → Log → Log
come_log count guest log = heard (desk.Came (count + 1) guest) ∷ log

come_stands : (agents count : ℕ) (log : Log) (seats : List SeatState) (guest : Bool) → Stands agents count log seats
    → Stands agents (count + 1) (heard (desk.Came (count + 1) guest) ∷ log) (seats ++ new_seat (count + 1) guest ∷ [])
come_stands agents count log seats guest h = record {
  below = (same_most (count + 1), below_more agents count (count + 1) log (one_more count) h.below);
  seated = all_append (Seated agents (count + 1) (come_log count guest log)) seats (new_seat (count + 1) guest ∷ []) (all_map (Seated agents count log) (Seated agents (count + 1) (come_log count guest log)) seats old h.seated) (new, tt);
  apart = append_apart seats (new_seat (count + 1) guest) (all_map (Seated agents count log) (λ (x : SeatState). (count + 1) ≢ x.visitor) seats (λ x g. above x.visitor g.below) h.seated) h.apart;
  own = h.own;
} where
  same_most : (n : ℕ) → n ≤ n
  same_most n = omega arith

  one_more : (n : ℕ) → n ≤ n + 1
  one_more n = omega arith

  above : (n : ℕ) → n ≤ count → (count + 1) ≢ n
  above n least e = omega (arith, least, e)

  over : count + 1 ≤ count → ⊥
  over least = omega (arith, least)

  old : (x : SeatState) → Seated agents count log x → Seated agents (count + 1) (come_log count guest log) x
  old x g = seated_more agents count (count + 1) (come_log count guest log) x (one_more count) (seated_on agents count (heard (desk.Came (count + 1) guest)) log x tt tt g)

  stays_new : ¬ HasLeft (count + 1) (come_log count guest log)
  stays_new (inl leaves) = leaves
  stays_new (inr left) = over (come_below agents count (count + 1) log h.below (came_left (count + 1) log left))

  others : AllByRecursion (IsOfOthers (agents + (count + 1))) (come_log count guest log)
  others = (tt, others_below agents count log h.below)

  new : Seated agents (count + 1) (come_log count guest log) (new_seat (count + 1) guest)
  new = record {
    came = inl refl;
    below = same_most (count + 1);
    hears = λ e. absurd (false≢true e);
    stands =
        inl
        (record {
          here = refl;
          stays = stays_new;
          owns = record { number = sym (none_number (agents + (count + 1)) (come_log count guest log) others); sessions = none_knows (agents + (count + 1)) (come_log count guest log) others };
          awaits = tt;
        });
  }

-- ---- who writes a line, or leaves

-- where a visitor has no seat, no seat is its
all_fail : {A : Type 0} (p : A → Bool) (xs : List A) → length xs ≤ position_or_len p xs → AllByRecursion (λ (x : A). p x ≡ false) xs
all_fail p [] least = tt
all_fail p (x ∷ xs) least = by_test (p x) refl least (λ h. all_fail p xs h) where
  by_test : (b : Bool) → p x ≡ b → length (x ∷ xs) ≤ cond (not b) (1 + position_or_len p xs) 0
      → (length xs ≤ position_or_len p xs → AllByRecursion (λ y. p y ≡ false) xs) → AllByRecursion (λ y. p y ≡ false) (x ∷ xs)
  by_test true e h rest = absurd (omega (arith, h))
  by_test false e h rest = (e, rest (omega (arith, h)))

none_passes : {A : Type 0} (p : A → Bool) (xs : List A) → position p xs ≡ None → AllByRecursion (λ (x : A). p x ≡ false) xs
none_passes p xs none = by_test (nat_lt (position_or_len p xs) (length xs)) refl none where
  by_test : (b : Bool) → nat_lt (position_or_len p xs) (length xs) ≡ b → cond b (Some (position_or_len p xs)) None ≡ None → AllByRecursion (λ x. p x ≡ false) xs
  by_test true e f = absurd (none-some (position_or_len p xs) (sym f))
  by_test false e f = all_fail p xs (ltb-false (position_or_len p xs) (length xs) e)

-- no seat that isn't left is this visitor's
not_here : (visitor : ℕ) (x : SeatState) → is_seat_of visitor x ≡ false → x.leaving ≡ false → visitor ≢ x.visitor
not_here visitor x none here e = eqb-false x.visitor visitor (first (x.visitor == visitor) (ap (λ (b : Bool). (x.visitor == visitor) && not b) (sym here) ∙ none)) (sym e) where
  first : (b : Bool) → (b && true) ≡ false → b ≡ false
  first true f = f
  first false f = refl

module _ (agents count now visitor : ℕ) (log : Log) (seats : List SeatState) (h : Stands agents count log seats) where
  own_seat : (s : SeatState) (place : ℕ) → slice_get seats place ≡ Some s → Seated agents count log s
  own_seat s place e = at_place (Seated agents count log) seats place s h.seated e

  line_at : (line : List ℕ) (said : Said) (place : ℕ) → place_of visitor seats ≡ Some place → (o : Option SeatState) → slice_get seats place ≡ o
      → MeantBy o line said.meaning
      → Stands agents count (logged (heard (desk.Line visitor line) ∷ log) (heard_calls (agents + visitor) now o said))
      (seats_where (λ s. said_seat now line (without_await s) said.meaning said.reply) seats place o)
  line_at line said place at None e meant = heard_stands agents count log seats (desk.Line visitor line) tt (all_true (λ (x : SeatState). x.leaving ≡ false → Unit {0}) seats (λ x e. tt)) h
  line_at line said place at (Some s) e meant =
      subst (λ (n : ℕ). Stands agents count (logged (heard (desk.Line n line) ∷ log)
      (call_made (agents + n) now (without_await s) (said_call (without_await s) said.meaning) said.reply)) (slice_set seats place (said_seat now line (without_await s) said.meaning said.reply))) f.own
      (took_stands agents count log seats place (desk.Line s.visitor line) s (said_seat now line (without_await s) said.meaning said.reply)
      (call_made (agents + s.visitor) now (without_await s) (said_call (without_await s) said.meaning) said.reply) e tt (λ x differ. tt)
      (said_same now line s said.meaning said.reply).visitor (own_seat s place e).below
      (made_of (agents + s.visitor) now (without_await s) (said_call (without_await s) said.meaning) said.reply)
      (line_took agents count now log s line said.meaning said.reply f.here (own_seat s place e) meant) h) where
        f : IsFound visitor s
        f = found_at visitor seats place s at e

  line_stands : (line : List ℕ) (said : Said) → MeantBy (seat_of visitor seats) line said.meaning
      → Stands agents count (logged (heard (desk.Line visitor line) ∷ log) (heard_calls (agents + visitor) now (seat_of visitor seats) said))
      (seats_by (λ s. said_seat now line (without_await s) said.meaning said.reply) seats (place_of visitor seats))
  line_stands line said meant = by_place (place_of visitor seats) refl meant where
    by_place : (o : Option ℕ) → place_of visitor seats ≡ o → MeantBy (seat_by seats o) line said.meaning
        → Stands agents count (logged (heard (desk.Line visitor line) ∷ log) (heard_calls (agents + visitor) now (seat_by seats o) said))
        (seats_by (λ s. said_seat now line (without_await s) said.meaning said.reply) seats o)
    by_place None e meant = heard_stands agents count log seats (desk.Line visitor line) tt (all_true (λ (x : SeatState). x.leaving ≡ false → Unit {0}) seats (λ x e. tt)) h
    by_place (Some place) e meant = line_at line said place e (slice_get seats place) refl meant

  left_at : (r : Reply) (place : ℕ) → place_of visitor seats ≡ Some place → (o : Option SeatState) → slice_get seats place ≡ o
      → Stands agents count (logged (heard (desk.Left visitor) ∷ log) (left_calls (agents + visitor) now o r)) (seats_where (λ s. seat_left s r) seats place o)
  left_at r place at None e =
      let p = position-Some (is_seat_of visitor) seats place (new_seat 0 false) at in
      absurd (none-some (get_or seats place (new_seat 0 false)) (sym e ∙ slice_get-get_or seats place (new_seat 0 false) p.0))
  left_at r place at (Some s) e =
      subst (λ (n : ℕ). Stands agents count (logged (heard (desk.Left n) ∷ log) (call_made (agents + n) now (leaving s) (goodbye_call (leaving s)) r))
      (slice_set seats place (seat_left s r))) f.own
      (took_stands agents count log seats place (desk.Left s.visitor) s (seat_left s r) (call_made (agents + s.visitor) now (leaving s) (goodbye_call (leaving s)) r) e tt
      (λ x differ same. differ (sym same)) (left_same s r).visitor (own_seat s place e).below (made_of (agents + s.visitor) now (leaving s) (goodbye_call (leaving s)) r)
      (left_took agents count now log s r f.here (own_seat s place e)) h) where
        f : IsFound visitor s
        f = found_at visitor seats place s at e

  left_stands : (r : Reply) → Stands agents count (logged (heard (desk.Left visitor) ∷ log) (left_calls (agents + visitor) now (seat_of visitor seats) r))
      (seats_by (λ s. seat_left s r) seats (place_of visitor seats))
  left_stands r = by_place (place_of visitor seats) refl where
    by_place : (o : Option ℕ) → place_of visitor seats ≡ o
        → Stands agents count (logged (heard (desk.Left visitor) ∷ log) (left_calls (agents + visitor) now (seat_by seats o) r)) (seats_by (λ s. seat_left s r) seats o)
    by_place None e =
        heard_stands agents count log seats (desk.Left visitor) tt
        (all_map (λ (x : SeatState). is_seat_of visitor x ≡ false) (λ (x : SeatState). x.leaving ≡ false → IsNoLeaving x.visitor (heard (desk.Left visitor))) seats
        (λ x none here. not_here visitor x none here) (none_passes (is_seat_of visitor) seats e)) h
    by_place (Some place) e = left_at r place e (slice_get seats place) refl

-- ---- visits

visit_stands : (agents count after now : ℕ) (x : Visiting) (said : Said) (seats : List SeatState) (log : Log) → IsNext count after x → VisitMeans seats x said
    → Stands agents count log seats → Stands agents after (logged (heard x ∷ log) (visit_calls agents now seats x said)) (seats_visited now seats x said)
visit_stands agents count after now (desk.Came visitor guest) said seats log next means h =
    subst (λ (n : ℕ). Stands agents n (heard (desk.Came visitor guest) ∷ log) (seats ++ new_seat visitor guest ∷ [])) (sym next.1)
    (subst (λ (v : ℕ). Stands agents (count + 1) (heard (desk.Came v guest) ∷ log) (seats ++ new_seat v guest ∷ [])) (sym next.0) (come_stands agents count log seats guest h))
visit_stands agents count after now (desk.Line visitor line) said seats log next means h =
    subst (λ (n : ℕ). Stands agents n (logged (heard (desk.Line visitor line) ∷ log) (visit_calls agents now seats (desk.Line visitor line) said))
    (seats_visited now seats (desk.Line visitor line) said)) (sym next) (line_stands agents count now visitor log seats h line said means)
visit_stands agents count after now (desk.Left visitor) said seats log next means h =
    subst (λ (n : ℕ). Stands agents n (logged (heard (desk.Left visitor) ∷ log) (visit_calls agents now seats (desk.Left visitor) said))
    (seats_visited now seats (desk.Left visitor) said)) (sym next) (left_stands agents count now visitor log seats h said.reply)
visit_stands agents count after now desk.Nothing said seats log next means h =
    subst (λ (n : ℕ). Stands agents n (heard desk.Nothing ∷ log) seats) (sym next)
    (heard_stands agents count log seats desk.Nothing tt (all_true (λ (x : SeatState). x.leaving ≡ false → Unit {0}) seats (λ x e. tt)) h)
visit_stands agents count after now desk.OutOfMemory said seats log next means h =
    subst (λ (n : ℕ). Stands agents n (heard desk.OutOfMemory ∷ log) seats) (sym next)
    (heard_stands agents count log seats desk.OutOfMemory tt (all_true (λ (x : SeatState). x.leaving ≡ false → Unit {0}) seats (λ x e. tt)) h)

visits_stand : (vs : List Visited) (agents count after now : ℕ) (seats : List SeatState) (log : Log) → AreNext count (visitings vs) after → AllMean now seats vs
    → Stands agents count log seats → Stands agents after (log_visits agents now seats vs log) (seats_after now seats vs)
visits_stand [] agents count after now seats log next mean h = subst (λ (n : ℕ). Stands agents n log seats) (sym next) h
visits_stand (v ∷ vs) agents count after now seats log next mean h =
    visits_stand vs agents next.0 after now (seats_visited now seats v.visiting v.said) (logged (heard v.visiting ∷ log) (visit_calls agents now seats v.visiting v.said))
    next.2 mean.1 (visit_stands agents count next.0 now v.visiting v.said seats log next.1 mean.0 h)

-- ---- seats that are seen to

tend_of : (agents now : ℕ) (s : SeatState) (r : Reply) → AreOf (agents + s.visitor) (tend_calls agents now s r)
tend_of agents now s r = made_of (agents + s.visitor) now (tend_seat s) (tend_call s) r

tends_over : (seats : List SeatState) (rs : List Reply) (agents count now : ℕ) (log : Log) (t : SeatState) → AllByRecursion (λ (x : SeatState). x.visitor ≢ t.visitor) seats
    → Seated agents count log t → Seated agents count (log_tends agents now seats rs log) t
tends_over [] rs agents count now log t apart g = g
tends_over (s ∷ seats) [] agents count now log t apart g = g
tends_over (s ∷ seats) (r ∷ rs) agents count now log t apart g =
    tends_over seats rs agents count now (logged log (tend_calls agents now s r)) t apart.1
    (seated_over (tend_calls agents now s r) agents count log t
    (others_of agents s.visitor t.visitor (tend_calls agents now s r) (λ e. apart.0 (sym e)) (tend_of agents now s r)) g)

-- the log behind it is in order, and so are the seats
record Tended (agents count : ℕ) (log : Log) (seats : List SeatState) : Type 0 where
  below : AllByRecursion (IsBelow agents count) log
  seated : AllByRecursion (Seated agents count log) seats
  own : AreOwnCalls agents log

-- one seat was seen to, with those behind it still to come
module _ (agents count now : ℕ) (log : Log) (s : SeatState) (r : Reply) (seats : List SeatState) (rs : List Reply) (apart : AreApart (s ∷ seats))
    (h : Tended agents count log (s ∷ seats)) where
  abbrev next : Log
  next = logged log (tend_calls agents now s r)

  took : Took agents count log (tend_calls agents now s r) (tended now s r)
  took = tended_took agents count now log s r h.seated.0

  others : (xs : List SeatState) → AllByRecursion (λ (x : SeatState). x.visitor ≢ s.visitor) xs → AllByRecursion (Seated agents count log) xs
      → AllByRecursion (Seated agents count next) xs
  others [] a b = tt
  others (x ∷ xs) a b = (
    seated_over (tend_calls agents now s r) agents count log x
        (others_of agents s.visitor x.visitor (tend_calls agents now s r) a.0 (tend_of agents now s r)) b.0,
    others xs a.1 b.1,
  )

  behind : Tended agents count next seats
  behind = record {
    below = logged_below (tend_calls agents now s r) agents count s.visitor log h.seated.0.below (tend_of agents now s r) h.below;
    seated = others seats apart.0 h.seated.1;
    own = took.own h.own;
  }

  first : Seated agents count (log_tends agents now seats rs next) (tended now s r)
  first =
      tends_over seats rs agents count now next (tended now s r)
      (subst (λ (n : ℕ). AllByRecursion (λ (x : SeatState). x.visitor ≢ n) seats) (sym (tended_same now s r).visitor) apart.0) took.seated

  with_first : Tended agents count (log_tends agents now seats rs next) (each_after (tended now) seats rs)
      → Tended agents count (log_tends agents now (s ∷ seats) (r ∷ rs) log) (each_after (tended now) (s ∷ seats) (r ∷ rs))
  with_first rest = record { below = rest.below; seated = (first, rest.seated); own = rest.own }

tends_stand : (seats : List SeatState) (rs : List Reply) (agents count now : ℕ) (log : Log) → AreApart seats → Tended agents count log seats
    → Tended agents count (log_tends agents now seats rs log) (each_after (tended now) seats rs)
tends_stand [] rs agents count now log apart h = record { below = h.below; seated = tt; own = h.own }
tends_stand (s ∷ seats) [] agents count now log apart h = h
tends_stand (s ∷ seats) (r ∷ rs) agents count now log apart h =
    with_first agents count now log s r seats rs apart h
    (tends_stand seats rs agents count now (logged log (tend_calls agents now s r)) apart.1 (behind agents count now log s r seats rs apart h))

-- ---- sittings

sitting_stands : (agents count after : ℕ) (x : Sitting) (seats : List SeatState) (log : Log) → AreNext count (visitings x.visits) after → AllMean x.now seats x.visits
    → Stands agents count log seats → Stands agents after (log_sitting agents seats x log) (seats_left seats x)
sitting_stands agents count after x seats log next mean h =
    let v : Stands agents after (log_visits agents x.now seats x.visits log) (seats_heard seats x) = visits_stand x.visits agents count after x.now seats log next mean h in
    let t : Tended agents after (log_sitting agents seats x log) (each_after (tended x.now) (seats_heard seats x) x.replies) =
    tends_stand (seats_heard seats x) x.replies agents after x.now (log_visits agents x.now seats x.visits log) v.apart
    (record { below = v.below; seated = v.seated; own = v.own }) in
    record {
      below = t.below;
      seated = filter_all (Seated agents after (log_sitting agents seats x log)) stays (each_after (tended x.now) (seats_heard seats x) x.replies) t.seated;
      apart =
          filter_apart stays (each_after (tended x.now) (seats_heard seats x) x.replies)
          (each_apart (tended x.now) (λ s r. (tended_same x.now s r).visitor) (seats_heard seats x) x.replies v.apart);
      own = t.own;
    }

next_split : (vs ws : List Visiting) (a c : ℕ) → AreNext a (vs ++ ws) c → (b : ℕ) × AreNext a vs b × AreNext b ws c
next_split [] ws a c next = (a, refl, next)
next_split (v ∷ vs) ws a c next = let r = next_split vs ws next.0 c next.2 in (r.0, (next.0, next.1, r.1), r.2)

pub sittings_stand : (xs : List Sitting) (agents count after : ℕ) (seats : List SeatState) (log : Log) → AreNext count (all_visitings xs) after → SittingsMean seats xs
    → Stands agents count log seats → Stands agents after (log_sittings agents seats xs log) (seats_at_last seats xs)
sittings_stand [] agents count after seats log next mean h = subst (λ (n : ℕ). Stands agents n log seats) (sym next) h
sittings_stand (x ∷ xs) agents count after seats log next mean h =
    let r = next_split (visitings x.visits) (all_visitings xs) count after next in
    sittings_stand xs agents r.0 after (seats_left seats x) (log_sitting agents seats x log) r.2 mean.1
    (sitting_stands agents count r.0 x seats log r.1 mean.0 h)
