-- Rounds are sittings.
use Rattle.std.proofs.Common.{◌≡◌, refl, sym, ap, ◌∙◌, subst, ◌⊎◌, inl, inr, ℕ, suc, ◌-◌, ◌<◌, ◌++◌, Bool, true, false, cond, map, List, [], ◌∷◌, length, Option, Some, None}
use Rattle.grasp_control.specs.declared.request.Request.{Request}
use Rattle.grasp_control.specs.declared.request.Request.TheVariants as request
use Rattle.grasp_crew.specs.Nudges.{Wanted}
use Rattle.grasp_crew.specs.Seats.{SeatState, without_await}
use Rattle.grasp_crew.specs.Servants.{woken}
use Rattle.grasp_crew.specs.declared.servant.Servant.{Servant}
use Rattle.grasp_desk.specs.declared.desk.Visiting.{Visiting}
use Rattle.grasp_desk.specs.declared.desk.Visiting.TheVariants as desk
use Rattle.grasp_laws_visits.specs.Logs.{AreNext, SittingsMean, all_sitting_calls, all_visitings, seats_at_last}
use Rattle.grasp_laws_visits.specs.Rounds.{RoundsAreSittings, all_visitor_calls, sittings_of}
use Rattle.grasp_service.specs.Deeds.{after_deed}
use Rattle.grasp_service.specs.Exchanges.{has_come}
use Rattle.grasp_service.specs.Rounds.{AreRounds, Outside, Round, TellsDesk, TellsRounds, crew_in, house_acted, round_after, rounds_after, stirs, visitor_calls, woken_crew}
use Rattle.grasp_service.specs.States.{ServiceState}
use Rattle.grasp_service_visits.specs.Desks.{AsksInVain, DeskTold, VisitsAll, VisitsUntil}
use Rattle.grasp_service_visits.specs.Each.{each_after}
use Rattle.grasp_service_visits.specs.Serving.{HouseState, are_lengths, house_ordered, is_order, is_want, most_wants, wants_added, want_count, with_want_of, without_want_of}
use Rattle.grasp_service_visits.specs.Visits.{Meaning, Said, Visited, asks, bad, house_after, house_heard, house_visited, said_house, seat_of, seats_visited, visitings}
use Rattle.grasp_shared.specs.History.{History}
use Rattle.grasp_types.specs.declared.address.Locator.{Locator}
use Rattle.std.specs.Prelude.{nat_lt}

-- ---- as many agents

each_length : {A B : Type 0} (f : A → B → A) (xs : List A) (ys : List B) → length (each_after f xs ys) ≡ length xs
each_length f [] ys = refl
each_length f (x ∷ xs) [] = refl
each_length f (x ∷ xs) (y ∷ ys) = ap (λ (n : ℕ). suc n) (each_length f xs ys)

map_length : {A B : Type 0} (f : A → B) (xs : List A) → length (map f xs) ≡ length xs
map_length f [] = refl
map_length f (x ∷ xs) = ap (λ (n : ℕ). suc n) (map_length f xs)

woken_length : (b : Bool) (crew : List Servant) → length (woken_crew b crew) ≡ length crew
woken_length true crew = map_length woken crew
woken_length false crew = refl

with_length : (crew : List Servant) (w : Wanted) → length (with_want_of crew w) ≡ length crew
with_length [] w = refl
with_length (m ∷ crew) w = refl

without_length : (crew : List Servant) (place : ℕ) → length (without_want_of crew place) ≡ length crew
without_length [] place = refl
without_length (m ∷ crew) place = refl

length_if : (b : Bool) (xs ys : List Servant) → length xs ≡ length ys → length (cond b xs ys) ≡ length ys
length_if true xs ys e = e
length_if false xs ys e = refl

abbrev a_want : ℕ → ℕ → Locator → Wanted
a_want least most peer = record { length = least; longest = most; peer = peer }

ordered_length : (h : HouseState) (q : Request) → length (house_ordered h q).crew ≡ length h.crew
ordered_length h (request.Want least most peer) = by_lengths (are_lengths least most) where
  by_lengths : (b : Bool) → length (cond b (record h { crew = wants_added h.crew (a_want least most peer) }) h).crew ≡ length h.crew
  by_lengths true =
      length_if (nat_lt (want_count h.crew) most_wants) (with_want_of h.crew (a_want least most peer)) h.crew (with_length h.crew (a_want least most peer))
  by_lengths false = refl
ordered_length h (request.Unwant number) =
    length_if (is_want h.crew number) (without_want_of h.crew (number - 1)) h.crew (without_length h.crew (number - 1))
ordered_length h _ = refl

said_length : (s : SeatState) (h : HouseState) (m : Meaning) → length (said_house s h m).crew ≡ length h.crew
said_length s h (asks q) = by_order (is_order q) s.guest where
  by_order : (order g : Bool) → length (cond order (cond g h (house_ordered h q)) h).crew ≡ length h.crew
  by_order true true = refl
  by_order true false = ordered_length h q
  by_order false g = refl
said_length s h (bad at) = refl

heard_length : (o : Option SeatState) (h : HouseState) (m : Meaning) → length (house_heard o h m).crew ≡ length h.crew
heard_length None h m = refl
heard_length (Some s) h m = said_length (without_await s) h m

visited_length : (seats : List SeatState) (h : HouseState) (x : Visiting) (said : Said) → length (house_visited seats h x said).crew ≡ length h.crew
visited_length seats h (desk.Line visitor line) said = heard_length (seat_of visitor seats) h said.meaning
visited_length seats h _ said = refl

after_length : (vs : List Visited) (now : ℕ) (seats : List SeatState) (h : HouseState) → length (house_after now seats h vs).crew ≡ length h.crew
after_length [] now seats h = refl
after_length (v ∷ vs) now seats h =
    after_length vs now (seats_visited now seats v.visiting v.said) (house_visited seats h v.visiting v.said) ∙ visited_length seats h v.visiting v.said

round_length : (s : ServiceState) (r : Round) → length (round_after s r).house.crew ≡ length s.house.crew
round_length s r =
    after_length r.visits r.turn.now s.seats (house_acted s r)
    ∙ (each_length (after_deed r.turn.now) (crew_in s r.turn) r.deeds ∙ woken_length (stirs s r.turn.now (has_come r.turn.asking)) s.house.crew)

-- ---- sittings

seats_are : (rs : List Round) (s : ServiceState) → (rounds_after s rs).seats ≡ seats_at_last s.seats (sittings_of rs)
seats_are [] s = refl
seats_are (r ∷ rs) s = seats_are rs (round_after s r)

calls_are : (rs : List Round) (s : ServiceState) → all_visitor_calls s rs ≡ all_sitting_calls (length s.house.crew) s.seats (sittings_of rs)
calls_are [] s = refl
calls_are (r ∷ rs) s =
    ap (λ (h : History). visitor_calls s r ++ h)
    (calls_are rs (round_after s r) ∙ ap (λ (n : ℕ). all_sitting_calls n (round_after s r).seats (sittings_of rs)) (round_length s r))

mean_so : (rs : List Round) (s : ServiceState) → AreRounds s rs → SittingsMean s.seats (sittings_of rs)
mean_so [] s are = tt
mean_so (r ∷ rs) s are = (are.0.mean, mean_so rs (round_after s r) are.1)

-- ---- numbers

all_next : (vs : List Visiting) (old new : DeskTold) → VisitsAll old vs new → AreNext old.came vs new.came
all_next [] old new all = all.came
all_next (v ∷ vs) old new all = (all.0.came, all.1.next, all_next vs all.0 new all.2)

until_next : (most : ℕ) (vs : List Visiting) (old new : DeskTold) → VisitsUntil most old vs new → AreNext old.came vs new.came
until_next most vs old new until = by_end until.ends where
  by_end : ((length vs < most) × AsksInVain until.middle new) ⊎ ((length vs ≡ most) × (new ≡ until.middle)) → AreNext old.came vs new.came
  by_end (inl e) = subst (AreNext old.came vs) (sym e.1.came) (all_next vs old until.middle until.came)
  by_end (inr e) = subst (λ (d : DeskTold). AreNext old.came vs d.came) (sym e.1) (all_next vs old until.middle until.came)

desk_next : (s : ServiceState) (r : Round) (old new : DeskTold) → TellsDesk old s r new → AreNext old.came (visitings r.visits) new.came
desk_next s r old new tells = subst (AreNext old.came (visitings r.visits)) (sym tells.told.came) (until_next 16 (visitings r.visits) old tells.middle tells.came)

next_append : (vs ws : List Visiting) (a b c : ℕ) → AreNext a vs b → AreNext b ws c → AreNext a (vs ++ ws) c
next_append [] ws a b c first rest = subst (λ (n : ℕ). AreNext n ws c) first rest
next_append (v ∷ vs) ws a b c first rest = (first.0, first.1, next_append vs ws first.0 b c first.2 rest)

next_are : (rs : List Round) (before after : Outside) (s : ServiceState) → TellsRounds before s rs after → AreNext before.desk.came (all_visitings (sittings_of rs)) after.desk.came
next_are [] before after s tells = ap (λ (o : Outside). o.desk.came) tells
next_are (r ∷ rs) before after s tells =
    next_append (visitings r.visits) (all_visitings (sittings_of rs)) before.desk.came tells.0.desk.came after.desk.came
    (desk_next s r before.desk tells.0.desk tells.1.desk) (next_are rs tells.0 after (round_after s r) tells.2)

pub rounds_are_sittings : RoundsAreSittings
rounds_are_sittings = record {
  seats = λ s rs. seats_are rs s;
  calls = λ s rs. calls_are rs s;
  mean = λ s rs are. mean_so rs s are;
  next = λ before after s rs tells. next_are rs before after s tells;
}
