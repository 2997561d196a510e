-- Orders of visitors: they change what the agent of prefixes is to want, and no agent.
use Rattle.std.proofs.Common.{ℕ, ◌-◌, Bool, true, false, cond, List, [], ◌∷◌, Option, Some, None}
use Rattle.std.specs.Prelude.{nat_lt}
use Rattle.grasp_agent.specs.States.{AgentState}
use Rattle.grasp_control.specs.Requests.{IsRequestLine}
use Rattle.grasp_control.specs.declared.request.Request.{Request}
use Rattle.grasp_control.specs.declared.request.Request.TheVariants as request
use Rattle.grasp_crew.specs.Nudges.{Wanted}
use Rattle.grasp_crew.specs.Seats.{SeatState, without_await}
use Rattle.grasp_crew.specs.declared.servant.Servant.{Servant}
use Rattle.grasp_crew.specs.declared.servant.Servant.TheVariants.{Herald, Listener, Steward}
use Rattle.grasp_desk.specs.declared.desk.Visiting.{Visiting}
use Rattle.grasp_desk.specs.declared.desk.Visiting.TheVariants as desk
use Rattle.grasp_laws_serving.proofs.Agents.{IsCrew}
use Rattle.grasp_laws_serving.proofs.Happenings.{all_append}
use Rattle.grasp_model_network.specs.Events.{AreLengths}
use Rattle.grasp_service_visits.specs.Serving.{HouseState, are_lengths, house_ordered, house_to, is_order, is_want, most_wants, want_count, wants_added, wants_dropped, with_want_of, without_want_of}
use Rattle.grasp_types.specs.declared.address.Locator.{Locator}
use Rattle.grasp_service_visits.specs.Visits.{AllMean, IsMeant, Meaning, MeantBy, Said, VisitMeans, Visited, asks, bad, house_after, house_heard, house_visited, said_house, seat_of, seats_visited}

adding : (a : AgentState) (crew : List Servant) (w : Wanted) → AreLengths w.length w.longest → IsCrew a crew → IsCrew a (with_want_of crew w)
adding a [] w h c = absurd c
adding a (Steward m ∷ crew) w h c = (c.0, all_append (λ (x : Wanted). AreLengths x.length x.longest) m.wants (w ∷ []) c.1 (h, tt), c.2)
adding a (Herald b ∷ crew) w h c = absurd c
adding a (Listener l ∷ crew) w h c = absurd c

dropping : (a : AgentState) (crew : List Servant) (place : ℕ) → IsCrew a crew → IsCrew a (without_want_of crew place)
dropping a [] place c = absurd c
dropping a (Steward m ∷ crew) place c = c
dropping a (Herald b ∷ crew) place c = absurd c
dropping a (Listener l ∷ crew) place c = absurd c

either : (a : AgentState) (xs ys : List Servant) (b : Bool) → IsCrew a xs → IsCrew a ys → IsCrew a (cond b xs ys)
either a xs ys true h k = h
either a xs ys false h k = k

added_is : (a : AgentState) (crew : List Servant) (w : Wanted) → AreLengths w.length w.longest → IsCrew a crew → IsCrew a (wants_added crew w)
added_is a crew w h c = either a (with_want_of crew w) crew (nat_lt (want_count crew) most_wants) (adding a crew w h c) c

dropped_is : (a : AgentState) (crew : List Servant) (number : ℕ) → IsCrew a crew → IsCrew a (wants_dropped crew number)
dropped_is a crew number c = either a (without_want_of crew (number - 1)) crew (is_want crew number) (dropping a crew (number - 1) c) c

abbrev a_want : ℕ → ℕ → Locator → Wanted
a_want length longest peer = record { length = length; longest = longest; peer = peer }

-- an order that a line means
ordered_is : (a : AgentState) (h : HouseState) (line : List ℕ) (q : Request) → IsRequestLine line q → IsCrew a h.crew → IsCrew a (house_ordered h q).crew
ordered_is a h line (request.Want least most peer) meant c = by_lengths (are_lengths least most) where
  lengths : AreLengths least most
  lengths = record { least = meant.ranges.0; rising = meant.ranges.1; most = meant.ranges.2 }

  by_lengths : (b : Bool) → IsCrew a (cond b (record h { crew = wants_added h.crew (a_want least most peer) }) h).crew
  by_lengths true = added_is a h.crew (a_want least most peer) lengths c
  by_lengths false = c
ordered_is a h line (request.Unwant number) meant c = dropped_is a h.crew number c
ordered_is a h line (request.Log level) meant c = c
ordered_is a h line request.Stop meant c = c
ordered_is a h line _ meant c = c

to_is : (a : AgentState) (s : SeatState) (h : HouseState) (line : List ℕ) (q : Request) → IsRequestLine line q → IsCrew a h.crew → IsCrew a (house_to s h q).crew
to_is a s h line q meant c = by_order (is_order q) s.guest where
  by_order : (order guest : Bool) → IsCrew a (cond order (cond guest h (house_ordered h q)) h).crew
  by_order true true = c
  by_order true false = ordered_is a h line q meant c
  by_order false guest = c

said_is : (a : AgentState) (s : SeatState) (h : HouseState) (line : List ℕ) (m : Meaning) → IsMeant line m → IsCrew a h.crew → IsCrew a (said_house s h m).crew
said_is a s h line (asks q) meant c = to_is a s h line q meant c
said_is a s h line (bad at) meant c = c

heard_is : (a : AgentState) (o : Option SeatState) (h : HouseState) (line : List ℕ) (m : Meaning) → MeantBy o line m → IsCrew a h.crew → IsCrew a (house_heard o h m).crew
heard_is a None h line m meant c = c
heard_is a (Some s) h line m meant c = said_is a (without_await s) h line m meant c

visited_is : (a : AgentState) (seats : List SeatState) (h : HouseState) (v : Visiting) (said : Said) → VisitMeans seats v said → IsCrew a h.crew → IsCrew a (house_visited seats h v said).crew
visited_is a seats h (desk.Line visitor line) said means c = heard_is a (seat_of visitor seats) h line said.meaning means c
visited_is a seats h (desk.Came visitor guest) said means c = c
visited_is a seats h (desk.Left visitor) said means c = c
visited_is a seats h desk.Nothing said means c = c
visited_is a seats h desk.OutOfMemory said means c = c

-- whatever visitors say, the agent of prefixes is the one before, and each of its wants asks for a prefix
pub crew_after : (vs : List Visited) (a : AgentState) (now : ℕ) (seats : List SeatState) (h : HouseState) → AllMean now seats vs → IsCrew a h.crew → IsCrew a (house_after now seats h vs).crew
crew_after [] a now seats h means c = c
crew_after (v ∷ vs) a now seats h means c =
    crew_after vs a now (seats_visited now seats v.visiting v.said) (house_visited seats h v.visiting v.said) means.1 (visited_is a seats h v.visiting v.said means.0 c)
