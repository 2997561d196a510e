-- Guests order nothing: whatever they write, the house stays as it is, and their orders are denied.
use Rattle.std.specs.List.{AllByRecursion}
use Rattle.std.specs.Prelude.{◌≡◌, ℕ, true, List, [], ◌∷◌, ◌++◌, Some, codes}
use Rattle.grasp_control.specs.Answers.{answer_line}
use Rattle.grasp_control.specs.declared.request.Request.{Request}
use Rattle.grasp_control.specs.declared.request.Request.TheVariants as request
use Rattle.grasp_crew.specs.Seats.{SeatState}
use Rattle.grasp_crew.specs.declared.servant.Servant.{Servant}
use Rattle.grasp_desk.specs.declared.desk.Visiting.{Visiting}
use Rattle.grasp_desk.specs.declared.desk.Visiting.TheVariants as desk
use Rattle.grasp_service_visits.specs.Answers.{told_to}
use Rattle.grasp_service_visits.specs.Serving.{HouseState}
use Rattle.grasp_service_visits.specs.Visits.{Said, Visited, asks, ended_told, house_after, house_visited, seat_of, visit_told}

-- what orders a node: a want, or that one is taken back; how much is logged; or that the node is to end
abbrev pub IsOrder : Request → Type 0
IsOrder (request.Want least most peer) = Unit {0}
IsOrder (request.Unwant number) = Unit {0}
IsOrder (request.Log level) = Unit {0}
IsOrder request.Stop = Unit {0}
IsOrder _ = ⊥

abbrev pub AreGuests : List SeatState → Type 0
AreGuests seats = AllByRecursion (λ s. s.guest ≡ true) seats

-- a visitor that comes comes in by the door for guests
abbrev pub ComesAsGuest : Visiting → Type 0
ComesAsGuest (desk.Came visitor guest) = guest ≡ true
ComesAsGuest _ = Unit {0}

pub record GuestsOrderNothing : Type 0 where
  -- where all visitors are guests, and all that come, the house is the same after all that they write
  pub house : (now : ℕ) (seats : List SeatState) (h : HouseState) (vs : List Visited) → AreGuests seats → AllByRecursion (λ v. ComesAsGuest v.visiting) vs
      → house_after now seats h vs ≡ h
  -- whoever else is there, a line of a guest leaves it as it was
  pub line : (seats : List SeatState) (h : HouseState) (visitor : ℕ) (line : List ℕ) (said : Said) (s : SeatState) → seat_of visitor seats ≡ Some s
      → s.guest ≡ true → house_visited seats h (desk.Line visitor line) said ≡ h
  -- and an order of a guest is answered that it is denied, behind what the guest was told of a call that it waited for
  pub denied : (crew after : List Servant) (seats : List SeatState) (visitor : ℕ) (line : List ℕ) (said : Said) (s : SeatState) (q : Request)
      → seat_of visitor seats ≡ Some s → s.guest ≡ true → said.meaning ≡ asks q → IsOrder q
      → visit_told crew after seats (desk.Line visitor line) said
      ≡ ended_told s ++ told_to visitor (answer_line line (codes "error" ∷ codes "denied" ∷ [])) ∷ []
