-- What visitors change of a house they ordered, and they are no guests.
use Rattle.std.specs.List.{AllByRecursion}
use Rattle.std.specs.Prelude.{◌≡◌, ◌⊎◌, ℕ, ◌-◌, ◌<◌, ◌≤◌, true, false, List, [], ◌∷◌, ◌++◌, length, Some}
use Rattle.grasp_control.specs.Requests.{IsRequestLine}
use Rattle.grasp_control.specs.declared.request.Request.{Request}
use Rattle.grasp_control.specs.declared.request.Request.TheVariants as request
use Rattle.grasp_crew.specs.Nudges.{Wanted}
use Rattle.grasp_crew.specs.Seats.{SeatState}
use Rattle.grasp_crew.specs.Steward.{StewardState, tries_with}
use Rattle.grasp_crew.specs.Trying.{dropped, untried}
use Rattle.grasp_crew.specs.declared.servant.Servant.{Servant}
use Rattle.grasp_crew.specs.declared.servant.Servant.TheVariants.{Steward}
use Rattle.grasp_desk.specs.declared.desk.Visiting.TheVariants as desk
use Rattle.grasp_service_visits.specs.Serving.{HouseState}
use Rattle.grasp_service_visits.specs.Visits.{AllMean, Said, Visited, house_after, seat_of, seats_after}

-- among all that came of visitors is the line of this request, of a visitor whose seat was no guest's at that moment
pub record WasOrdered (now : ℕ) (seats : List SeatState) (vs : List Visited) (q : Request) : Type 0 where
  pub before : List Visited
  pub after : List Visited
  pub visitor : ℕ
  pub line : List ℕ
  pub said : Said
  pub are : vs ≡ before ++ record { visiting = desk.Line visitor line; said = said } ∷ after
  pub seat : SeatState
  pub sits : seat_of visitor (seats_after now seats before) ≡ Some seat
  pub no_guest : seat.guest ≡ false
  pub written : IsRequestLine line q

-- ---- wants

-- a change of what the agent of prefixes wants: one want more, or the one of this number taken back
pub data Change : Type 0 where
  adds : Wanted → Change
  drops : ℕ → Change

-- the order that asks for it
abbrev pub order_of : Change → Request
order_of (adds w) = request.Want w.length w.longest w.peer
order_of (drops number) = request.Unwant number

-- The agent is as before, but that it has this want more, behind the others, of which it had 255 at most. Or the try of the want of this number is dropped,
-- where wants are numbered from 1.
abbrev pub IsChanged : StewardState → Change → StewardState → Type 0
IsChanged m (adds w) n = (length m.wants < 256) × (n ≡ record m { wants = m.wants ++ w ∷ []; tries = m.tries ++ untried m.pace ∷ [] })
IsChanged m (drops number) n = (1 ≤ number) × (number ≤ length m.wants) × (n ≡ record m { tries = tries_with dropped m.tries (number - 1) })

-- these changes led from the one to the other
abbrev pub AreChanged : StewardState → List Change → StewardState → Type 0
AreChanged m [] n = n ≡ m
AreChanged m (c ∷ cs) n = (middle : StewardState) × IsChanged m c middle × AreChanged middle cs n

-- the agents are the same, but that these changes were made of the wants of the first
pub record IsCrewChanged (m : StewardState) (crew : List Servant) (changes : List Change) (after : List Servant) : Type 0 where
  pub first : StewardState
  pub changed : AreChanged m changes first
  pub are : after ≡ Steward first ∷ crew

-- ---- the law

pub record ChangesWereOrdered : Type 0 where
  -- a node is to end where it was to end before, or a visitor ordered that
  pub stopping : (now : ℕ) (seats : List SeatState) (h : HouseState) (vs : List Visited) → AllMean now seats vs
      → ((house_after now seats h vs).stopping ≡ h.stopping) ⊎ (((house_after now seats h vs).stopping ≡ true) × WasOrdered now seats vs request.Stop)
  -- as much is logged as before, or as a visitor ordered
  pub level : (now : ℕ) (seats : List SeatState) (h : HouseState) (vs : List Visited) → AllMean now seats vs
      → ((house_after now seats h vs).level ≡ h.level) ⊎ WasOrdered now seats vs (request.Log (house_after now seats h vs).level)
  -- no agent comes or goes, and the first wants what visitors ordered, each with just the lengths and the peer of its order
  pub crew : (now : ℕ) (seats : List SeatState) (h : HouseState) (vs : List Visited) (m : StewardState) (crew : List Servant) → AllMean now seats vs
      → h.crew ≡ Steward m ∷ crew
      → (changes : List Change) × IsCrewChanged m crew changes (house_after now seats h vs).crew
      × AllByRecursion (λ c. WasOrdered now seats vs (order_of c)) changes
  -- where the first agent doesn't manage prefixes, all agents are as before
  pub others : (now : ℕ) (seats : List SeatState) (h : HouseState) (vs : List Visited)
      → ((m : StewardState) (crew : List Servant) → ¬ (h.crew ≡ Steward m ∷ crew)) → (house_after now seats h vs).crew ≡ h.crew
