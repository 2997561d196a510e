-- An order of a visitor that is no guest is taken, and its answer says what came of it.
use Rattle.std.specs.Prelude.{◌≡◌, ◌⊎◌, ℕ, ◌+◌, ◌-◌, ◌<◌, ◌≤◌, true, false, List, [], ◌∷◌, ◌++◌, length, Some, codes, decimal}
use Rattle.grasp_config.specs.declared.level.LogLevel.{LogLevel}
use Rattle.grasp_control.specs.Answers.{answer_line}
use Rattle.grasp_control.specs.Requests.{IsRequestLine}
use Rattle.grasp_control.specs.declared.request.Request.{Request}
use Rattle.grasp_control.specs.declared.request.Request.TheVariants as request
use Rattle.grasp_crew.specs.Nudges.{Wanted}
use Rattle.grasp_crew.specs.Seats.{SeatState}
use Rattle.grasp_crew.specs.Steward.{StewardState, tries_with}
use Rattle.grasp_crew.specs.Trying.{dropped, untried}
use Rattle.grasp_crew.specs.declared.servant.Servant.{Servant}
use Rattle.grasp_crew.specs.declared.servant.Servant.TheVariants.{Steward}
use Rattle.grasp_desk.specs.declared.desk.Visiting.TheVariants as desk
use Rattle.grasp_service_visits.specs.Answers.{told_to}
use Rattle.grasp_service_visits.specs.Serving.{HouseState}
use Rattle.grasp_service_visits.specs.Visits.{Said, asks, ended_told, house_visited, seat_of, visit_told}

-- a visitor's line made this of the house, and was answered with these words, behind what its visitor was told of a call that it waited for
pub record ComesTo (seats : List SeatState) (h : HouseState) (visitor : ℕ) (line : List ℕ) (said : Said) (s : SeatState) (new : HouseState)
    (words : List (List ℕ)) : Type 0 where
  pub house : house_visited seats h (desk.Line visitor line) said ≡ new
  pub told : visit_told h.crew new.crew seats (desk.Line visitor line) said ≡ ended_told s ++ told_to visitor (answer_line line words) ∷ []

-- a visitor that is no guest wrote the line of this request
pub record Orders (seats : List SeatState) (visitor : ℕ) (line : List ℕ) (said : Said) (s : SeatState) (q : Request) : Type 0 where
  pub sits : seat_of visitor seats ≡ Some s
  pub no_guest : s.guest ≡ false
  pub meaning : said.meaning ≡ asks q
  pub written : IsRequestLine line q

-- the house, where the first of its agents, which manages prefixes, is this one
abbrev pub house_with : HouseState → StewardState → List Servant → HouseState
house_with h m crew = record h { crew = Steward m ∷ crew }

pub record OrdersAreTaken : Type 0 where
  -- the node is to end
  pub stop : (seats : List SeatState) (h : HouseState) (visitor : ℕ) (line : List ℕ) (said : Said) (s : SeatState)
      → Orders seats visitor line said s request.Stop → ComesTo seats h visitor line said s (record h { stopping = true }) (codes "done" ∷ [])
  -- so much is logged
  pub level : (seats : List SeatState) (h : HouseState) (visitor : ℕ) (line : List ℕ) (said : Said) (s : SeatState) (level : LogLevel)
      → Orders seats visitor line said s (request.Log level) → ComesTo seats h visitor line said s (record h { level = level }) (codes "done" ∷ [])
  -- the agent of prefixes has one want more, and the answer tells its number; or it has 256 already, and nothing changes
  pub want : (seats : List SeatState) (h : HouseState) (visitor : ℕ) (line : List ℕ) (said : Said) (s : SeatState) (w : Wanted) (m : StewardState)
      (crew : List Servant) → Orders seats visitor line said s (request.Want w.length w.longest w.peer) → h.crew ≡ Steward m ∷ crew
      → ((length m.wants < 256) × ComesTo seats h visitor line said s
      (house_with h (record m { wants = m.wants ++ w ∷ []; tries = m.tries ++ untried m.pace ∷ [] }) crew) (codes "ok" ∷ decimal (length m.wants + 1) ∷ []))
      ⊎ ((256 ≤ length m.wants) × ComesTo seats h visitor line said s h (codes "full" ∷ []))
  -- the want of that number is dropped; or there is none, and nothing changes
  pub unwant : (seats : List SeatState) (h : HouseState) (visitor : ℕ) (line : List ℕ) (said : Said) (s : SeatState) (number : ℕ) (m : StewardState)
      (crew : List Servant) → Orders seats visitor line said s (request.Unwant number) → h.crew ≡ Steward m ∷ crew
      → ((1 ≤ number) × (number ≤ length m.wants) × ComesTo seats h visitor line said s
      (house_with h (record m { tries = tries_with dropped m.tries (number - 1) }) crew) (codes "done" ∷ []))
      ⊎ (((number ≡ 0) ⊎ (length m.wants < number)) × ComesTo seats h visitor line said s h (codes "nothing" ∷ []))
