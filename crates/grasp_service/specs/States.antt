-- A node that serves, without its core.
use Rattle.std.specs.Prelude.{ℕ, Bool, true, false, if◌then◌else◌, List, [], ◌∷◌, ◌++◌}
use Rattle.grasp_config.specs.declared.level.LogLevel.{LogLevel}
use Rattle.grasp_crew.specs.Seats.{SeatState}
use Rattle.grasp_crew.specs.declared.servant.Servant.{Servant}
use Rattle.grasp_desk.specs.declared.desk.Told.{Told}
use Rattle.grasp_service_visits.specs.Answers.{told_to}
use Rattle.grasp_service_visits.specs.Serving.{HouseState, house_of}
use Rattle.grasp_service.specs.Plans.{crew_of}
use Rattle.grasp_service.specs.declared.plan.ServicePlan.{ServicePlan}
use Rattle.grasp_service.specs.declared.service.Service.{Service}

-- its agents and orders, the seats of its visitors, the milliseconds from tick to tick, how many ticks there were, whether something came of
-- visitors in the last round, and the reading of that round
pub record ServiceState : Type 0 where
  pub house : HouseState
  pub seats : List SeatState
  pub tick : ℕ
  pub ticked : ℕ
  pub stirring : Bool
  pub reading : ℕ

abbrev pub state_of : Service → ServiceState
state_of s = record { house = house_of s.house; seats = s.seats.items; tick = s.tick; ticked = s.ticked; stirring = s.stirring; reading = s.reading }

-- one to which nothing has happened, with these agents
abbrev pub state_at_first : List Servant → LogLevel → ℕ → ServiceState
state_at_first crew level tick = record { house = record { crew = crew; level = level; stopping = false }; seats = []; tick = tick; ticked = 0; stirring = true; reading = 0 }

abbrev pub first_state : ServicePlan → ServiceState
first_state p = state_at_first (crew_of p) p.level p.tick

-- with these agents
abbrev pub with_crew : ServiceState → List Servant → ServiceState
with_crew s crew = record s { house = record s.house { crew = crew } }

-- the line of an event, where the seat hears of events
abbrev pub heard_event : SeatState → List ℕ → List Told
heard_event s line = if s.hears then told_to s.visitor line ∷ [] else []

-- for each seat that does
abbrev pub event_told : List SeatState → List ℕ → List Told
event_told [] line = []
event_told (s ∷ seats) line = heard_event s line ++ event_told seats line

abbrev pub events_told : List SeatState → List (List ℕ) → List Told
events_told seats [] = []
events_told seats (line ∷ lines) = event_told seats line ++ events_told seats lines
