-- Inside: what follows the turn of a round, as the code has it.
use Rattle.std.specs.Prelude.{◌≡◌, ℕ, Bool, List, ◌++◌, length, filter}
use Rattle.grasp_crew.specs.Seats.{SeatState, stays}
use Rattle.grasp_crew.specs.declared.servant.Servant.{Servant}
use Rattle.grasp_desk.specs.declared.desk.Told.{Told as Line}
use Rattle.grasp_disk.specs.Calls.{DiskLog}
use Rattle.grasp_shared.specs.Adding.{Adds}
use Rattle.grasp_shared.specs.History.{History}
use Rattle.grasp_shelf.specs.Shelves.{ShelfState, KeptOn}
use Rattle.grasp_types.specs.declared.reply.Reply.{Reply}
use Rattle.grasp_service_visits.specs.Desks.{DeskTold, VisitsUntil, TellsOnly}
use Rattle.grasp_service_visits.specs.Each.{each_after, each_adds, Each}
use Rattle.grasp_service_visits.specs.Tending.{tended, tended_told, tend_calls}
use Rattle.grasp_service_visits.specs.Visits.{Visited, AllMean, visitings, has_some, seats_after, house_after, all_visit_calls, all_visit_told}
use Rattle.grasp_service.specs.Deeds.{Deed, IsDeed, after_deed, deed_calls, kept_deeds, ActsAll}
use Rattle.grasp_service.specs.Rounds.{ticks, stirs, woken_crew}
use Rattle.grasp_service.specs.States.{ServiceState, state_of, with_crew, events_told}
use Rattle.grasp_service.specs.declared.round.Said.{Said}
use Rattle.grasp_service.specs.declared.service.Service.{Service}

-- the agents when they are told what is due
abbrev pub woken_agents : Service → ℕ → Bool → List Servant
woken_agents s now came = woken_crew (stirs (state_of s) now came) s.house.crew.items

-- the agents were woken where something may have come for them
pub record Wakes (old : Service) (now : ℕ) (came : Bool) (new : Service) : Type 0 where
  pub core : new.core ≡ old.core
  pub state : state_of new ≡ record (state_of old) { house = record (state_of old).house { crew = woken_agents old now came }; ticked = ticks (state_of old) now }

-- each agent did what was due
pub record ActsIn {B : Type 0} (stands : B → DiskLog → Type 0) (faults : B → ℕ) (old : Service) (a : ShelfState B) (now : ℕ) (new : Service)
    (b : ShelfState B) : Type 0 where
  pub acts : ActsAll stands faults old.core old.house.crew.items a now new.core new.house.crew.items b
  pub state : state_of new ≡ with_crew (state_of old) new.house.crew.items

-- the agents were woken where something may have come for them, and each did what was due
pub record ActsOn {B : Type 0} (stands : B → DiskLog → Type 0) (faults : B → ℕ) (old : Service) (a : ShelfState B) (now : ℕ) (came : Bool) (new : Service)
    (b : ShelfState B) : Type 0 where
  pub deeds : List Deed
  pub count : length deeds ≡ length (woken_agents old now came)
  pub each : Each (IsDeed now) (woken_agents old now came) deeds
  pub adds : Adds old.core (each_adds (deed_calls now) 1 (woken_agents old now came) deeds) new.core
  pub state : state_of new ≡ record (state_of old) {
    house = record (state_of old).house { crew = each_after (after_deed now) (woken_agents old now came) deeds };
    ticked = ticks (state_of old) now;
  }
  pub kept : KeptOn stands faults a (kept_deeds now (woken_agents old now came) deeds) b

-- the seats once visitors were asked
abbrev pub seats_then : Service → ℕ → List Visited → List SeatState
seats_then s now visits = seats_after now s.seats.items visits

-- those that stay once each was seen to
abbrev pub seats_stayed : Service → ℕ → List Visited → List Reply → List SeatState
seats_stayed s now visits replies = filter stays (each_after (tended now) (seats_then s now visits) replies)

-- the visitors' calls behind those of so many agents
abbrev pub heard_calls : Service → ℕ → List Visited → List Reply → ℕ → History
heard_calls s now visits replies agents = all_visit_calls agents now s.seats.items visits ++ each_adds (λ place. tend_calls agents now) 0 (seats_then s now visits) replies

-- what they are told
abbrev pub heard_told : Service → ℕ → List Visited → List Reply → List Line
heard_told s now visits replies = all_visit_told now s.seats.items (state_of s).house visits ++ each_adds (λ place. tended_told now) 0 (seats_then s now visits) replies

-- the node after them
abbrev pub state_heard : Service → ℕ → List Visited → List Reply → ServiceState
state_heard s now visits replies = record (state_of s) { house = house_after now s.seats.items (state_of s).house visits; seats = seats_stayed s now visits replies }

-- what came of visitors was taken, each seat was seen to, and those that stay were kept
pub record HearsVisitors (old : Service) (before : List Line) (desk : DeskTold) (now : ℕ) (some : Bool) (new : Service) (after : List Line) (later : DeskTold) : Type 0 where
  pub visits : List Visited
  pub replies : List Reply
  pub mean : AllMean now old.seats.items visits
  pub seen : length replies ≡ length (seats_then old now visits)
  pub adds : (agents : ℕ) → Adds old.core (heard_calls old now visits replies agents) new.core
  pub state : state_of new ≡ state_heard old now visits replies
  pub told : after ≡ before ++ heard_told old now visits replies
  pub some_is : some ≡ has_some visits
  pub came : VisitsUntil 16 desk (visitings visits) later

-- so it was, and the lines are those and then the events'
pub record TakesVisitors (old : Service) (desk : DeskTold) (now : ℕ) (said : Said) (new : Service) (later : DeskTold) : Type 0 where
  pub visits : List Visited
  pub replies : List Reply
  pub events : List (List ℕ)
  pub mean : AllMean now old.seats.items visits
  pub seen : length replies ≡ length (seats_then old now visits)
  pub adds : (agents : ℕ) → Adds old.core (heard_calls old now visits replies agents) new.core
  pub state : state_of new ≡ state_heard old now visits replies
  pub told : said.lines ≡ heard_told old now visits replies ++ events_told (seats_stayed old now visits replies) events
  pub some : said.some ≡ has_some visits
  pub came : VisitsUntil 16 desk (visitings visits) later

-- the next round's wait was set
pub record Rests (old : Service) (now : ℕ) (some : Bool) (new : Service) : Type 0 where
  pub core : new.core ≡ old.core
  pub state : state_of new ≡ record (state_of old) { stirring = some; reading = now }

-- all this was done
pub record Follows {B : Type 0} (stands : B → DiskLog → Type 0) (faults : B → ℕ) (old : Service) (a : ShelfState B) (desk : DeskTold) (now : ℕ)
    (came stops : Bool) (new : Service) (b : ShelfState B) (later : DeskTold) : Type 0 where
  pub acted : Service
  pub taken : Service
  pub said : Said
  pub middle : DeskTold
  pub acts : ActsOn stands faults old a now came acted b
  pub takes : TakesVisitors acted desk now said taken middle
  pub tells : TellsOnly middle said.lines later
  pub rests : Rests taken now said.some new
  pub stops_is : stops ≡ new.house.stopping
