-- The rounds of a node that serves: in each it exchanges with the links once, then its agents make the calls that are due, and then what comes of
-- its visitors is taken.
use Rattle.std.specs.Prelude.{◌≡◌, ◌≤◌, ℕ, ◌/◌, ◌==◌, ◌||◌, not, max, Bool, true, false, List, [], ◌∷◌, ◌++◌, length, map, filter}
use Rattle.grasp_crew.specs.Seats.{SeatState, stays}
use Rattle.grasp_crew.specs.Servants.{woken}
use Rattle.grasp_crew.specs.declared.servant.Servant.{Servant}
use Rattle.grasp_desk.specs.declared.desk.Told.{Told as Line}
use Rattle.grasp_node_main.specs.Tells.{LinksTold, Told, TellsTurn, HandsOnly}
use Rattle.grasp_node_main.specs.Turns.{Turn, turn_calls, loop_call, outputs_in}
use Rattle.grasp_disk.specs.Calls.{DiskLog}
use Rattle.grasp_shared.specs.Adding.{Adds}
use Rattle.grasp_shared.specs.History.{History}
use Rattle.grasp_shelf.specs.Shelves.{ShelfState, KeptOn}
use Rattle.grasp_types.specs.declared.reply.Reply.{Reply}
use Rattle.grasp_types.specs.declared.traffic.Input.TheVariants as input
use Rattle.grasp_service_visits.specs.Desks.{DeskTold, VisitsUntil, TellsOnly}
use Rattle.grasp_service_visits.specs.Each.{each_after, each_adds, Each}
use Rattle.grasp_service_visits.specs.Serving.{HouseState}
use Rattle.grasp_service_visits.specs.Tending.{tended, tended_told, tend_calls}
use Rattle.grasp_service_visits.specs.Visits.{Visited, AllMean, visitings, has_some, seats_after, house_after, all_visit_calls, all_visit_told}
use Rattle.grasp_service.specs.Cuts.{IsCut}
use Rattle.grasp_service.specs.Deeds.{Deed, IsDeed, after_deed, deed_calls, kept_deeds}
use Rattle.grasp_service.specs.Exchanges.{has_come, is_turn_starved}
use Rattle.grasp_service.specs.States.{ServiceState, state_of, events_told}
use Rattle.grasp_service.specs.declared.cut.Cut.{Cut}
use Rattle.grasp_service.specs.declared.service.Service.{Service}

-- a round: how long the links were to wait at most, its turn, what each agent did, what came of visitors, the replies to the calls that were made for
-- seats without a line, and the lines of its events
pub record Round : Type 0 where
  pub wait : ℕ
  pub turn : Turn
  pub deeds : List Deed
  pub visits : List Visited
  pub replies : List Reply
  pub events : List (List ℕ)

-- ---- the parts of a round

-- so many ticks there were at a reading
abbrev pub ticks : ServiceState → ℕ → ℕ
ticks s now = now / max s.tick 1

-- something may have come for the agents: an input, something of visitors in the round before, or a tick
abbrev pub stirs : ServiceState → ℕ → Bool → Bool
stirs s now came = came || (s.stirring || not (ticks s now == s.ticked))

abbrev pub woken_crew : Bool → List Servant → List Servant
woken_crew true crew = map woken crew
woken_crew false crew = crew

-- the agents when they are told what is due
abbrev pub crew_in : ServiceState → Turn → List Servant
crew_in s t = woken_crew (stirs s t.now (has_come t.asking)) s.house.crew

-- the agents after their deeds
abbrev pub crew_acted : ServiceState → Round → List Servant
crew_acted s r = each_after (after_deed r.turn.now) (crew_in s r.turn) r.deeds

-- the house when visitors are asked, and after them
abbrev pub house_acted : ServiceState → Round → HouseState
house_acted s r = record s.house { crew = crew_acted s r }

abbrev pub house_asked : ServiceState → Round → HouseState
house_asked s r = house_after r.turn.now s.seats (house_acted s r) r.visits

-- the seats once visitors were asked, and once each was seen to; those are kept whose visitor or agent is still there
abbrev pub seats_asked : ServiceState → Round → List SeatState
seats_asked s r = seats_after r.turn.now s.seats r.visits

abbrev pub seats_kept : ServiceState → Round → List SeatState
seats_kept s r = filter stays (each_after (tended r.turn.now) (seats_asked s r) r.replies)

-- ---- a round

-- the node after it
abbrev pub round_after : ServiceState → Round → ServiceState
round_after s r = record {
  house = house_asked s r;
  seats = seats_kept s r;
  tick = s.tick;
  ticked = ticks s r.turn.now;
  stirring = has_some r.visits;
  reading = r.turn.now;
}

-- its calls: the loop's, then the agents', then the visitors'
abbrev pub agent_calls : ServiceState → Round → History
agent_calls s r = each_adds (deed_calls r.turn.now) 1 (crew_in s r.turn) r.deeds

abbrev pub visitor_calls : ServiceState → Round → History
visitor_calls s r =
    all_visit_calls (length s.house.crew) r.turn.now s.seats r.visits
    ++ each_adds (λ place. tend_calls (length s.house.crew) r.turn.now) 0 (seats_asked s r) r.replies

abbrev pub round_calls : ServiceState → Round → History
round_calls s r = turn_calls r.turn ++ (agent_calls s r ++ visitor_calls s r)

-- the disk after it: the store was asked around the calls of the agent of prefixes
abbrev pub kept_round : ServiceState → Round → DiskLog → DiskLog
kept_round s r log = kept_deeds r.turn.now (crew_in s r.turn) r.deeds log

-- the lines that visitors are told: the answers, and then the events
abbrev pub round_told : ServiceState → Round → List Line
round_told s r =
    (all_visit_told r.turn.now s.seats (house_acted s r) r.visits
    ++ each_adds (λ place. tended_told r.turn.now) 0 (seats_asked s r) r.replies)
    ++ events_told (seats_kept s r) r.events

-- each part is as it should be
pub record IsRound (s : ServiceState) (r : Round) : Type 0 where
  pub within : r.wait ≤ s.tick
  pub calm : is_turn_starved r.turn ≡ false
  pub acted : length r.deeds ≡ length s.house.crew
  pub deeds : Each (IsDeed r.turn.now) (crew_in s r.turn) r.deeds
  pub mean : AllMean r.turn.now s.seats r.visits
  pub seen : length r.replies ≡ length (seats_asked s r)

-- ---- what is told of it

-- what links, clock and desk tell
pub record Outside : Type 0 where
  pub links : Told
  pub desk : DeskTold

abbrev pub outside : Told → DeskTold → Outside
outside links desk = record { links = links; desk = desk }

-- in a round the desk was asked until nothing came, and 16 times at most; it gave what came of visitors, and was then handed the lines
pub record TellsDesk (old : DeskTold) (s : ServiceState) (r : Round) (new : DeskTold) : Type 0 where
  pub middle : DeskTold
  pub came : VisitsUntil 16 old (visitings r.visits) middle
  pub told : TellsOnly middle (round_told s r) new

pub record TellsRound (old : Outside) (s : ServiceState) (r : Round) (new : Outside) : Type 0 where
  pub turn : TellsTurn r.wait old.links r.turn new.links
  pub desk : TellsDesk old.desk s r new.desk

-- ---- rounds

-- a round was made, and a visitor may have stopped the node
pub record WentOn {B : Type 0} (stands : B → DiskLog → Type 0) (faults : B → ℕ) (old : Service) (a : ShelfState B) (before : Outside) (stops : Bool)
    (new : Service) (b : ShelfState B) (after : Outside) : Type 0 where
  pub round : Round
  pub is : IsRound (state_of old) round
  pub adds : Adds old.core (round_calls (state_of old) round) new.core
  pub state : state_of new ≡ round_after (state_of old) round
  pub tells : TellsRound before (state_of old) round after
  pub stops_is : stops ≡ new.house.stopping
  pub kept : KeptOn stands faults a (kept_round (state_of old) round) b

-- a round was cut short: its turn was made, and the history went on
pub record CutShort (old : Service) (before : Told) (new : Service) (after : Told) : Type 0 where
  pub wait : ℕ
  pub turn : Turn
  pub rest : History
  pub adds : Adds old.core (turn_calls turn ++ rest) new.core
  pub tells : TellsTurn wait before turn after

-- so it was, for this cause
pub record CutFor {B : Type 0} (stands : B → DiskLog → Type 0) (faults : B → ℕ) (old : Service) (a : ShelfState B) (before : Told) (why : Cut) (new : Service)
    (b : ShelfState B) (after : Told) : Type 0 where
  pub cut : CutShort old before new after
  pub is : IsCut stands faults cut.turn.now (crew_in (state_of old) cut.turn) a why b

-- one after the other
abbrev pub rounds_after : ServiceState → List Round → ServiceState
rounds_after s [] = s
rounds_after s (r ∷ rs) = rounds_after (round_after s r) rs

abbrev pub all_round_calls : ServiceState → List Round → History
all_round_calls s [] = []
all_round_calls s (r ∷ rs) = round_calls s r ++ all_round_calls (round_after s r) rs

abbrev pub kept_rounds : ServiceState → List Round → DiskLog → DiskLog
kept_rounds s [] log = log
kept_rounds s (r ∷ rs) log = kept_rounds (round_after s r) rs (kept_round s r log)

abbrev pub AreRounds : ServiceState → List Round → Type 0
AreRounds s [] = Unit {0}
AreRounds s (r ∷ rs) = IsRound s r × AreRounds (round_after s r) rs

abbrev pub TellsRounds : Outside → ServiceState → List Round → Outside → Type 0
TellsRounds old s [] new = new ≡ old
TellsRounds old s (r ∷ rs) new = (middle : Outside) × TellsRound old s r middle × TellsRounds middle (round_after s r) rs new

-- rounds were made
pub record Went {B : Type 0} (stands : B → DiskLog → Type 0) (faults : B → ℕ) (old : Service) (a : ShelfState B) (before : Outside) (new : Service)
    (b : ShelfState B) (after : Outside) : Type 0 where
  pub rounds : List Round
  pub are : AreRounds (state_of old) rounds
  pub adds : Adds old.core (all_round_calls (state_of old) rounds) new.core
  pub state : state_of new ≡ rounds_after (state_of old) rounds
  pub tells : TellsRounds before (state_of old) rounds after
  pub kept : KeptOn stands faults a (kept_rounds (state_of old) rounds) b

-- the last drain was made, with the last round's reading
pub record Ends (old : Service) (before : LinksTold) (new : Service) (after : LinksTold) : Type 0 where
  pub last : Reply
  pub adds : Adds old.core (loop_call old.reading (input.Drain 320) last ∷ []) new.core
  pub state : state_of new ≡ state_of old
  pub hands : HandsOnly before (outputs_in last) after
