-- What came of visitors and which calls were made for them, in one list.
use Rattle.std.specs.Prelude.{◌≡◌, ℕ, List, [], ◌∷◌, ◌++◌, filter}
use Rattle.grasp_crew.specs.Seats.{SeatState, stays}
use Rattle.grasp_desk.specs.Desk.{IsNext}
use Rattle.grasp_desk.specs.declared.desk.Visiting.{Visiting}
use Rattle.grasp_service_visits.specs.Each.{each_adds, each_after}
use Rattle.grasp_service_visits.specs.Tending.{tend_calls, tended}
use Rattle.grasp_service_visits.specs.Visits.{AllMean, Visited, all_visit_calls, seats_after, seats_visited, visit_calls, visitings}
use Rattle.grasp_shared.specs.History.{Entry, History}
use Rattle.grasp_types.specs.declared.reply.Reply.{Reply}

-- something came of a visitor, or a call was made and replied to
pub data Happening : Type 0 where
  heard : Visiting → Happening
  called : Entry → Happening

-- the newest stands first
abbrev pub Log : Type 0
Log = List Happening

-- ---- sittings

-- a sitting: all that came of visitors at a reading, and then the replies to the calls that were made for seats without a line
pub record Sitting : Type 0 where
  pub now : ℕ
  pub visits : List Visited
  pub replies : List Reply

-- the seats once visitors were heard, and those that are left behind the sitting
abbrev pub seats_heard : List SeatState → Sitting → List SeatState
seats_heard seats x = seats_after x.now seats x.visits

abbrev pub seats_left : List SeatState → Sitting → List SeatState
seats_left seats x = filter stays (each_after (tended x.now) (seats_heard seats x) x.replies)

-- the seats behind all sittings
abbrev pub seats_at_last : List SeatState → List Sitting → List SeatState
seats_at_last seats [] = seats
seats_at_last seats (x ∷ xs) = seats_at_last (seats_left seats x) xs

-- the calls of visitors in a sitting, where so many agents are callers before them, and those of all sittings
abbrev pub sitting_calls : ℕ → List SeatState → Sitting → History
sitting_calls agents seats x =
    all_visit_calls agents x.now seats x.visits ++ each_adds (λ place. tend_calls agents x.now) 0 (seats_heard seats x) x.replies

abbrev pub all_sitting_calls : ℕ → List SeatState → List Sitting → History
all_sitting_calls agents seats [] = []
all_sitting_calls agents seats (x ∷ xs) = sitting_calls agents seats x ++ all_sitting_calls agents (seats_left seats x) xs

-- each line means what it is said to
abbrev pub SittingsMean : List SeatState → List Sitting → Type 0
SittingsMean seats [] = Unit {0}
SittingsMean seats (x ∷ xs) = AllMean x.now seats x.visits × SittingsMean (seats_left seats x) xs

-- whoever comes has the next number: so many came before, and so many afterwards
abbrev pub AreNext : ℕ → List Visiting → ℕ → Type 0
AreNext before [] after = after ≡ before
AreNext before (v ∷ vs) after = (middle : ℕ) × IsNext before middle v × AreNext middle vs after

-- what came in all sittings
abbrev pub all_visitings : List Sitting → List Visiting
all_visitings [] = []
all_visitings (x ∷ xs) = visitings x.visits ++ all_visitings xs

-- ---- logs

-- these calls were made behind this log, the first of them first
abbrev pub logged : Log → History → Log
logged log [] = log
logged log (e ∷ es) = logged (called e ∷ log) es

-- behind what came of visitors, each with its call
abbrev pub log_visits : ℕ → ℕ → List SeatState → List Visited → Log → Log
log_visits agents now seats [] log = log
log_visits agents now seats (v ∷ vs) log = log_visits agents now (seats_visited now seats v.visiting v.said) vs
    (logged (heard v.visiting ∷ log) (visit_calls agents now seats v.visiting v.said))

-- behind the calls that were made for seats without a line
abbrev pub log_tends : ℕ → ℕ → List SeatState → List Reply → Log → Log
log_tends agents now [] rs log = log
log_tends agents now (s ∷ seats) [] log = log
log_tends agents now (s ∷ seats) (r ∷ rs) log = log_tends agents now seats rs (logged log (tend_calls agents now s r))

-- behind a sitting, and behind all of them
abbrev pub log_sitting : ℕ → List SeatState → Sitting → Log → Log
log_sitting agents seats x log = log_tends agents x.now (seats_heard seats x) x.replies (log_visits agents x.now seats x.visits log)

abbrev pub log_sittings : ℕ → List SeatState → List Sitting → Log → Log
log_sittings agents seats [] log = log
log_sittings agents seats (x ∷ xs) log = log_sittings agents (seats_left seats x) xs (log_sitting agents seats x log)

-- ---- what stands in a log

-- the calls, and what came, in the order in which it happened
abbrev pub calls_in : Log → History
calls_in [] = []
calls_in (heard v ∷ log) = calls_in log
calls_in (called e ∷ log) = calls_in log ++ e ∷ []

abbrev pub visitings_in : Log → List Visiting
visitings_in [] = []
visitings_in (heard v ∷ log) = visitings_in log ++ v ∷ []
visitings_in (called e ∷ log) = visitings_in log
