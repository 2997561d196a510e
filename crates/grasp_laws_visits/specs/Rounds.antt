-- The rounds of a node that serves are sittings of its visitors.
use Rattle.std.specs.Prelude.{◌≡◌, List, [], ◌∷◌, ◌++◌, length}
use Rattle.grasp_service.specs.Rounds.{AreRounds, Outside, Round, TellsRounds, round_after, rounds_after, visitor_calls}
use Rattle.grasp_service.specs.States.{ServiceState}
use Rattle.grasp_shared.specs.History.{History}
use Rattle.grasp_laws_visits.specs.Logs.{AreNext, Sitting, SittingsMean, all_sitting_calls, all_visitings, seats_at_last}

-- what came of visitors in a round
abbrev pub sitting_of : Round → Sitting
sitting_of r = record { now = r.turn.now; visits = r.visits; replies = r.replies }

abbrev pub sittings_of : List Round → List Sitting
sittings_of [] = []
sittings_of (r ∷ rs) = sitting_of r ∷ sittings_of rs

-- the calls of visitors in all rounds
abbrev pub all_visitor_calls : ServiceState → List Round → History
all_visitor_calls s [] = []
all_visitor_calls s (r ∷ rs) = visitor_calls s r ++ all_visitor_calls (round_after s r) rs

pub record RoundsAreSittings : Type 0 where
  -- the seats behind rounds are those behind the sittings
  pub seats : (s : ServiceState) (rs : List Round) → (rounds_after s rs).seats ≡ seats_at_last s.seats (sittings_of rs)
  -- the calls of visitors are those of the sittings, behind the agents of the node, which are as many in each round
  pub calls : (s : ServiceState) (rs : List Round) → all_visitor_calls s rs ≡ all_sitting_calls (length s.house.crew) s.seats (sittings_of rs)
  -- each line means what it is said to
  pub mean : (s : ServiceState) (rs : List Round) → AreRounds s rs → SittingsMean s.seats (sittings_of rs)
  -- and whoever comes has the next number, as the desk tells
  pub next : (before after : Outside) (s : ServiceState) (rs : List Round) → TellsRounds before s rs after
      → AreNext before.desk.came (all_visitings (sittings_of rs)) after.desk.came
