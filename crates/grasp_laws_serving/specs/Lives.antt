-- What happened at a node that served: the calls that it answered, and the wants that its agent of prefixes was told, each in its place.
use Rattle.std.specs.Prelude.{ℕ, List, [], ◌∷◌, ◌++◌}
use Rattle.grasp_crew.specs.Nudges.{Nudge, Wanted, still, wanted, again}
use Rattle.grasp_crew.specs.Servants.{nudge_of}
use Rattle.grasp_crew.specs.declared.servant.Servant.{Servant}
use Rattle.grasp_desk.specs.declared.desk.DeskPlan.{DeskPlan}
use Rattle.grasp_io.specs.declared.links.LinkPlan.{LinkPlan}
use Rattle.grasp_node_main.specs.Turns.{loop_call, turn_calls}
use Rattle.grasp_service.specs.Deeds.{Deed, deed_calls}
use Rattle.grasp_service.specs.Openings.{opening_calls}
use Rattle.grasp_service.specs.Plans.{heralds_from, listeners_from}
use Rattle.grasp_service.specs.Rounds.{Outside, Round, crew_in, round_after, rounds_after, visitor_calls}
use Rattle.grasp_service.specs.Served.{FallsShortServing, Serves, opened_state}
use Rattle.grasp_service.specs.States.{ServiceState}
use Rattle.grasp_service.specs.declared.plan.ServicePlan.{ServicePlan}
use Rattle.grasp_service_visits.specs.Each.{each_adds}
use Rattle.grasp_shared.specs.History.{Entry, History}
use Rattle.grasp_types.specs.declared.reply.Reply.{Reply}
use Rattle.grasp_types.specs.declared.traffic.Input.TheVariants as input

-- the node answered this call; or its agent of prefixes was told this want, which is no call
pub data Happening : Type 0 where
  called : Entry → Happening
  told : Wanted → Happening

abbrev pub all_called : History → List Happening
all_called [] = []
all_called (e ∷ es) = called e ∷ all_called es

-- the calls of what happened
abbrev pub calls_in : List Happening → History
calls_in [] = []
calls_in (called e ∷ hs) = e ∷ calls_in hs
calls_in (told w ∷ hs) = calls_in hs

-- ---- a round

-- the want that an agent is told, where it is one
abbrev pub want_told : Nudge → List Happening
want_told still = []
want_told (wanted place w) = told w ∷ []
want_told again = []

-- an agent is told what is due, and then makes its call, where one is due
abbrev pub deed_happens : ℕ → ℕ → Servant → Deed → List Happening
deed_happens now caller m d = want_told (nudge_of now m) ++ all_called (deed_calls now caller m d)

-- the loop's calls, what the agents do, and the visitors' calls
abbrev pub round_happens : ServiceState → Round → List Happening
round_happens s r =
    all_called (turn_calls r.turn)
    ++ (each_adds (deed_happens r.turn.now) 1 (crew_in s r.turn) r.deeds ++ all_called (visitor_calls s r))

abbrev pub rounds_happen : ServiceState → List Round → List Happening
rounds_happen s [] = []
rounds_happen s (r ∷ rs) = round_happens s r ++ rounds_happen (round_after s r) rs

-- ---- a life

-- the replies to the opening calls, the rounds, and the loop's calls behind them
pub record Life : Type 0 where
  pub replies : List (List Reply)
  pub rounds : List Round
  pub ends : History

-- the agents behind the agent of prefixes, whose opening calls come first of all
abbrev pub others_of : ServicePlan → List Servant
others_of p = heralds_from 1 p.heralds ++ listeners_from 1 p.readers

abbrev pub other_openings : ServicePlan → List (List Reply) → History
other_openings p [] = []
other_openings p (rs ∷ rss) = each_adds opening_calls 2 (others_of p) rss

-- all that happened once the agent of prefixes was opened
abbrev pub life_happens : ServicePlan → Life → List Happening
life_happens p l = all_called (other_openings p l.replies) ++ (rounds_happen (opened_state p l.replies) l.rounds ++ all_called l.ends)

-- ---- nodes that served

-- the node of a plan served until a visitor stopped it, or until a round was cut short: it wanted memory, or its store has a fault
pub data HasServed (p : ServicePlan) (joining : LinkPlan) (doors : DeskPlan) (before after : Outside) : Type 0 where
  to_its_end : Serves p joining doors before after → HasServed p joining doors before after
  cut_short : FallsShortServing p joining doors before after → HasServed p joining doors before after

-- Its life: the last drain ends it, or the turn of the round that was cut short. What calls came in that round behind its turn isn't known; what they
-- queued was drained by no later turn, so it came to nobody.
abbrev pub life_of : (p : ServicePlan) (joining : LinkPlan) (doors : DeskPlan) (before after : Outside) → HasServed p joining doors before after → Life
life_of p joining doors before after (to_its_end s) = record {
  replies = s.replies;
  rounds = s.rounds;
  ends = loop_call (rounds_after (opened_state p s.replies) s.rounds).reading (input.Drain 320) s.last ∷ [];
}
life_of p joining doors before after (cut_short f) = record { replies = f.replies; rounds = f.rounds; ends = turn_calls f.turn }
