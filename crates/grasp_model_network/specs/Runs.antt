-- The first world of a plan, runs of events from a world on, and the worlds that turns lead to.
use Rattle.std.specs.Prelude.{◌≡◌, List, [], ◌∷◌, length, map}
use Rattle.grasp_model_network.specs.Events.{Occurs, after_event}
use Rattle.grasp_model_network.specs.GoodSetting.{IsGoodSetting}
use Rattle.grasp_model_network.specs.Openings.{first_seat}
use Rattle.grasp_model_network.specs.Reports.{report_of}
use Rattle.grasp_model_network.specs.Setting.{Setting, numbers_from, script_setting}
use Rattle.grasp_model_network.specs.Turns.{TakenTurn, AreTurns, world_turned}
use Rattle.grasp_model_network.specs.Visits.{Choice}
use Rattle.grasp_model_network.specs.World.{WorldState}
use Rattle.grasp_model_network.specs.declared.event.Event.{Event}
use Rattle.grasp_model_network.specs.declared.plan.WorldPlan.{WorldPlan}
use Rattle.grasp_model_network.specs.declared.report.Report.{Report}

-- ---- the first world

-- the nodes have their agents, and nothing was sent
unfoldable pub first_world : Setting → WorldState
first_world s = record {
  seats = map first_seat s.members;
  lives = numbers_from 1 (length s.members);
  datagrams = [];
  streams = [];
  dials = 0;
  byte_count = 0;
  flood_calls = [];
  floods_read = [];
  searches = [];
  answers = [];
  handles = [];
  offers = [];
  settled = [];
}

-- the first world of a plan
abbrev pub world_of : WorldPlan → WorldState
world_of p = first_world (script_setting p)

-- ---- runs

-- an event, and how its step came out
pub record Happening : Type 0 where
  pub event : Event
  pub choice : Choice

-- the events may come out so, one after the other from this world on
unfoldable pub IsRun : Setting → WorldState → List Happening → Type 0
IsRun s w [] = Unit {0}
IsRun s w (h ∷ hs) = Occurs s w h.event h.choice × IsRun s (after_event s w h.event h.choice) hs

-- the worlds of the run: this one, and the one after each event
unfoldable pub worlds_from : Setting → WorldState → List Happening → List WorldState
worlds_from s w [] = w ∷ []
worlds_from s w (h ∷ hs) = w ∷ worlds_from s (after_event s w h.event h.choice) hs

-- the last of them
unfoldable pub world_after : Setting → WorldState → List Happening → WorldState
world_after s w [] = w
world_after s w (h ∷ hs) = world_after s (after_event s w h.event h.choice) hs

-- what is reported of each event
unfoldable pub reports_from : Setting → WorldState → List Happening → List Report
reports_from s w [] = []
reports_from s w (h ∷ hs) = report_of s w h.event h.choice ∷ reports_from s (after_event s w h.event h.choice) hs

-- the events of the run
abbrev pub events_of : List Happening → List Event
events_of hs = map (λ h. h.event) hs

-- the world is one that turns lead to from the first world of a good setting
pub record IsReached (s : Setting) (w : WorldState) : Type 0 where
  pub good : IsGoodSetting s
  pub turns : List TakenTurn
  pub run : AreTurns s (first_world s) turns
  pub last : w ≡ world_turned s (first_world s) turns
