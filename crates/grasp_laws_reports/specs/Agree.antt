-- A run is determined by its events.
use Rattle.std.specs.Prelude.{◌≡◌, List}
use Rattle.grasp_model_network.specs.Events.{Occurs, Overflows}
use Rattle.grasp_model_network.specs.GoodSetting.{IsGoodSetting}
use Rattle.grasp_laws_network.specs.Keeping.{IsLonger, IsSameOutcome}
use Rattle.grasp_model_network.specs.Plans.{IsGoodPlan}
use Rattle.grasp_model_network.specs.Runs.{Happening, IsRun, IsReached, events_of, first_world, reports_from, world_after, world_of, worlds_from}
use Rattle.grasp_model_network.specs.Setting.{Setting, script_setting}
use Rattle.grasp_model_network.specs.Visits.{Choice}
use Rattle.grasp_model_network.specs.World.{WorldState}
use Rattle.grasp_model_network.specs.declared.event.Event.{Event}
use Rattle.grasp_model_network.specs.declared.plan.WorldPlan.{WorldPlan}

-- two runs report the same, go through the same networks and end in the same network
pub record IsSameRun (s : Setting) (w : WorldState) (hs gs : List Happening) : Type 0 where
  pub reports : reports_from s w hs ≡ reports_from s w gs
  pub worlds : worlds_from s w hs ≡ worlds_from s w gs
  pub last : world_after s w hs ≡ world_after s w gs

pub record RunsAgree : Type 0 where
  -- an event of a network that events lead to comes out in one way, where there is memory for it
  pub events : (s : Setting) (w : WorldState) (e : Event) (c d : Choice) → IsReached s w → Occurs s w e c → Occurs s w e d → IsSameOutcome s w e c d
  -- two runs of the same events from such a network on are the same
  pub onward : (s : Setting) (w : WorldState) (hs gs : List Happening) → IsReached s w → IsRun s w hs → IsRun s w gs → events_of hs ≡ events_of gs → IsSameRun s w hs gs
  -- two runs of the same events from the first network of a good setting on are the same
  pub runs : (s : Setting) (hs gs : List Happening) → IsGoodSetting s → IsRun s (first_world s) hs → IsRun s (first_world s) gs → events_of hs ≡ events_of gs
      → IsSameRun s (first_world s) hs gs
  -- so too from the first network of a good plan of a script on
  pub scripts : (p : WorldPlan) (hs gs : List Happening) → IsGoodPlan p → IsRun (script_setting p) (world_of p) hs → IsRun (script_setting p) (world_of p) gs → events_of hs ≡ events_of gs
      → IsSameRun (script_setting p) (world_of p) hs gs

-- ---- runs that stop

-- an event that comes out doesn't stop a run of the same events for having sent too much
abbrev pub StopsAgree : Type 0
StopsAgree = (s : Setting) (w : WorldState) (e : Event) (c : Choice) → IsReached s w → Occurs s w e c → Overflows s w e → ⊥

-- the second run reports what the first one does, and goes through the networks of the first, and perhaps more comes then
pub record GoesOn (s : Setting) (w : WorldState) (hs gs : List Happening) : Type 0 where
  pub reports : IsLonger (reports_from s w hs) (reports_from s w gs)
  pub worlds : IsLonger (worlds_from s w hs) (worlds_from s w gs)

-- a run that stops has gone as any other run of the same events and more goes
abbrev pub RunsGoOn : Type 0
RunsGoOn = (s : Setting) (w : WorldState) (hs gs : List Happening) → IsReached s w → IsRun s w hs → IsRun s w gs → IsLonger (events_of hs) (events_of gs) → GoesOn s w hs gs
