-- What the code promises of one event.
use Rattle.std.specs.Prelude.{◌≡◌, ◌≤◌, ◌<◌, Some, Result, Ok, Err}
use Rattle.grasp_model_network.specs.Events.{IsFit, MayStop, visit_of, after_event}
use Rattle.grasp_model_network.specs.Reports.{report_of}
use Rattle.grasp_model_network.specs.Setting.{Setting}
use Rattle.grasp_model_network.specs.Visits.{Choice, MayCome}
use Rattle.grasp_model_network.specs.World.{WorldState, most_bytes}
use Rattle.grasp_model_network.specs.declared.event.Event.{Event}
use Rattle.grasp_model_network.specs.declared.report.Report.{Report}
use Rattle.grasp_model_network.specs.declared.report.WorldStop.{WorldStop}
use Rattle.grasp_model_network.specs.declared.report.WorldStop.TheVariants as stop
use Rattle.grasp_model_network.specs.declared.turn.Turn.{Turn}
use Rattle.grasp_simulator.specs.Contract.{Network, MeetsEvent, WorldStepped, MeetsTurn, WorldTurned}
use Rattle.grasp_simulator.specs.Remembering.{HasNoted}
use Rattle.grasp_simulator.specs.WorldStands.{WorldKeeps, WorldGoes, WorldStands}
use Rattle.grasp_simulator.specs.declared.world.World.{World}

-- ---- an event, whether too much was sent or not

-- Inside: the code goes on for a network, for which the event may be asked for
pub record MayRun (code : World) (s : Setting) (w : WorldState) (e : Event) : Type 0 where
  pub goes : WorldGoes code s w
  pub fit : IsFit s w e

-- Inside: the code reports how the event came out, keeps the network after it, and has noted what it tells
pub record HasRun (before after : World) (s : Setting) (w : WorldState) (e : Event) (report : Report) : Type 0 where
  pub choice : Choice
  pub comes : MayCome (visit_of s w e) choice
  pub report_is : report ≡ report_of s w e choice
  pub keeps : WorldKeeps after s (after_event s w e choice)
  pub noted : HasNoted before.notes after.notes w e choice

-- Inside: for each network for which the code goes on
abbrev pub Runs : World → World → Event → Report → Type 0
Runs before after e report = (s : Setting) (w : WorldState) → MayRun before s w e → HasRun before after s w e report

-- Inside: for each network for which the code goes on, the event may stop it for want of memory
abbrev pub MayStarve : World → Event → Type 0
MayStarve code e = (s : Setting) (w : WorldState) → MayRun code s w e → MayStop s w e stop.OutOfMemory

-- ---- whether too much was sent

-- Inside: so it is reported, or the network is stopped for too much
abbrev pub Ends : World → World → Report → Result Report WorldStop → Type 0
Ends before after report (Ok told) = (told ≡ report) × (after ≡ before) × (before.sent ≤ most_bytes)
Ends before after report (Err why) = (why ≡ stop.TooMuch) × (after ≡ record before { stopped = Some stop.TooMuch }) × (most_bytes < before.sent)

-- ---- the whole

-- the code stands for a network for which the event may be asked for
pub record IsAsked (code : World) (e : Event) : Type 0 where
  pub network : Network
  pub meets : MeetsEvent (WorldStands code) network e

-- for each network for which the code stood before the event, which may be asked for, it answers as the event leads on, and stands for the
-- network after it
abbrev pub Stepped : World → World → Event → Result Report WorldStop → Type 0
Stepped before after e result = WorldStepped (WorldStands before) (WorldStands after) e result

-- ---- a turn

-- the code stands for a network for which the turn may be asked for
pub record IsAskedFor (code : World) (t : Turn) : Type 0 where
  pub network : Network
  pub meets : MeetsTurn (WorldStands code) network t

-- for each network for which the code stood before the turn, which may be asked for, it answers as the turn leads on, and stands for the
-- network after it
abbrev pub Turned : World → World → Turn → Result Report WorldStop → Type 0
Turned before after t result = WorldTurned (WorldStands before) (WorldStands after) t result
