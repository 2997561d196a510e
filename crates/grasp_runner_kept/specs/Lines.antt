-- What the code promises of one line of a script of a network whose nodes crash.
use Rattle.std.specs.Prelude.{◌≡◌, ◌⊎◌, ℕ, List, length, Result, Ok, Err}
use Rattle.grasp_disk.specs.declared.left.Left.{Left}
use Rattle.grasp_pool.specs.declared.image.PoolImage.{PoolImage}
use Rattle.grasp_model_network.specs.Plans.{IsNode}
use Rattle.grasp_model_network.specs.Reports.{report_of}
use Rattle.grasp_model_network.specs.Setting.{Setting}
use Rattle.grasp_model_network.specs.Visits.{Choice}
use Rattle.grasp_model_network.specs.declared.event.Event.{Event}
use Rattle.grasp_model_network.specs.declared.report.Report.{Report}
use Rattle.grasp_model_network.specs.declared.report.WorldStop.{WorldStop}
use Rattle.grasp_model_network.specs.declared.report.WorldStop.TheVariants as stop
use Rattle.grasp_script.specs.Acts.{IsAct}
use Rattle.grasp_script.specs.declared.line.LineAct.TheVariants as act
use Rattle.grasp_script_kept.specs.Reports.{told_restart}
use Rattle.grasp_script_kept.specs.declared.line.KeptLine.{KeptLine}
use Rattle.grasp_script_kept.specs.declared.line.KeptLine.TheVariants as line
use Rattle.grasp_model_script.specs.LineRuns.{placed_event}
use Rattle.grasp_model_kept.specs.Crashing.{image_left}
use Rattle.grasp_model_kept.specs.Runs.{KeptOccurs, kept_event}
use Rattle.grasp_model_kept.specs.World.{KeptState}
use Rattle.grasp_model_kept.specs.declared.event.KeptEvent.TheVariants as kept
use Rattle.grasp_model_kept.specs.declared.report.KeptReport.{KeptReport}
use Rattle.grasp_model_kept.specs.declared.report.KeptReport.TheVariants as report
use Rattle.grasp_kept.specs.Contract.{KeptNetwork, going, stopped}
use Rattle.grasp_kept.specs.Stands.{KeptWorldStands}
use Rattle.grasp_kept.specs.declared.kept_world.KeptWorld.{KeptWorld}
use Rattle.grasp_runner.specs.Lines.{LookAnswers}
use Rattle.grasp_model_script_kept.specs.LineRuns.{KeptLineOverflows, MayHappen, kept_told, line_event, state_then}

-- a network with its disks that goes on
abbrev pub kept_at : Setting → KeptState → KeptNetwork
kept_at s k = record { setting = s; standing = going k }

-- one that was stopped, and why
abbrev pub kept_stopped : Setting → WorldStop → KeptNetwork
kept_stopped s why = record { setting = s; standing = stopped why }

-- a script of so many nodes can have this line
abbrev pub CanHave : ℕ → KeptLine → Type 0
CanHave nodes (line.Plain x) = IsAct nodes x.act
CanHave nodes (line.Crash text node calls left) = IsNode nodes node

-- the code goes on for this network, and a script of so many nodes as it has can have this line
pub record MeetsKeptLine (code : KeptWorld) (s : Setting) (k : KeptState) (x : KeptLine) : Type 0 where
  pub stands : KeptWorldStands code (kept_at s k)
  pub fit : CanHave (length s.members) x

-- the code goes on for a network of which that is so
pub record CanRunKept (code : KeptWorld) (x : KeptLine) : Type 0 where
  pub setting : Setting
  pub state : KeptState
  pub meets : MeetsKeptLine code setting state x

-- ---- where a line isn't reported

-- the line sends too much, and the code stands for a network that was stopped for this
pub record IsOverflown (code : KeptWorld) (s : Setting) (k : KeptState) (x : KeptLine) : Type 0 where
  pub overflows : KeptLineOverflows s k x
  pub stands : KeptWorldStands code (kept_stopped s stop.TooMuch)

-- the line came out so, and the code stands for the network after it
pub record IsPast (code : KeptWorld) (s : Setting) (k : KeptState) (x : KeptLine) : Type 0 where
  pub choice : Choice
  pub comes : MayHappen s k (line_event k.world x) choice
  pub stands : KeptWorldStands code (kept_at s (state_then s k (line_event k.world x) choice))

-- there was no memory: the code stands for the network as it was before the line, for one that was stopped for this, or for that after the line
abbrev pub IsStarved : KeptWorld → Setting → KeptState → KeptLine → Type 0
IsStarved code s k x = KeptWorldStands code (kept_at s k) ⊎ (KeptWorldStands code (kept_stopped s stop.OutOfMemory) ⊎ IsPast code s k x)

-- why the line isn't reported, and for what the code stands then
abbrev pub KeptLineFails : KeptWorld → Setting → KeptState → KeptLine → WorldStop → Type 0
KeptLineFails code s k x stop.TooMuch = IsOverflown code s k x
KeptLineFails code s k x stop.OutOfMemory = IsStarved code s k x

-- Inside: its event didn't come out
abbrev pub StepFails : KeptWorld → Setting → KeptState → KeptLine → WorldStop → Type 0
StepFails code s k x stop.TooMuch = IsOverflown code s k x
StepFails code s k x stop.OutOfMemory = KeptWorldStands code (kept_at s k) ⊎ KeptWorldStands code (kept_stopped s stop.OutOfMemory)

-- ---- a line

-- the line came out so, this is its report, and the code stands for the network after it
pub record KeptLineReported (code : KeptWorld) (s : Setting) (k : KeptState) (x : KeptLine) (told : List ℕ) : Type 0 where
  pub choice : Choice
  pub comes : MayHappen s k (line_event k.world x) choice
  pub told_is : told ≡ kept_told s k x choice
  pub stands : KeptWorldStands code (kept_at s (state_then s k (line_event k.world x) choice))

abbrev pub KeptLineAnswers : KeptWorld → Setting → KeptState → KeptLine → Result (List ℕ) WorldStop → Type 0
KeptLineAnswers code s k x (Ok told) = KeptLineReported code s k x told
KeptLineAnswers code s k x (Err why) = KeptLineFails code s k x why

-- for each network for which the code went on
abbrev pub RunsKeptLine : KeptWorld → KeptWorld → KeptLine → Result (List ℕ) WorldStop → Type 0
RunsKeptLine before after x result = (s : Setting) (k : KeptState) → MeetsKeptLine before s k x → KeptLineAnswers after s k x result

-- ---- an event

-- Inside: the line of this event
abbrev pub event_line : List ℕ → Event → KeptLine
event_line text e = line.Plain (record { text = text; act = act.Event e })

-- Inside: the event came out so, with the places of its sessions, and the code stands for the network after it
pub record PlainReported (code : KeptWorld) (s : Setting) (k : KeptState) (e : Event) (told : Report) : Type 0 where
  pub choice : Choice
  pub occurs : KeptOccurs s k (kept.Plain (placed_event k.world e)) choice
  pub report_is : told ≡ report_of s k.world (placed_event k.world e) choice
  pub stands : KeptWorldStands code (kept_at s (kept_event s k (kept.Plain (placed_event k.world e)) choice))

-- Inside: or it failed so
abbrev pub PlainAnswers : KeptWorld → Setting → KeptState → List ℕ → Event → Result Report WorldStop → Type 0
PlainAnswers code s k text e (Ok told) = PlainReported code s k e told
PlainAnswers code s k text e (Err why) = StepFails code s k (event_line text e) why

-- Inside: for each network for which the code went on
abbrev pub RunsPlain : KeptWorld → KeptWorld → List ℕ → Event → Result Report WorldStop → Type 0
RunsPlain before after text e result = (s : Setting) (k : KeptState) → MeetsKeptLine before s k (event_line text e) → PlainAnswers after s k text e result

-- Inside: the report is of an event that is no crash
abbrev pub IsPlainReport : KeptReport → Type 0
IsPlainReport (report.Plain told) = Unit {0}
IsPlainReport (report.Restarted image) = ⊥

-- Inside: it is of a crash
abbrev pub IsCrashReport : KeptReport → Type 0
IsCrashReport (report.Plain told) = ⊥
IsCrashReport (report.Restarted image) = Unit {0}

-- ---- a crash

-- Inside: it came out so, the code stands for the network after it, and this is the image with which the node has begun anew
pub record CrashReported (code : KeptWorld) (s : Setting) (k : KeptState) (node calls : ℕ) (left : Left) (image : PoolImage) : Type 0 where
  pub choice : Choice
  pub occurs : KeptOccurs s k (kept.Crash node calls left) choice
  pub image_is : image ≡ image_left s k node calls left choice
  pub stands : KeptWorldStands code (kept_at s (kept_event s k (kept.Crash node calls left) choice))

-- Inside: or it failed so
abbrev pub CrashAnswers : KeptWorld → Setting → KeptState → List ℕ → ℕ → ℕ → Left → Result PoolImage WorldStop → Type 0
CrashAnswers code s k text node calls left (Ok image) = CrashReported code s k node calls left image
CrashAnswers code s k text node calls left (Err why) = StepFails code s k (line.Crash text node calls left) why

-- Inside: for each network for which the code went on
abbrev pub RunsCrash : KeptWorld → KeptWorld → List ℕ → ℕ → ℕ → Left → Result PoolImage WorldStop → Type 0
RunsCrash before after text node calls left result =
    (s : Setting) (k : KeptState) → MeetsKeptLine before s k (line.Crash text node calls left) → CrashAnswers after s k text node calls left result

-- ---- the report of a line

-- Inside: the text tells this of a crash, or there was no memory
abbrev pub TellsCrash : List ℕ → PoolImage → Result (List ℕ) WorldStop → Type 0
TellsCrash text image (Ok told) = told ≡ told_restart text image
TellsCrash text image (Err why) = why ≡ stop.OutOfMemory

-- Inside: the text tells this of a node, for each network for which the code goes on
abbrev pub RunsKeptLook : KeptWorld → List ℕ → ℕ → Result (List ℕ) WorldStop → Type 0
RunsKeptLook code text node result = (s : Setting) (k : KeptState) → MeetsKeptLine code s k (line.Plain (record { text = text; act = act.State node })) → LookAnswers k.world text node result
