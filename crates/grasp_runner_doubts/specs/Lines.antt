-- What the code promises of one line of a script of a network of doubters.
use Rattle.std.specs.Prelude.{◌≡◌, ◌⊎◌, ℕ, List, length, Result, Ok, Err}
use Rattle.grasp_model_network.specs.Setting.{Setting}
use Rattle.grasp_model_network.specs.Visits.{Choice}
use Rattle.grasp_model_network.specs.declared.report.WorldStop.{WorldStop}
use Rattle.grasp_model_network.specs.declared.report.WorldStop.TheVariants as stop
use Rattle.grasp_script.specs.declared.line.LineAct.TheVariants as plain
use Rattle.grasp_script_doubts.specs.Lines.{IsDoubtAct}
use Rattle.grasp_script_doubts.specs.declared.line.DoubtLine.{DoubtLine}
use Rattle.grasp_script_doubts.specs.declared.line.DoubtLineAct.{DoubtLineAct}
use Rattle.grasp_script_doubts.specs.declared.line.DoubtLineAct.TheVariants as act
use Rattle.grasp_model_doubts.specs.Events.{DoubtMayStop, DoubtOccurs, IsDoubtFit, doubt_event, doubt_report}
use Rattle.grasp_model_doubts.specs.World.{DoubtState}
use Rattle.grasp_model_doubts.specs.declared.event.DoubtEvent.{DoubtEvent}
use Rattle.grasp_model_doubts.specs.declared.report.DoubtReport.{DoubtReport}
use Rattle.grasp_doubts.specs.Contract.{DoubtNetwork, going, stopped}
use Rattle.grasp_doubts.specs.Stands.{DoubtWorldStands}
use Rattle.grasp_doubts.specs.declared.doubt_world.DoubtWorld.{DoubtWorld}
use Rattle.grasp_runner.specs.Lines.{LookAnswers}
use Rattle.grasp_model_script_doubts.specs.LineRuns.{DoubtLineOverflows, MayHappen, act_event, doubt_act_told, doubt_told, state_then}

-- a network with its doubters that goes on
abbrev pub doubts_at : Setting → DoubtState → DoubtNetwork
doubts_at s x = record { setting = s; standing = going x }

-- one that was stopped, and why
abbrev pub doubts_stopped : Setting → WorldStop → DoubtNetwork
doubts_stopped s why = record { setting = s; standing = stopped why }

-- the code goes on for this network, and a script of so many nodes as it has can have this line
pub record MeetsDoubtLine (code : DoubtWorld) (s : Setting) (x : DoubtState) (a : DoubtLineAct) : Type 0 where
  pub stands : DoubtWorldStands code (doubts_at s x)
  pub fit : IsDoubtAct (length s.members) a

-- the code goes on for a network of which that is so
pub record CanRunDoubt (code : DoubtWorld) (a : DoubtLineAct) : Type 0 where
  pub setting : Setting
  pub state : DoubtState
  pub meets : MeetsDoubtLine code setting state a

-- ---- where a line isn't reported

-- the line's event sends too much, and the code stands for a network that was stopped for this
pub record IsOverflown (code : DoubtWorld) (s : Setting) (x : DoubtState) (a : DoubtLineAct) : Type 0 where
  pub overflows : DoubtLineOverflows s x a
  pub stands : DoubtWorldStands code (doubts_stopped s stop.TooMuch)

-- the line came out so, and the code stands for the network after it
pub record IsPast (code : DoubtWorld) (s : Setting) (x : DoubtState) (a : DoubtLineAct) : Type 0 where
  pub choice : Choice
  pub comes : MayHappen s x (act_event x.world a) choice
  pub stands : DoubtWorldStands code (doubts_at s (state_then s x (act_event x.world a) choice))

-- there was no memory: the code stands for the network as it was before the line, for one that was stopped for this, or for that after the line
abbrev pub IsStarved : DoubtWorld → Setting → DoubtState → DoubtLineAct → Type 0
IsStarved code s x a = DoubtWorldStands code (doubts_at s x) ⊎ (DoubtWorldStands code (doubts_stopped s stop.OutOfMemory) ⊎ IsPast code s x a)

-- why the line isn't reported, and for what the code stands then
abbrev pub DoubtLineFails : DoubtWorld → Setting → DoubtState → DoubtLineAct → WorldStop → Type 0
DoubtLineFails code s x a stop.TooMuch = IsOverflown code s x a
DoubtLineFails code s x a stop.OutOfMemory = IsStarved code s x a

-- ---- a line

-- the line came out so, this is its report, and the code stands for the network after it
pub record DoubtLineReported (code : DoubtWorld) (s : Setting) (x : DoubtState) (text : List ℕ) (a : DoubtLineAct) (told : List ℕ) : Type 0 where
  pub choice : Choice
  pub comes : MayHappen s x (act_event x.world a) choice
  pub told_is : told ≡ doubt_act_told s x text a choice
  pub stands : DoubtWorldStands code (doubts_at s (state_then s x (act_event x.world a) choice))

abbrev pub DoubtLineAnswers : DoubtWorld → Setting → DoubtState → List ℕ → DoubtLineAct → Result (List ℕ) WorldStop → Type 0
DoubtLineAnswers code s x text a (Ok told) = DoubtLineReported code s x text a told
DoubtLineAnswers code s x text a (Err why) = DoubtLineFails code s x a why

-- for each network for which the code went on
abbrev pub RunsDoubtAct : DoubtWorld → DoubtWorld → List ℕ → DoubtLineAct → Result (List ℕ) WorldStop → Type 0
RunsDoubtAct before after text a result = (s : Setting) (x : DoubtState) → MeetsDoubtLine before s x a → DoubtLineAnswers after s x text a result

-- so a line is run
abbrev pub RunsDoubtLine : DoubtWorld → DoubtWorld → DoubtLine → Result (List ℕ) WorldStop → Type 0
RunsDoubtLine before after line result = RunsDoubtAct before after line.text line.act result

-- ---- what happens

-- Inside: the code goes on for this network, and the event fits
pub record StepFits (code : DoubtWorld) (s : Setting) (x : DoubtState) (e : DoubtEvent) : Type 0 where
  pub stands : DoubtWorldStands code (doubts_at s x)
  pub fit : IsDoubtFit s x e

-- Inside: the event came out so, this is its report, and the code stands for the network after it
pub record StepReported (code : DoubtWorld) (s : Setting) (x : DoubtState) (text : List ℕ) (e : DoubtEvent) (told : List ℕ) : Type 0 where
  pub choice : Choice
  pub occurs : DoubtOccurs s x e choice
  pub told_is : told ≡ doubt_told text (doubt_report s x e choice)
  pub stands : DoubtWorldStands code (doubts_at s (doubt_event s x e choice))

-- Inside: it sends too much, and the code stands for a network that was stopped for this
pub record StepOverflown (code : DoubtWorld) (s : Setting) (x : DoubtState) (e : DoubtEvent) : Type 0 where
  pub overflows : DoubtMayStop s x e stop.TooMuch
  pub stands : DoubtWorldStands code (doubts_stopped s stop.TooMuch)

-- Inside: it came out so, and the code stands for the network after it
pub record StepPast (code : DoubtWorld) (s : Setting) (x : DoubtState) (e : DoubtEvent) : Type 0 where
  pub choice : Choice
  pub occurs : DoubtOccurs s x e choice
  pub stands : DoubtWorldStands code (doubts_at s (doubt_event s x e choice))

-- Inside: it isn't reported, and the code stands for a network that was stopped, or for that after the event
abbrev pub StepFails : DoubtWorld → Setting → DoubtState → DoubtEvent → WorldStop → Type 0
StepFails code s x e stop.TooMuch = StepOverflown code s x e
StepFails code s x e stop.OutOfMemory = DoubtWorldStands code (doubts_stopped s stop.OutOfMemory) ⊎ StepPast code s x e

-- Inside: it is reported, or it isn't
abbrev pub StepAnswers : DoubtWorld → Setting → DoubtState → List ℕ → DoubtEvent → Result (List ℕ) WorldStop → Type 0
StepAnswers code s x text e (Ok told) = StepReported code s x text e told
StepAnswers code s x text e (Err why) = StepFails code s x e why

-- Inside: for each network for which the code went on
abbrev pub RunsStep : DoubtWorld → DoubtWorld → List ℕ → DoubtEvent → Result (List ℕ) WorldStop → Type 0
RunsStep before after text e result = (s : Setting) (x : DoubtState) → StepFits before s x e → StepAnswers after s x text e result

-- ---- the report

-- Inside: the text tells this of what happened, or there was no memory
abbrev pub TellsDoubt : List ℕ → DoubtReport → Result (List ℕ) WorldStop → Type 0
TellsDoubt text report (Ok told) = told ≡ doubt_told text report
TellsDoubt text report (Err why) = why ≡ stop.OutOfMemory

-- Inside: the text tells this of a node, for each network for which the code goes on
abbrev pub RunsDoubtLook : DoubtWorld → List ℕ → ℕ → Result (List ℕ) WorldStop → Type 0
RunsDoubtLook code text node result =
    (s : Setting) (x : DoubtState) → MeetsDoubtLine code s x (act.Plain (plain.State node)) → LookAnswers x.world text node result
