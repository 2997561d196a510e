-- The record of one line of a script.
use Rattle.std.proofs.Common.{◌≡◌, refl, sym, subst, ℕ, List, [], Result, Ok, Err}
use Rattle.grasp_model_network.specs.Events.{IsFit}
use Rattle.grasp_model_network.specs.Setting.{Setting}
use Rattle.grasp_model_network.specs.Visits.{no_choice}
use Rattle.grasp_model_network.specs.World.{WorldState}
use Rattle.grasp_model_network.specs.declared.event.Event.{Event}
use Rattle.grasp_model_network.specs.declared.event.Event.TheVariants as event
use Rattle.grasp_model_network.specs.declared.report.WorldStop.{WorldStop}
use Rattle.grasp_model_network.specs.declared.report.WorldStop.TheVariants as stop
use Rattle.grasp_script.specs.declared.line.LineAct.{LineAct}
use Rattle.grasp_script.specs.declared.line.LineAct.TheVariants as act
use Rattle.grasp_model_script.specs.LineRuns.{placed_event}
use Rattle.grasp_model_audit.specs.Recording.{record_text}
use Rattle.grasp_simulator.specs.declared.world.World.{World}
use Rattle.grasp_runner.proofs.Placing.{fit_here}
use Rattle.grasp_runner.specs.Lines.{CanRun, MeetsLine}
use Rattle.grasp_recorder.specs.Lines.{CanRecord, LineRecorded, MeetsRecord, RecordAnswers, RecordsAct}
use Rattle.grasp_recorder.specs.Taking.{CanRecordEvent, EventAnswers, EventRecorded, IsRecordedStep, MeetsEvent, RecordsEvent}
use Rattle.grasp_recorder.specs.declared.recorder.Recorder.{Recorder}

-- ---- an event with the places of its sessions

-- the placed event is that of each network
abbrev pub IsPlaced : World → Event → Event → Type 0
IsPlaced code e placed = (s : Setting) (w : WorldState) → MeetsLine code s w (act.Event e) → placed ≡ placed_event w e

pub can_place : (recorder : Recorder) (code : World) (e : Event) → CanRecord recorder code (act.Event e) → CanRun code (act.Event e)
can_place recorder code e can = record { setting = can.setting; network = can.network; meets = can.meets.meets }

meets_placed : (recorder : Recorder) (code : World) (s : Setting) (w : WorldState) (e placed : Event) → IsPlaced code e placed → MeetsRecord recorder code s w (act.Event e) → MeetsEvent recorder code s w placed
meets_placed recorder code s w e placed is h = record {
  met = record { stands = h.meets.stands; fit = subst (λ (x : Event). IsFit s w x) (sym (is s w h.meets)) (fit_here code s w e h.meets) };
  knows = h.knows;
}

pub can_record : (recorder : Recorder) (code : World) (e placed : Event) → IsPlaced code e placed → CanRecord recorder code (act.Event e) → CanRecordEvent recorder code placed
can_record recorder code e placed is can = record { setting = can.setting; network = can.network; meets = meets_placed recorder code can.setting can.network e placed is can.meets }

recorded : (recorder : Recorder) (code : World) (s : Setting) (w : WorldState) (e : Event) (text : List ℕ) → EventRecorded recorder code s w (placed_event w e) text → LineRecorded recorder code s w (act.Event e) text
unfolding record_text
recorded recorder code s w e text d = record { choice = d.choice; comes = d.occurs; written_is = d.written_is; stands = d.stands; knows = d.knows }

answers : (recorder : Recorder) (code : World) (s : Setting) (w : WorldState) (e : Event) (r : Result (List ℕ) WorldStop) → EventAnswers recorder code s w (placed_event w e) r → RecordAnswers recorder code s w (act.Event e) r
answers recorder code s w e (Ok text) d = recorded recorder code s w e text d
answers recorder code s w e (Err stop.TooMuch) d = d
answers recorder code s w e (Err stop.OutOfMemory) d = tt

pub event_recorded : (before after : Recorder) (old new : World) (e placed : Event) (r : Result (List ℕ) WorldStop) → IsPlaced old e placed → RecordsEvent before old after new placed r → RecordsAct before old after new (act.Event e) r
event_recorded before after old new e placed r is records s w h =
    answers after new s w e r (subst (λ (x : Event). EventAnswers after new s w x r) (is s w h.meets) (records s w (meets_placed before old s w e placed is h)))

-- there was no memory
pub act_starved : (before after : Recorder) (old new : World) (a : LineAct) → RecordsAct before old after new a (Err stop.OutOfMemory)
act_starved before after old new a s w h = tt

-- ---- a look

look_recorded : (recorder : Recorder) (code : World) (node : ℕ) (text : List ℕ) → text ≡ [] → RecordsAct recorder code recorder code (act.State node) (Ok text)
unfolding record_text
look_recorded recorder code node text empty s w h = record { choice = no_choice; comes = h.meets.fit; written_is = empty; stands = h.meets.stands; knows = h.knows }

pub act_look : (recorder : Recorder) (code : World) (a : LineAct) (node : ℕ) (text : List ℕ) → a ≡ act.State node → text ≡ [] → RecordsAct recorder code recorder code a (Ok text)
act_look recorder code a node text is empty = subst (λ (x : LineAct). RecordsAct recorder code recorder code x (Ok text)) (sym is) (look_recorded recorder code node text empty)

-- ---- the kinds of events

pub recorded_step : (e : Event) → ((node millis : ℕ) → e ≡ event.Clock node millis → ⊥) → ((node most : ℕ) → e ≡ event.Drain node most → ⊥) → IsRecordedStep e
recorded_step (event.Clock node millis) clock drain = absurd (clock node millis refl)
recorded_step (event.Drain node most) clock drain = absurd (drain node most refl)
recorded_step _ clock drain = tt
