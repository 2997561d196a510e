-- What happens in a network whose nodes crash, one thing after the other, and the turns of the network that it comes to.
use Rattle.std.specs.Prelude.{List, [], ◌∷◌, ◌++◌, length}
use Rattle.grasp_model_network.specs.Events.{IsFit, MayStop, Occurs, Overflows, after_event}
use Rattle.grasp_model_network.specs.Plans.{IsNode}
use Rattle.grasp_model_network.specs.Reports.{report_of}
use Rattle.grasp_model_network.specs.Restarting.{after_restart}
use Rattle.grasp_model_network.specs.Setting.{Setting}
use Rattle.grasp_model_network.specs.Turns.{TakenTurn}
use Rattle.grasp_model_network.specs.Visits.{Choice, no_choice}
use Rattle.grasp_model_network.specs.World.{WorldState}
use Rattle.grasp_model_network.specs.declared.report.WorldStop.{WorldStop}
use Rattle.grasp_model_network.specs.declared.report.WorldStop.TheVariants as stop
use Rattle.grasp_model_network.specs.declared.turn.Turn.TheVariants as turn
use Rattle.grasp_model_kept.specs.Crashing.{CallOccurs, CallOverflows, bytes_left, image_left, is_cut, turns_cut, world_crashed}
use Rattle.grasp_model_kept.specs.Disks.{disks_after}
use Rattle.grasp_model_kept.specs.World.{KeptState, with_disk}
use Rattle.grasp_model_kept.specs.declared.event.KeptEvent.{KeptEvent}
use Rattle.grasp_model_kept.specs.declared.event.KeptEvent.TheVariants as kept
use Rattle.grasp_model_kept.specs.declared.report.KeptReport.{KeptReport}
use Rattle.grasp_model_kept.specs.declared.report.KeptReport.TheVariants as report

-- ---- one event

-- the event may be asked for: one that fits the network, or a crash of a node that is there
abbrev pub IsKeptFit : Setting → KeptState → KeptEvent → Type 0
IsKeptFit s k (kept.Plain e) = IsFit s k.world e
IsKeptFit s k (kept.Crash node calls left) = IsNode (length s.members) node

-- the event may come out so
abbrev pub KeptOccurs : Setting → KeptState → KeptEvent → Choice → Type 0
KeptOccurs s k (kept.Plain e) c = Occurs s k.world e c
KeptOccurs s k (kept.Crash node calls left) c = IsNode (length s.members) node × CallOccurs s k.world node c (is_cut k node calls)

-- the network and the disks after it
unfoldable pub kept_event : Setting → KeptState → KeptEvent → Choice → KeptState
kept_event s k (kept.Plain e) c = record { world = after_event s k.world e c; disks = disks_after s k e (after_event s k.world e c) }
kept_event s k (kept.Crash node calls left) c = record {
  world = after_restart s (world_crashed s k node calls c) node (image_left s k node calls left c);
  disks = with_disk k.disks node (bytes_left s k node calls left c);
}

-- the event sends more than may be sent
abbrev pub KeptOverflows : Setting → KeptState → KeptEvent → Type 0
KeptOverflows s k (kept.Plain e) = Overflows s k.world e
KeptOverflows s k (kept.Crash node calls left) = CallOverflows s k.world node (is_cut k node calls)

-- why the event may stop the network; a crash may do so at any time for want of memory
abbrev pub KeptMayStop : Setting → KeptState → KeptEvent → WorldStop → Type 0
KeptMayStop s k (kept.Plain e) why = MayStop s k.world e why
KeptMayStop s k (kept.Crash node calls left) stop.TooMuch = KeptOverflows s k (kept.Crash node calls left)
KeptMayStop s k (kept.Crash node calls left) stop.OutOfMemory = Unit {0}

-- what is reported of it
abbrev pub kept_report : Setting → KeptState → KeptEvent → Choice → KeptReport
kept_report s k (kept.Plain e) c = report.Plain (report_of s k.world e c)
kept_report s k (kept.Crash node calls left) c = report.Restarted (image_left s k node calls left c)

-- the turns of the network that it comes to: a crash is the agent's call, where that is made, and the beginning anew
abbrev pub turns_of_event : Setting → KeptState → KeptEvent → Choice → List TakenTurn
turns_of_event s k (kept.Plain e) c = record { turn = turn.Event e; choice = c } ∷ []
turns_of_event s k (kept.Crash node calls left) c =
    turns_cut node c (is_cut k node calls) ++ record { turn = turn.Restart node (image_left s k node calls left c); choice = no_choice } ∷ []

-- the network that an event passes on the way: that at a crash, before the node begins anew
abbrev pub network_within : Setting → KeptState → KeptEvent → Choice → List WorldState
network_within s k (kept.Plain e) c = []
network_within s k (kept.Crash node calls left) c = world_crashed s k node calls c ∷ []

-- ---- runs

-- an event, and how the step in it came out
pub record KeptHappening : Type 0 where
  pub event : KeptEvent
  pub choice : Choice

-- the events may come out so, one after the other from here on
unfoldable pub IsKeptRun : Setting → KeptState → List KeptHappening → Type 0
IsKeptRun s k [] = Unit {0}
IsKeptRun s k (h ∷ hs) = KeptOccurs s k h.event h.choice × IsKeptRun s (kept_event s k h.event h.choice) hs

-- the states of the run: this one, and the one after each event
unfoldable pub kept_states : Setting → KeptState → List KeptHappening → List KeptState
kept_states s k [] = k ∷ []
kept_states s k (h ∷ hs) = k ∷ kept_states s (kept_event s k h.event h.choice) hs

-- the networks of the run: this one, that at each crash, and the one after each event
unfoldable pub kept_networks : Setting → KeptState → List KeptHappening → List WorldState
kept_networks s k [] = k.world ∷ []
kept_networks s k (h ∷ hs) = k.world ∷ (network_within s k h.event h.choice ++ kept_networks s (kept_event s k h.event h.choice) hs)

-- the last of the states
unfoldable pub kept_after : Setting → KeptState → List KeptHappening → KeptState
kept_after s k [] = k
kept_after s k (h ∷ hs) = kept_after s (kept_event s k h.event h.choice) hs

-- the turns of the network that the run comes to
unfoldable pub turns_of : Setting → KeptState → List KeptHappening → List TakenTurn
turns_of s k [] = []
turns_of s k (h ∷ hs) = turns_of_event s k h.event h.choice ++ turns_of s (kept_event s k h.event h.choice) hs

-- what is reported of each event
unfoldable pub kept_reports : Setting → KeptState → List KeptHappening → List KeptReport
kept_reports s k [] = []
kept_reports s k (h ∷ hs) = kept_report s k h.event h.choice ∷ kept_reports s (kept_event s k h.event h.choice) hs
