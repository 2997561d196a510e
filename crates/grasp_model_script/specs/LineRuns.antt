-- What a line of a script does in a network: it is an event, or a look at what a node holds.
use Rattle.std.specs.Prelude.{ℕ, List, [], Option, None, Some, length}
use Rattle.grasp_model_network.specs.Plans.{IsNode}
use Rattle.grasp_types.specs.declared.call.Call.{Call}
use Rattle.grasp_types.specs.declared.call.Call.TheVariants as call
use Rattle.grasp_types.specs.declared.session.Handle.{Handle}
use Rattle.grasp_model_network.specs.Events.{Occurs, after_event}
use Rattle.grasp_model_network.specs.Reports.{report_of}
use Rattle.grasp_model_network.specs.Setting.{Setting}
use Rattle.grasp_model_network.specs.Visits.{Choice}
use Rattle.grasp_model_network.specs.World.{Seat, WorldState, seat_at, handle_place, present_life}
use Rattle.grasp_model_network.specs.declared.event.Event.{Event}
use Rattle.grasp_model_network.specs.declared.event.Event.TheVariants as event
use Rattle.grasp_model_network.specs.declared.report.Report.{Report}
use Rattle.grasp_script.specs.Reports.{told_report, told_state}
use Rattle.grasp_script.specs.declared.line.Line.{Line}
use Rattle.grasp_script.specs.declared.line.LineAct.{LineAct}
use Rattle.grasp_script.specs.declared.line.LineAct.TheVariants as act

-- ---- a line names a session by its number; its place is the one that was given with it in the node's present life, and 0 where none was

abbrev pub placed_handle : WorldState → ℕ → Handle → Handle
placed_handle w node h = record { place = handle_place w node h.number; number = h.number }

abbrev pub placed_call : WorldState → ℕ → Call → Call
placed_call w node (call.NegotiateStep h value) = call.NegotiateStep (placed_handle w node h) value
placed_call w node (call.NegotiateWait h millis) = call.NegotiateWait (placed_handle w node h) millis
placed_call w node (call.EndNegotiate h verdict) = call.EndNegotiate (placed_handle w node h) verdict
placed_call w node (call.SendInvalid h detail) = call.SendInvalid (placed_handle w node h) detail
placed_call w node (call.Poll h) = call.Poll (placed_handle w node h)
placed_call w node c = c

-- the event of a line in this network
abbrev pub placed_event : WorldState → Event → Event
placed_event w (event.Api node asa c hold) = event.Api node asa (placed_call w (present_life w node) c) hold
placed_event w e = e

-- ---- how a line comes out

-- the event of a line may come out so; a look at a node needs no more than that the node is there
abbrev pub MayComeOut : Setting → WorldState → LineAct → Choice → Type 0
MayComeOut s w (act.Event e) c = Occurs s w (placed_event w e) c
MayComeOut s w (act.State node) c = IsNode (length s.members) node

-- the network after it; a look changes nothing
abbrev pub after_act : Setting → WorldState → LineAct → Choice → WorldState
after_act s w (act.Event e) c = after_event s w (placed_event w e) c
after_act s w (act.State node) c = w

-- the report of an event
unfoldable pub event_told : List ℕ → Report → List ℕ
event_told text r = told_report text r

-- what is told of a node: the prefixes of its agent
unfoldable pub seat_told : List ℕ → Option Seat → List ℕ
seat_told text None = []
seat_told text (Some seat) = told_state text seat.agent.pool

-- the report, without its line end
abbrev pub act_told : Setting → WorldState → List ℕ → LineAct → Choice → List ℕ
act_told s w text (act.Event e) c = event_told text (report_of s w (placed_event w e) c)
act_told s w text (act.State node) c = seat_told text (seat_at w (present_life w node))

-- ---- a line that was run, and how its event came out

pub record LineRun : Type 0 where
  pub line : Line
  pub choice : Choice

abbrev pub MayRun : Setting → WorldState → LineRun → Type 0
MayRun s w x = MayComeOut s w x.line.act x.choice

abbrev pub after_line : Setting → WorldState → LineRun → WorldState
after_line s w x = after_act s w x.line.act x.choice

abbrev pub line_told : Setting → WorldState → LineRun → List ℕ
line_told s w x = act_told s w x.line.text x.line.act x.choice
