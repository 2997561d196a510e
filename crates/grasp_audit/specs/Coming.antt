-- Inside: what a line says came in on a stream.
use Rattle.std.specs.Prelude.{◌≡◌, ◌==◌, ◌&&◌, ◌+◌, ◌/◌, ◌%◌, ℕ, Bool, true, false, if◌then◌else◌, Option, None, Some}
use Rattle.grasp_types.specs.Same.{same_address}
use Rattle.grasp_types.specs.declared.address.Address.{Address}
use Rattle.grasp_model_audit.specs.Naming.{bytes_event, closing_event, if_brought, side_with}
use Rattle.grasp_model_network.specs.Setting.{Setting, script_address}
use Rattle.grasp_model_network.specs.StreamChanges.{reached_side, side_named}
use Rattle.grasp_model_network.specs.Streams.{stream_numbered}
use Rattle.grasp_model_network.specs.World.{WorldState}
use Rattle.grasp_model_network.specs.declared.event.Event.{Event}
use Rattle.grasp_model_network.specs.declared.event.Event.TheVariants as event
use Rattle.grasp_record.specs.declared.line.RecordInput.{RecordInput}
use Rattle.grasp_simulator.specs.Lending.{StandsFor, side_lent, waiting_for}
use Rattle.grasp_simulator.specs.declared.world.World.{World}
use Rattle.grasp_simulator.specs.declared.world_arrivals.Waiting.{Waiting}
use Rattle.grasp_simulator.specs.declared.world_lends.SideEnd.{SideEnd}

-- ---- the event that the line's number stands for

abbrev pub arrives_at : ℕ → WorldState → Option Event
arrives_at stream w = Some (event.Arrive (stream / 2 + 1) true)

abbrev pub bytes_at : ℕ → ℕ → ℕ → WorldState → Option Event
bytes_at node stream count w = bytes_event count (side_with w node stream)

abbrev pub closing_at : ℕ → ℕ → WorldState → Option Event
closing_at node stream w = closing_event (side_with w node stream)

-- it is found where it brings to the node what the line says
abbrev pub NamesBrought : World → ℕ → RecordInput → (WorldState → Option Event) → Option Event → Type 0
NamesBrought code node i event found = (s : Setting) (w : WorldState) → StandsFor code s w → if_brought s w node i (event w) ≡ found

-- ---- streams that wait

abbrev pub waits_with : ℕ → Address → Option Waiting → Bool
waits_with node from None = false
waits_with node from (Some x) = x.node == node && same_address (script_address x.near) from

-- the number is odd, and this is so
abbrev pub is_odd : ℕ → Bool → Bool
is_odd stream is_so = if stream % 2 == 0 then false else is_so

-- the stream with this odd number waits to be opened at the node, and the node that dialled has this address
abbrev pub ArrivesSo : World → ℕ → ℕ → Address → Bool → Type 0
ArrivesSo code node stream from is_so = (s : Setting) (w : WorldState) → StandsFor code s w
    → is_so ≡ is_odd stream (waits_with node from (waiting_for s w (stream_numbered w.streams (stream / 2 + 1))))

-- ---- sides

abbrev pub is_end : ℕ → ℕ → Option SideEnd → Bool
is_end node stream None = false
is_end node stream (Some x) = x.node == node && x.number == stream

-- what comes on this side of the stream is delivered to the node, under this number
abbrev pub IsSideOf : World → ℕ → ℕ → ℕ → Bool → Bool → Type 0
IsSideOf code node stream k far is_so = (s : Setting) (w : WorldState) → StandsFor code s w
    → is_so ≡ is_end node stream (side_lent w (reached_side w k (side_named far)))
