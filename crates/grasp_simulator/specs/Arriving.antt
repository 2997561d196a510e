-- Inside: where a stream arrives, as the code finds it.
use Rattle.std.specs.Prelude.{ℕ, ◌-◌, ◌*◌, ◌≡◌, Bool, true, false, if◌then◌else◌, List, Option, None, Some}
use Rattle.grasp_types.specs.declared.reply.Reply.{Reply}
use Rattle.grasp_types.specs.declared.reply.Reply.TheVariants as reply
use Rattle.grasp_model_network.specs.Setting.{numbered}
use Rattle.grasp_model_network.specs.World.{end_of}
use Rattle.grasp_model_network.specs.Streams.{StreamState, stream_numbered, change_at_end, with_far}
use Rattle.grasp_simulator.specs.Listening.{listener_from}
use Rattle.grasp_simulator.specs.StreamParts.{standing_by, is_unopened}
use Rattle.grasp_simulator.specs.StreamsStand.{arrival_of, Queueing, StreamsStand}
use Rattle.grasp_simulator.specs.declared.stream.Stream.{Stream}
use Rattle.grasp_simulator.specs.declared.streams.Streams.{Streams}
use Rattle.grasp_simulator.specs.declared.world_arrivals.Waiting.{Waiting}

-- ---- who opens it

abbrev pub waiting_by : Option ℕ → Option ℕ → Option Waiting
waiting_by near None = None
waiting_by None (Some node) = None
waiting_by (Some near) (Some node) = Some (record { near = near; node = node })

-- whose life dialled the stream, among these lives, and who is to open it, among so many nodes, where it isn't opened yet
abbrev pub waiting_in : List ℕ → ℕ → Option Stream → Option Waiting
waiting_in lives nodes None = None
waiting_in lives nodes (Some code) = if is_unopened code.far_side then waiting_by (numbered lives code.near) (listener_from 1 nodes code.to) else None

-- ---- how it stands then

-- the node took the stream
abbrev pub is_taken : Reply → Bool
is_taken reply.Turned = false
is_taken _ = true

-- the stream of this number is opened in this life, whose node took it or turned it away
abbrev pub Opens : Streams → Streams → ℕ → ℕ → Bool → Type 0
Opens before after k life taken = (begins : Queueing) (ts : List StreamState) (dials : ℕ) (t : StreamState) → stream_numbered ts k ≡ Some t → StreamsStand before begins ts dials
    → StreamsStand after begins (change_at_end ts t.near (with_far (end_of life (2 * k - 1)) (arrival_of (standing_by taken)))) dials
