-- The moves of a node: each changes one part of it. What a node does in a step is a list of these.
use Rattle.std.specs.Prelude.{ℕ, ◌+◌, Bool, ◌&&◌, not, max, List, [], ◌∷◌, ◌++◌, length, Option, None, Some, if◌then◌else◌}
use Rattle.grasp_asa.specs.Registrations.{Registrations}
use Rattle.grasp_discovery.specs.Discoveries.{Discoveries}
use Rattle.grasp_flood.specs.Floods.{Floods}
use Rattle.grasp_session.specs.Sessions.{Sessions}
use Rattle.grasp_types.specs.declared.address.Address.{Address}
use Rattle.grasp_types.specs.declared.address.Locator.{Locator}
use Rattle.grasp_types.specs.declared.message.Message.{Message}
use Rattle.grasp_wire.specs.Cutter.{Past}
use Rattle.grasp_model_node.specs.Node.{NodeState}
use Rattle.grasp_model_node.specs.Queue.{Queued, send, dial, fits, has_room, along}
use Rattle.grasp_model_node.specs.declared.way.Way.{Way}
use Rattle.grasp_model_node.specs.Streams.{closing, without, with_past, with_dialled, with_opened, next_stream, is_dialled_out}

-- the reading becomes the larger one
unfoldable pub with_reading : NodeState → ℕ → NodeState
with_reading n now = record n { reading = max n.reading now }

-- what is registered is this
unfoldable pub with_registrations : NodeState → Registrations → NodeState
with_registrations n r = record n { registrations = r }

-- the sessions are these
unfoldable pub with_sessions : NodeState → Sessions → NodeState
with_sessions n z = record n { sessions = z }

-- what is searched for, cached and remembered of discoveries is this
unfoldable pub with_discoveries : NodeState → Discoveries → NodeState
with_discoveries n d = record n { discoveries = d }

-- what floods told is this
unfoldable pub with_floods : NodeState → Floods → NodeState
with_floods n f = record n { floods = f }

-- one more word was drawn
unfoldable pub with_draw : NodeState → NodeState
with_draw n = record n { drawn = n.drawn + 1 }

-- a stream begins closing
unfoldable pub begin_closing : NodeState → ℕ → NodeState
begin_closing n stream = record n { streams = closing n.streams stream }

-- what came on a stream is this
unfoldable pub keep_past : NodeState → ℕ → Past → NodeState
keep_past n stream past = record n { streams = with_past n.streams stream (Some past) }

-- a stream has no record any more
unfoldable pub drop_record : NodeState → ℕ → NodeState
drop_record n stream = record n { streams = without n.streams stream }

-- a peer opened a stream
unfoldable pub open_record : NodeState → ℕ → Address → NodeState
open_record n stream from = record n { streams = with_opened n.streams stream from }

-- this node dials the next stream
unfoldable pub dial_record : NodeState → Option Past → NodeState
dial_record n past = record n { streams = with_dialled n.streams past }

-- these outputs are queued, behind those that were queued before
unfoldable pub queue_up : NodeState → List Queued → NodeState
queue_up n outputs = record n { queue = n.queue ++ outputs }

-- ---- what a delivery makes the node send: it is sent where all of it has room, and else lost

-- the message fits, and there is room for so many outputs
abbrev pub may_queue : NodeState → Message → ℕ → Bool
may_queue n m count = fits n.plan.limit m && has_room n.queue count

-- an answer on a stream
abbrev pub answer : NodeState → ℕ → Message → NodeState
answer n stream m = if may_queue n m 1 then queue_up n (send stream m ∷ []) else n

-- the message along all of these ways, or along none
abbrev pub relay : NodeState → Message → List Way → NodeState
relay n m ways = if may_queue n m (length ways) then queue_up n (along m ways) else n

-- a message on a stream of its own, which is closing from the start
abbrev pub dial_with : NodeState → Locator → Message → NodeState
dial_with n to m =
    if may_queue n m 2 && not (is_dialled_out n.streams)
    then dial_record (queue_up n (dial (next_stream n.streams) to ∷ send (next_stream n.streams) m ∷ [])) None
    else n
