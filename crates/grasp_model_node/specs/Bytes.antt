-- What a piece of a stream adds, and how it is heard.
use Rattle.std.specs.Prelude.{◌≡◌, ℕ, ◌+◌, true, nat_le, List, [], ◌∷◌, ◌++◌, length, Option, None, Some, if◌then◌else◌}
use Rattle.grasp_session.specs.Sessions.{after_mark}
use Rattle.grasp_session.specs.Transcript.{Closed, Starved}
use Rattle.grasp_types.specs.declared.message.Message.{Message}
use Rattle.grasp_wire.specs.Cutter.{Past, after_feed}
use Rattle.grasp_wire.specs.Stream.{Divides, RestKind, waiting, too_long, not_message, faulty}
use Rattle.grasp_model_node.specs.Hear.{Heard, hear, after_refusal, stays, shuts}
use Rattle.grasp_model_node.specs.Moves.{with_sessions, begin_closing, keep_past, drop_record}
use Rattle.grasp_model_node.specs.Node.{NodeState}
use Rattle.grasp_model_node.specs.Streams.{past_of, has_record}

-- how many bytes come on a stream at most
abbrev pub most_bytes : ℕ
most_bytes = 4294967295

-- the messages that a piece adds to a stream, and the rest that is left behind them
pub record Added : Type 0 where
  pub messages : List Message
  pub rest : List ℕ
  pub kind : RestKind

-- the stream with the piece divides into the messages of before, these, and this rest
abbrev pub Adds : ℕ → Past → List ℕ → Added → Type 0
Adds limit past piece a = Divides (past.fed ++ piece) limit (past.given ++ a.messages) a.rest a.kind

-- what an open stream adds; nothing is said of one that is closing or has no record
abbrev pub AddsOn : ℕ → List ℕ → Added → Option Past → Type 0
AddsOn limit piece a None = Unit {0}
AddsOn limit piece a (Some past) = Adds limit past piece a

-- a message is heard where the stream is still open
abbrev pub hear_on : ℕ → Heard → Message → Heard
hear_on stream x m = if x.is_open then hear x.node stream m else x

-- messages are heard one after the other
unfoldable pub hear_all : ℕ → List Message → Heard → Heard
hear_all stream [] x = x
hear_all stream (m ∷ ms) x = hear_all stream ms (hear_on stream x m)

-- a fault of what came is heard as a bad message
abbrev pub hear_fault : ℕ → Heard → Heard
hear_fault stream x = if x.is_open then shuts (after_refusal x.node stream) else x

abbrev pub hear_rest : ℕ → RestKind → Heard → Heard
hear_rest stream waiting x = x
hear_rest stream too_long x = hear_fault stream x
hear_rest stream not_message x = hear_fault stream x
hear_rest stream (faulty name place) x = hear_fault stream x

-- all messages of the piece, and then a fault of the rest, where it has one
abbrev pub heard : NodeState → ℕ → Added → Heard
heard n stream a = hear_rest stream a.kind (hear_all stream a.messages (stays n))

-- the past of the stream with the piece and its messages
abbrev pub past_after : Past → List ℕ → Added → Past
past_after past piece a = record (after_feed past piece) { given = past.given ++ a.messages }

-- the stream keeps its past where it is still open, and is closing where it isn't
abbrev pub left_as : ℕ → Past → Heard → NodeState
left_as stream past x = if x.is_open then keep_past x.node stream past else x.node

-- a stream is closed: its session is broken, and its record goes
abbrev pub broken : NodeState → ℕ → NodeState
broken n stream = drop_record (with_sessions n (after_mark n.sessions stream Closed)) stream

-- the node is out of memory for what came on a stream: the stream's session is marked so, and the stream's record goes
abbrev pub starved : NodeState → ℕ → NodeState
starved n stream = drop_record (with_sessions n (after_mark n.sessions stream Starved)) stream

-- While the messages of a stream are heard it counts as closing, which no message can tell. A stream on which more than
-- 4294967295 bytes would have come is treated as closed
abbrev pub bytes_on : NodeState → ℕ → List ℕ → Added → Option Past → NodeState
bytes_on n stream piece a None = n
bytes_on n stream piece a (Some past) =
    if nat_le (length past.fed + length piece) most_bytes then left_as stream (past_after past piece a) (heard (begin_closing n stream) stream a)
    else broken n stream

-- the node after a piece of a stream
unfoldable pub after_bytes : NodeState → ℕ → List ℕ → Added → NodeState
after_bytes n stream piece a = bytes_on n stream piece a (past_of n.streams stream)

-- some of the messages of a piece for which there is room were heard, and then memory was wanted
pub record StarvesAt (n : NodeState) (stream : ℕ) (piece : List ℕ) (a : Added) (after : NodeState) : Type 0 where
  pub some : List Message
  pub others : List Message
  pub parts : a.messages ≡ some ++ others
  pub past : Past
  pub was_open : past_of n.streams stream ≡ Some past
  pub room : nat_le (length past.fed + length piece) most_bytes ≡ true
  pub still_open : (hear_all stream some (stays (begin_closing n stream))).is_open ≡ true
  pub after_is : after ≡ starved (hear_all stream some (stays (begin_closing n stream))).node stream

-- a closing: of a stream without a record nothing is changed
unfoldable pub after_closed : NodeState → ℕ → NodeState
after_closed n stream = if has_record n.streams stream then broken n stream else n
