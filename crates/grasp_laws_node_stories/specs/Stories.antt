-- The story of a stream in a step of a node: moves that tell what is heard and said there, and its session's transcript afterwards (RFC 8990, section 2.5).
use Rattle.std.specs.Prelude.{◌≡◌, ℕ, Bool, true, false, ◌==◌, ◌⊎◌, List, [], ◌++◌, length, drop, Option, None, Some, if◌then◌else◌}
use Rattle.grasp_session.specs.Sessions.{state_reply}
use Rattle.grasp_types.specs.declared.message.Message.{Message}
use Rattle.grasp_types.specs.declared.reply.Reply.{Reply}
use Rattle.grasp_types.specs.declared.traffic.Input.{Input}
use Rattle.grasp_types.specs.declared.traffic.Input.TheVariants as input
use Rattle.grasp_wire.specs.Cutter.{Past, no_past}
use Rattle.grasp_wire.specs.Stream.{RestKind, waiting, too_long, not_message, faulty}
use Rattle.grasp_model_node.specs.Begin.{begin}
use Rattle.grasp_model_node.specs.Bytes.{past_after}
use Rattle.grasp_model_node.specs.Hear.{goes_on}
use Rattle.grasp_model_node.specs.Node.{NodeState, first_node}
use Rattle.grasp_model_node.specs.Queue.{Queued}
use Rattle.grasp_model_node.specs.BoundedNodes.{IsGiven, IsBoundedNode}
use Rattle.grasp_model_node.specs.Step.{Coming, NodeStep}
use Rattle.grasp_model_node.specs.Streams.{past_of}
use Rattle.grasp_model_node.specs.declared.plan.NodePlan.{NodePlan}
use Rattle.grasp_laws_node_stories.specs.StreamMoves.{view_on, StreamMove, after_moves, said_in, heard_in, is_dial, is_fault, is_last_move, some_move, MayMoves, sends_on}

-- what a step has queued
abbrev pub gained : NodeState → NodeState → List Queued
gained n after = drop (length n.queue) after.queue

abbrev pub is_bad_rest : RestKind → Bool
is_bad_rest waiting = false
is_bad_rest too_long = true
is_bad_rest not_message = true
is_bad_rest (faulty name place) = true

-- the messages that come with an input on this stream, where it is open
abbrev pub came_by : Input → Coming → ℕ → List Message
came_by (input.Bytes s bytes) x stream = if s == stream then x.added.messages else []
came_by (input.Api asa call) x stream = []
came_by (input.Datagram link from bytes) x stream = []
came_by (input.Opened s from) x stream = []
came_by (input.Closed s) x stream = []
came_by (input.Drain max) x stream = []

abbrev pub came_on : Option Past → Input → Coming → ℕ → List Message
came_on None i x stream = []
came_on (Some past) i x stream = came_by i x stream

-- what comes with an input on this stream, where it is open, ends with a fault
abbrev pub fault_by : Input → Coming → ℕ → Bool
fault_by (input.Bytes s bytes) x stream = if s == stream then is_bad_rest x.added.kind else false
fault_by (input.Api asa call) x stream = false
fault_by (input.Datagram link from bytes) x stream = false
fault_by (input.Opened s from) x stream = false
fault_by (input.Closed s) x stream = false
fault_by (input.Drain max) x stream = false

abbrev pub fault_on : Option Past → Input → Coming → ℕ → Bool
fault_on None i x stream = false
fault_on (Some past) i x stream = fault_by i x stream

-- the past of an open stream after an input
abbrev pub past_with : Past → Input → Coming → ℕ → Past
past_with past (input.Bytes s bytes) x stream = if s == stream then past_after past bytes x.added else past
past_with past (input.Api asa call) x stream = past
past_with past (input.Datagram link from bytes) x stream = past
past_with past (input.Opened s from) x stream = past
past_with past (input.Closed s) x stream = past
past_with past (input.Drain max) x stream = past

-- the input opens this stream
abbrev pub OpensIt : Input → ℕ → Type 0
OpensIt (input.Opened s from) stream = s ≡ stream
OpensIt (input.Bytes s bytes) stream = ⊥
OpensIt (input.Api asa call) stream = ⊥
OpensIt (input.Datagram link from bytes) stream = ⊥
OpensIt (input.Closed s) stream = ⊥
OpensIt (input.Drain max) stream = ⊥

-- the stream was open, all that came was heard, and no move of this step was a last one
pub record KeptOpen (n : NodeState) (now : ℕ) (i : Input) (x : Coming) (stream : ℕ) (moves : List StreamMove) (past : Past) : Type 0 where
  pub before : Past
  pub was_open : past_of n.streams stream ≡ Some before
  pub begun_open : past_of (begin n now).streams stream ≡ Some before
  pub past_is : past ≡ past_with before i x stream
  pub all_heard : heard_in moves ≡ came_on (Some before) i x stream
  pub none_last : some_move is_last_move moves ≡ false

-- the stream was dialled or opened in this step, and nothing was heard on it
pub record NewlyOpen (n : NodeState) (now : ℕ) (i : Input) (stream : ℕ) (moves : List StreamMove) (past : Past) : Type 0 where
  pub how : (some_move is_dial moves ≡ true) ⊎ OpensIt i stream
  pub was_closed : past_of (begin n now).streams stream ≡ None
  pub past_is : past ≡ no_past
  pub none_heard : heard_in moves ≡ []
  pub none_last : some_move is_last_move moves ≡ false

-- the moves of a stream in a step
pub record Story (n : NodeState) (now : ℕ) (i : Input) (x : Coming) (after : NodeState) (stream : ℕ) : Type 0 where
  pub moves : List StreamMove
  pub may : MayMoves (view_on n stream) moves
  pub view : view_on after stream ≡ after_moves (view_on n stream) moves
  -- what is queued for it is what its moves say
  pub said : sends_on stream (gained n after) ≡ said_in (view_on n stream) moves
  -- the moves hear the first of the messages that came with the input on this stream, and nothing else
  pub unheard : List Message
  pub heard : came_on (past_of (begin n now).streams stream) i x stream ≡ heard_in moves ++ unheard
  pub no_fault : fault_on (past_of (begin n now).streams stream) i x stream ≡ false → some_move is_fault moves ≡ false
  -- only the next streams are dialled
  pub new : IsGiven n.streams.dialled stream → some_move is_dial moves ≡ false
  pub given : some_move is_dial moves ≡ true → IsGiven after.streams.dialled stream
  -- a beginning opens nothing, and leaves what came on a stream that stays open
  pub begun : (past : Past) → past_of (begin n now).streams stream ≡ Some past → past_of n.streams stream ≡ Some past
  pub opens : (past : Past) → past_of after.streams stream ≡ Some past → KeptOpen n now i x stream moves past ⊎ NewlyOpen n now i stream moves past

-- an open stream has a live session that goes on, or never had one; and no stream that is still to be dialled had one
pub record IsClear (n : NodeState) (stream : ℕ) : Type 0 where
  pub opens : (past : Past) → past_of n.streams stream ≡ Some past → (view_on n stream ≡ None) ⊎ (goes_on (state_reply n.sessions stream) ≡ true)
  pub unborn : IsGiven n.streams.dialled stream ⊎ (view_on n stream ≡ None)

-- each stream has its story in each step
abbrev pub StreamsHaveStories : Type 0
StreamsHaveStories = (n after : NodeState) (now : ℕ) (i : Input) (x : Coming) (r : Reply) (stream : ℕ) → IsBoundedNode n → IsClear n stream → NodeStep n now i x r after
    → Story n now i x after stream

-- a node begins with clear streams, and each step leaves a stream clear, but for the opening of one that had a session before
abbrev pub ClearStreamsAreKept : Type 0
ClearStreamsAreKept = ((plan : NodePlan) (stream : ℕ) → IsClear (first_node plan) stream)
    × ((n after : NodeState) (now : ℕ) (i : Input) (x : Coming) (r : Reply) (stream : ℕ) → IsBoundedNode n → IsClear n stream → (OpensIt i stream → view_on n stream ≡ None)
    → NodeStep n now i x r after → IsClear after stream)
