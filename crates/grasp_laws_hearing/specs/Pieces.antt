-- What a piece of a stream does: its messages are heard one after the other while the stream is open, and then a fault behind them.
use Rattle.std.specs.Prelude.{◌≡◌, ◌≢◌, ◌≤◌, ◌<◌, ◌+◌, ◌++◌, ℕ, true, false, List, [], ◌∷◌, length, None, Some}
use Rattle.grasp_laws_hearing.specs.Later.{IsOn, EndsBadly}
use Rattle.grasp_laws_hearing.specs.Streams.{EndsOutside}
use Rattle.grasp_model_node.specs.Begin.{begin}
use Rattle.grasp_model_node.specs.BoundedNodes.{IsBoundedNode}
use Rattle.grasp_model_node.specs.Bytes.{Added}
use Rattle.grasp_model_node.specs.Hear.{Heard, hear}
use Rattle.grasp_model_node.specs.Node.{NodeState}
use Rattle.grasp_model_node.specs.Step.{Coming, NodeStep}
use Rattle.grasp_model_node.specs.Streams.{closing, past_of, with_past}
use Rattle.grasp_session.specs.Sessions.{SessionState}
use Rattle.grasp_session.specs.Transcript.{Closed, Starved, is_going}
use Rattle.grasp_types.specs.declared.message.Message.{Message}
use Rattle.grasp_types.specs.declared.reply.Reply.{Reply}
use Rattle.grasp_types.specs.declared.reply.Reply.TheVariants as reply
use Rattle.grasp_types.specs.declared.traffic.Input.TheVariants as input
use Rattle.grasp_wire.specs.Cutter.{Past}
use Rattle.grasp_wire.specs.Stream.{RestKind, waiting}

-- the messages are heard in order, each while the stream is open; what comes behind a message that shut it isn't heard
abbrev pub HearsAll : ℕ → List Message → Heard → Heard → Type 0
HearsAll stream [] before after = after ≡ before
HearsAll stream (m ∷ ms) before after =
    (before.is_open ≡ true → HearsAll stream ms (hear before.node stream m) after) × (before.is_open ≡ false → after ≡ before)

-- no live session without an outcome is on the stream
abbrev pub NoneGoesOn : NodeState → ℕ → Type 0
NoneGoesOn n stream = (place : ℕ) (x : SessionState) → IsOn n stream place x → is_going x.view ≡ false

-- what comes is no message: the session ends by it, as by a bad message, and without a session that goes on the stream alone begins closing
pub record HearsFault (n : NodeState) (stream : ℕ) (heard : Heard) : Type 0 where
  pub session : (place : ℕ) (x : SessionState) → IsOn n stream place x → is_going x.view ≡ true → EndsBadly n stream place x heard
  pub none : NoneGoesOn n stream → heard ≡ record { node = n; is_open = false }

-- a fault behind the messages is heard where they left the stream open
pub record HearsRest (stream : ℕ) (kind : RestKind) (before after : Heard) : Type 0 where
  pub waits : kind ≡ waiting → after ≡ before
  pub shut : before.is_open ≡ false → after ≡ before
  pub fault : kind ≢ waiting → before.is_open ≡ true → HearsFault before.node stream after

-- the stream counts as closing while its messages are heard
abbrev pub begins_hearing : NodeState → ℕ → Heard
begins_hearing n stream = record { node = record n { streams = closing n.streams stream }; is_open = true }

-- what came on the stream, with this piece
abbrev pub having_come : Past → List ℕ → Added → Past
having_come past piece a = record { fed = past.fed ++ piece; given = past.given ++ a.messages; fault = past.fault }

-- all messages of the piece are heard, and then its fault. The stream is closing where that shut it, and else open with what has come on it
pub record HearsPiece (n : NodeState) (stream : ℕ) (past : Past) (piece : List ℕ) (a : Added) (after : NodeState) : Type 0 where
  pub behind : Heard
  pub messages : HearsAll stream a.messages (begins_hearing n stream) behind
  pub last : Heard
  pub rest : HearsRest stream a.kind behind last
  pub stays_open : last.is_open ≡ true → after ≡ record last.node { streams = with_past last.node.streams stream (Some (having_come past piece a)) }
  pub shut : last.is_open ≡ false → after ≡ last.node

-- a stream takes at most 4294967295 bytes, and is closed by a piece with which there would be more
pub record TakesPiece (n : NodeState) (stream : ℕ) (piece : List ℕ) (a : Added) (after : NodeState) : Type 0 where
  pub not_open : past_of n.streams stream ≡ None → after ≡ n
  pub hears : (past : Past) → past_of n.streams stream ≡ Some past → length past.fed + length piece ≤ 4294967295 → HearsPiece n stream past piece a after
  pub too_many : (past : Past) → past_of n.streams stream ≡ Some past → 4294967295 < length past.fed + length piece → EndsOutside n stream Closed after

-- some first messages of a piece for which there is room were heard and left the stream open, and then the node was out of memory: the stream's
-- session ends by that, and the stream has no record any more
pub record Starves (n : NodeState) (stream : ℕ) (piece : List ℕ) (a : Added) (after : NodeState) : Type 0 where
  pub past : Past
  pub was_open : past_of n.streams stream ≡ Some past
  pub room : length past.fed + length piece ≤ 4294967295
  pub some : List Message
  pub others : List Message
  pub parts : a.messages ≡ some ++ others
  pub behind : Heard
  pub messages : HearsAll stream some (begins_hearing n stream) behind
  pub still_open : behind.is_open ≡ true
  pub ends : EndsOutside behind.node stream Starved after

abbrev pub PieceDoes : NodeState → ℕ → List ℕ → Added → Reply → NodeState → Type 0
PieceDoes n stream piece a reply.Taken after = TakesPiece n stream piece a after
PieceDoes n stream piece a reply.OutOfMemory after = Starves n stream piece a after
PieceDoes n stream piece a _ after = ⊥

-- each piece at each node to which steps lead, once the step has begun
abbrev pub PiecesAreHeard : Type 0
PiecesAreHeard = (n after : NodeState) (now stream : ℕ) (piece : List ℕ) (x : Coming) (r : Reply) → IsBoundedNode n → NodeStep n now (input.Bytes stream piece) x r after
    → PieceDoes (begin n now) stream piece x.added r after
