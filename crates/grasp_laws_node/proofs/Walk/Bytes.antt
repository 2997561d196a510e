-- Each piece of a stream, and its closing, is a list of moves on it.
use Rattle.std.proofs.Common.{◌≡◌, ℕ, ◌+◌, true, nat_le, List, [], ◌∷◌, ◌++◌, length, Option, Some, None, refl, sym, subst}
use Rattle.std.proofs.lemmas.Bool.{cond_both}
use Rattle.grasp_session.specs.Sessions.{after_mark}
use Rattle.grasp_session.specs.Transcript.{Mark, Closed, Starved}
use Rattle.grasp_types.specs.declared.message.Message.{Message}
use Rattle.grasp_wire.specs.Cutter.{Past}
use Rattle.grasp_wire.specs.Stream.{RestKind, waiting}
use Rattle.grasp_model_node.proofs.Facts.{open_waits}
use Rattle.grasp_model_node.specs.Bytes.{most_bytes, Added, hear_on, hear_all, hear_fault, hear_rest, heard, past_after, left_as, broken, starved, bytes_on, after_bytes, StarvesAt, after_closed}
use Rattle.grasp_model_node.specs.Hear.{Heard, hear, after_refusal, stays, shuts}
use Rattle.grasp_model_node.specs.Moves.{with_sessions, begin_closing, keep_past, drop_record}
use Rattle.grasp_model_node.specs.Node.{NodeState}
use Rattle.grasp_model_node.specs.Streams.{past_of, has_record}
use Rattle.grasp_laws_node.proofs.Walk.Hear.{refusal_moves, message_moves}
use Rattle.grasp_laws_node.proofs.Walk.Moves as move
use Rattle.grasp_laws_node.proofs.Walk.Moves.{Known, Moves, on_stream, further}

-- ---- messages

-- each message is so
abbrev pub Each : (Message → Type 0) → List Message → Type 0
Each P [] = Unit {0}
Each P (m ∷ ms) = P m × Each P ms

pub each_before : (P : Message → Type 0) (ms others : List Message) → Each P (ms ++ others) → Each P ms
each_before P [] others a = tt
each_before P (m ∷ ms) others a = (a.0, each_before P ms others a.1)

pub each_behind : (P : Message → Type 0) (ms others : List Message) → Each P (ms ++ others) → Each P others
each_behind P [] others a = a
each_behind P (m ∷ ms) others a = each_behind P ms others a.1

pub each_anything : (ms : List Message) → Each (λ m. Unit {0}) ms
each_anything [] = tt
each_anything (m ∷ ms) = (tt, each_anything ms)

-- what is known of a piece that comes on an open stream
pub record Piece (k : Known) (stream : ℕ) (piece : List ℕ) (a : Added) (past : Past) : Type 0 where
  pub stream_so : k.stream stream
  pub messages : Each k.message a.messages
  pub past_so : a.kind ≡ waiting → k.past stream (past_after past piece a)

module _ (k : Known) (base start : NodeState) (stream : ℕ) where
  abbrev To : NodeState → Type 0
  To n = Moves k base (on_stream stream) start n

  -- ---- the messages one after the other

  module _ (stream_so : k.stream stream) where
    hear_on_moves : (x : Heard) (m : Message) → k.message m → To x.node → To (hear_on stream x m).node
    hear_on_moves x m i w = cond_both x.is_open (hear x.node stream m) x (λ (y : Heard). To y.node) (λ e. message_moves k base start stream stream_so x.node m i w) (λ e. w)

    pub hear_all_moves : (ms : List Message) (x : Heard) → Each k.message ms → To x.node → To (hear_all stream ms x).node
    unfolding hear_all
    hear_all_moves [] x i w = w
    hear_all_moves (m ∷ ms) x i w = hear_all_moves ms (hear_on stream x m) i.1 (hear_on_moves x m i.0 w)

    hear_fault_moves : (x : Heard) → To x.node → To (hear_fault stream x).node
    hear_fault_moves x w = cond_both x.is_open (shuts (after_refusal x.node stream)) x (λ (y : Heard). To y.node) (λ e. refusal_moves k base start stream stream_so x.node w) (λ e. w)

    hear_rest_moves : (rest : RestKind) (x : Heard) → To x.node → To (hear_rest stream rest x).node
    hear_rest_moves waiting x w = w
    hear_rest_moves _ x w = hear_fault_moves x w

  -- ---- a piece

  left_moves : (past : Past) (x : Heard) → (x.is_open ≡ true → k.past stream past) → To x.node → To (left_as stream past x)
  left_moves past x so w = cond_both x.is_open (keep_past x.node stream past) x.node To (λ e. further w (move.goes_on past (so e))) (λ e. w)

  ended_moves : (n : NodeState) (mark : Mark) → To n → To (drop_record (with_sessions n (after_mark n.sessions stream mark)) stream)
  ended_moves n mark w = further (further w (move.marks mark)) move.leaves

  -- all of a piece, once the stream counts as closing
  pub piece_moves : (n : NodeState) (piece : List ℕ) (a : Added) (past : Past) → Piece k stream piece a past → To n → To (left_as stream (past_after past piece a) (heard n stream a))
  piece_moves n piece a past p w =
      left_moves (past_after past piece a) (heard n stream a) (λ e. p.past_so (open_waits stream a.kind (hear_all stream a.messages (stays n)) e))
      (hear_rest_moves p.stream_so a.kind (hear_all stream a.messages (stays n)) (hear_all_moves p.stream_so a.messages (stays n) p.messages w))

  -- some of it
  pub some_moves : (n : NodeState) (ms : List Message) → k.stream stream → Each k.message ms → To n → To (starved (hear_all stream ms (stays n)).node stream)
  some_moves n ms so i w = ended_moves (hear_all stream ms (stays n)).node Starved (hear_all_moves so ms (stays n) i w)

  pub bytes_on_moves : (n : NodeState) (piece : List ℕ) (a : Added) (o : Option Past) → ((past : Past) → o ≡ Some past → Piece k stream piece a past) → To n → To (bytes_on n stream piece a o)
  bytes_on_moves n piece a None p w = w
  bytes_on_moves n piece a (Some past) p w =
      cond_both (nat_le (length past.fed + length piece) most_bytes) (left_as stream (past_after past piece a) (heard (begin_closing n stream) stream a)) (broken n stream) To
      (λ e. piece_moves (begin_closing n stream) piece a past (p past refl) (further w move.closes))
      (λ e. ended_moves n Closed w)

  pub bytes_moves : (n : NodeState) (piece : List ℕ) (a : Added) → ((past : Past) → past_of n.streams stream ≡ Some past → Piece k stream piece a past) → To n → To (after_bytes n stream piece a)
  unfolding after_bytes
  bytes_moves n piece a p w = bytes_on_moves n piece a (past_of n.streams stream) p w

  pub starving_moves : (n : NodeState) (piece : List ℕ) (a : Added) (after : NodeState) → StarvesAt n stream piece a after → ((past : Past) → past_of n.streams stream ≡ Some past → Piece k stream piece a past) → To n → To after
  starving_moves n piece a after s p w =
      let given = p s.past s.was_open in
      let some : Each k.message s.some = each_before k.message s.some s.others (subst (Each k.message) s.parts given.messages) in
      subst To (sym s.after_is) (some_moves (begin_closing n stream) s.some given.stream_so some (further w move.closes))

  pub closed_moves : (n : NodeState) → To n → To (after_closed n stream)
  unfolding after_closed
  closed_moves n w = cond_both (has_record n.streams stream) (broken n stream) n To (λ e. ended_moves n Closed w) (λ e. w)
