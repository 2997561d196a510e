-- Each piece of a stream leaves what came on the other open streams, and is what came last on its own.
use Rattle.std.proofs.Common.{◌≡◌, ℕ, ◌+◌, Bool, true, false, cond, nat_le, List, length, Option, Some, None, is_some, refl, sym, ap, subst}
use Rattle.grasp_session.specs.Sessions.{after_mark}
use Rattle.grasp_session.specs.Transcript.{Mark, Closed}
use Rattle.grasp_wire.specs.Cutter.{Past}
use Rattle.grasp_wire.specs.Stream.{waiting}
use Rattle.grasp_model_node.specs.Bytes.{most_bytes, Added, Adds, AddsOn, hear_all, heard, past_after, left_as, broken, starved, bytes_on, after_bytes, StarvesAt, after_closed}
use Rattle.grasp_model_node.specs.Hear.{stays}
use Rattle.grasp_model_node.specs.Moves.{with_sessions, begin_closing, drop_record}
use Rattle.grasp_model_node.specs.Node.{NodeState}
use Rattle.grasp_model_node.specs.Streams.{place_of, at_place, past_in, past_of, has_record}
use Rattle.grasp_laws_node.proofs.Records.Moves.{Holds, by_past, moves_hold}
use Rattle.grasp_laws_node.proofs.Records.Apart.{AreApart, But, closing_has, without_has, none_open}
use Rattle.grasp_laws_node.proofs.Walk.Bytes.{each_anything, piece_moves, some_moves}
use Rattle.grasp_laws_node.proofs.Walk.Moves.{on_stream, still}

-- ---- a stream that begins closing, or ends

pub closing_all : (Q : ℕ → Past → Type 0) (n : NodeState) (stream : ℕ) → AreApart n.streams.records → Holds (But stream Q) n → Holds Q (begin_closing n stream)
unfolding begin_closing
closing_all Q n stream a k =
    record { each = closing_has Q stream n.streams a k.each }

dropped_all : (Q : ℕ → Past → Type 0) (n : NodeState) (stream : ℕ) → AreApart n.streams.records → Holds (But stream Q) n → Holds Q (drop_record n stream)
unfolding drop_record
dropped_all Q n stream a k =
    record { each = without_has Q stream n.streams a k.each }

ended_all : (Q : ℕ → Past → Type 0) (n : NodeState) (stream : ℕ) (mark : Mark) → AreApart n.streams.records → Holds (But stream Q) n
    → Holds Q (drop_record (with_sessions n (after_mark n.sessions stream mark)) stream)
unfolding with_sessions
ended_all Q n stream mark a k =
    dropped_all Q (with_sessions n (after_mark n.sessions stream mark)) stream a (record { each = k.each })

-- no open record has the number
none_all : (Q : ℕ → Past → Type 0) (n : NodeState) (stream : ℕ) → AreApart n.streams.records → past_of n.streams stream ≡ None → Holds (But stream Q) n → Holds Q n
none_all Q n stream a none k = record { each = none_open Q stream n.streams a none k.each }

-- ---- a piece

-- the property holds of what came on the stream with the piece, where no fault stands behind the piece's messages
abbrev pub Comes : (ℕ → Past → Type 0) → NodeState → ℕ → List ℕ → Added → Type 0
Comes Q n stream piece a = (past : Past) → past_of n.streams stream ≡ Some past → Adds n.plan.limit past piece a → a.kind ≡ waiting → Q stream (past_after past piece a)

bytes_on_holds : (Q : ℕ → Past → Type 0) (n : NodeState) (stream : ℕ) (piece : List ℕ) (a : Added) (o : Option Past) → past_of n.streams stream ≡ o → AddsOn n.plan.limit piece a o
    → AreApart n.streams.records → Comes Q n stream piece a → Holds (But stream Q) n → Holds Q (bytes_on n stream piece a o)
bytes_on_holds Q n stream piece a None e d streams w k = none_all Q n stream streams e k
bytes_on_holds Q n stream piece a (Some past) e d streams w k = by_test (nat_le (length past.fed + length piece) most_bytes) where
  by_test : (b : Bool) → Holds Q (cond b (left_as stream (past_after past piece a) (heard (begin_closing n stream) stream a)) (broken n stream))
  by_test true =
      moves_hold Q n (on_stream stream) (begin_closing n stream) (left_as stream (past_after past piece a) (heard (begin_closing n stream) stream a))
      (piece_moves (by_past Q) n (begin_closing n stream) stream (begin_closing n stream) piece a past
      (record { stream_so = tt; messages = each_anything a.messages; past_so = λ waits. w past e d waits }) still)
      (closing_all Q n stream streams k)
  by_test false = ended_all Q n stream Closed streams k

pub bytes_holds : (Q : ℕ → Past → Type 0) (n : NodeState) (stream : ℕ) (piece : List ℕ) (a : Added) → AddsOn n.plan.limit piece a (past_of n.streams stream) → AreApart n.streams.records
    → Comes Q n stream piece a → Holds (But stream Q) n → Holds Q (after_bytes n stream piece a)
unfolding after_bytes
bytes_holds Q n stream piece a d streams w k = bytes_on_holds Q n stream piece a (past_of n.streams stream) refl d streams w k

pub starving_holds : (Q : ℕ → Past → Type 0) (n : NodeState) (stream : ℕ) (piece : List ℕ) (a : Added) (after : NodeState) → StarvesAt n stream piece a after → AreApart n.streams.records
    → Holds (But stream Q) n → Holds Q after
starving_holds Q n stream piece a after s streams k =
    subst (Holds Q) (sym s.after_is)
    (moves_hold Q n (on_stream stream) (begin_closing n stream) (starved (hear_all stream s.some (stays (begin_closing n stream))).node stream)
    (some_moves (by_past Q) n (begin_closing n stream) stream (begin_closing n stream) s.some tt (each_anything s.some) still)
    (closing_all Q n stream streams k))

-- ---- a closing

pub closed_holds : (Q : ℕ → Past → Type 0) (n : NodeState) (stream : ℕ) → AreApart n.streams.records → Holds (But stream Q) n → Holds Q (after_closed n stream)
unfolding after_closed
closed_holds Q n stream streams k = by_test (has_record n.streams stream) refl where
  none_there : (o : Option ℕ) → place_of stream n.streams.records ≡ o → is_some o ≡ false → past_of n.streams stream ≡ None
  none_there None e f = ap (λ p. past_in (at_place n.streams.records p)) e
  none_there (Some i) e f = absurd (cc)

  by_test : (b : Bool) → has_record n.streams stream ≡ b → Holds Q (cond b (broken n stream) n)
  by_test true e = ended_all Q n stream Closed streams k
  by_test false e = none_all Q n stream streams (none_there (place_of stream n.streams.records) refl e) k
