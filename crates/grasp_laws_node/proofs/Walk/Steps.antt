-- Each step of a node is a list of moves: those of its beginning, and those of what its input does.
use Rattle.std.proofs.Common.{◌≡◌, ℕ, zero, suc, true, false, Bool, cond, List, Option, Some, None, refl, sym, subst}
use Rattle.grasp_session.specs.Sessions.{expire_reply}
use Rattle.grasp_types.specs.declared.address.Address.{Address}
use Rattle.grasp_types.specs.declared.call.Call.{Call}
use Rattle.grasp_types.specs.declared.reply.Reply.{Reply}
use Rattle.grasp_types.specs.declared.reply.Reply.TheVariants as reply
use Rattle.grasp_types.specs.declared.traffic.Input.{Input}
use Rattle.grasp_types.specs.declared.traffic.Input.TheVariants as input
use Rattle.grasp_wire.specs.Cutter.{Past, no_past}
use Rattle.grasp_model_node.specs.Begin.{expire_on, expired, begin}
use Rattle.grasp_model_node.specs.Bytes.{Adds, AddsOn}
use Rattle.grasp_model_node.specs.Moves.{with_reading, open_record}
use Rattle.grasp_model_node.specs.Node.{NodeState}
use Rattle.grasp_model_node.specs.Opening.{is_ignored, MayOpen, after_opened}
use Rattle.grasp_model_node.specs.Step.{Coming, IsComing, Calls, Acts}
use Rattle.grasp_model_node.specs.Streams.{past_of, is_full}
use Rattle.grasp_laws_node.proofs.Walk.Bytes.{Piece, each_anything, bytes_moves, starving_moves, closed_moves}
use Rattle.grasp_laws_node.proofs.Walk.Calls.{Asks, asks_anything, turn_of_call, answered_moves}
use Rattle.grasp_laws_node.proofs.Walk.Datagrams.{datagram_moves}
use Rattle.grasp_laws_node.proofs.Walk.Moves as move
use Rattle.grasp_laws_node.proofs.Walk.Moves.{Known, Turn, Moves, anything, begins, datagrams, on_stream, opening, drains, still, further}

-- ---- the beginning of a step

module _ (k : Known) (base start : NodeState) where
  expire_on_moves : (n : NodeState) (o : Option ℕ) → expire_reply n.sessions n.reading ≡ o → Moves k base begins start n → Moves k base begins start (expire_on n o)
  expire_on_moves n None e w = w
  expire_on_moves n (Some stream) e w = further w (move.times_out stream e)

  pub expired_moves : (count : ℕ) (n : NodeState) → Moves k base begins start n → Moves k base begins start (expired count n)
  unfolding expired
  expired_moves zero n w = w
  expired_moves (suc count) n w = expire_on_moves (expired count n) (expire_reply (expired count n).sessions (expired count n).reading) refl (expired_moves count n w)

pub begin_moves : (k : Known) (base n : NodeState) (now : ℕ) → Moves k base begins n (begin n now)
unfolding begin
begin_moves k base n now = further (further (expired_moves k base n 64 (with_reading n now) (further still (move.reads now))) move.ends_discoveries) move.ends_floods

-- ---- what an input does

abbrev pub turn_of : Input → Turn
turn_of (input.Api asa call) = turn_of_call asa call
turn_of (input.Datagram link from bytes) = datagrams
turn_of (input.Opened stream from) = opening stream from
turn_of (input.Bytes stream bytes) = on_stream stream
turn_of (input.Closed stream) = on_stream stream
turn_of (input.Drain max) = drains

-- what is known of what comes with an input
abbrev pub Tells : Known → NodeState → Input → Coming → Reply → NodeState → Type 0
Tells k n (input.Api asa call) x r after = Asks k n asa call after
Tells k n (input.Datagram link from bytes) x r after = Unit {0}
Tells k n (input.Opened stream from) x r after = r ≡ reply.Taken → k.past stream no_past
Tells k n (input.Bytes stream bytes) x r after = (past : Past) → past_of n.streams stream ≡ Some past → Adds n.plan.limit past bytes x.added → Piece k stream bytes x.added past
Tells k n (input.Closed stream) x r after = Unit {0}
Tells k n (input.Drain max) x r after = Unit {0}

-- where nothing is to be known
pub tells_anything : (n : NodeState) (i : Input) (x : Coming) (r : Reply) (after : NodeState) → Tells anything n i x r after
tells_anything n (input.Api asa call) x r after = asks_anything n asa call after
tells_anything n (input.Datagram link from bytes) x r after = tt
tells_anything n (input.Opened stream from) x r after = λ e. tt
tells_anything n (input.Bytes stream bytes) x r after = λ past e adds. record { stream_so = tt; messages = each_anything x.added.messages; past_so = λ e. tt }
tells_anything n (input.Closed stream) x r after = tt
tells_anything n (input.Drain max) x r after = tt

module _ (k : Known) (n : NodeState) where
  calls_moves : (after : NodeState) (asa : ℕ) (call : Call) (r : Reply) → Asks k n asa call after → Calls n asa call r after → Moves k n (turn_of_call asa call) n after
  calls_moves after asa call (reply.Api answer) s c = subst (Moves k n (turn_of_call asa call) n) (sym c.1) (answered_moves k n asa call answer (subst (Asks k n asa call) c.1 s) c.0)
  calls_moves after asa call (reply.Refused refused) s c = subst (Moves k n (turn_of_call asa call) n) (sym c.1) still
  calls_moves after asa call _ s c = absurd c

  opened_moves : (stream : ℕ) (from : Address) (r : Reply) → (r ≡ reply.Taken → k.past stream no_past) → MayOpen n stream r → Moves k n (opening stream from) n (after_opened n stream from r)
  opened_moves stream from reply.Taken s m = by_test (is_ignored n stream) refl m where
    by_room : is_ignored n stream ≡ false → (b : Bool) → is_full n.streams ≡ b → reply.Taken ≡ cond b reply.Turned reply.Taken → Moves k n (opening stream from) n (open_record n stream from)
    by_room e true f g = absurd (cc)
    by_room e false f g = further still (move.opens (s refl) e f)

    by_test : (b : Bool) → is_ignored n stream ≡ b → reply.Taken ≡ cond b reply.Taken (cond (is_full n.streams) reply.Turned reply.Taken) → Moves k n (opening stream from) n (cond b n (open_record n stream from))
    by_test true e g = still
    by_test false e g = by_room e (is_full n.streams) refl g
  opened_moves stream from _ s m = still

  piece : (stream : ℕ) (bytes : List ℕ) (x : Coming) → AddsOn n.plan.limit bytes x.added (past_of n.streams stream)
      → ((past : Past) → past_of n.streams stream ≡ Some past → Adds n.plan.limit past bytes x.added → Piece k stream bytes x.added past)
      → (past : Past) → past_of n.streams stream ≡ Some past → Piece k stream bytes x.added past
  piece stream bytes x d f past e = f past e (subst (AddsOn n.plan.limit bytes x.added) e d)

  pub acts_moves : (after : NodeState) (i : Input) (x : Coming) (r : Reply) → IsComing n i x → Tells k n i x r after → Acts n i x r after → Moves k n (turn_of i) n after
  acts_moves after (input.Api asa call) x r c s a = calls_moves after asa call r s a
  acts_moves after (input.Datagram link from bytes) x reply.Taken c s a = subst (Moves k n datagrams n) (sym a) (datagram_moves k n n n link from x.carried still)
  acts_moves after (input.Datagram link from bytes) x reply.OutOfMemory c s a = subst (Moves k n datagrams n) (sym a) still
  acts_moves after (input.Opened stream from) x r c s a = subst (Moves k n (opening stream from) n) (sym a.1) (opened_moves stream from r s a.0)
  acts_moves after (input.Bytes stream bytes) x reply.Taken c s a = subst (Moves k n (on_stream stream) n) (sym a) (bytes_moves k n n stream n bytes x.added (piece stream bytes x c s) still)
  acts_moves after (input.Bytes stream bytes) x reply.OutOfMemory c s a = starving_moves k n n stream n bytes x.added after a (piece stream bytes x c s) still
  acts_moves after (input.Closed stream) x r c s a = subst (Moves k n (on_stream stream) n) (sym a.1) (closed_moves k n n stream n still)
  acts_moves after (input.Drain max) x (reply.Outputs outputs) c s a = subst (Moves k n drains n) (sym a.1) (further still (move.drains_out max))
  acts_moves after (input.Drain max) x reply.OutOfMemory c s a = subst (Moves k n drains n) (sym a.1) still
  acts_moves after _ x r c s a = absurd a
