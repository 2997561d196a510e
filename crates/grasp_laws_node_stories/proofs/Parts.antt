-- The moves of a stream in a part of a step, and that the moves of two parts follow each other.
use Rattle.std.proofs.Common.{◌≡◌, ◌≢◌, ◌≤◌, ℕ, Bool, true, false, cond, ◌==◌, List, [], ◌∷◌, ◌++◌, inl, inr, Option, Some, refl, sym, ap, ◌∙◌, subst, arith}
use Rattle.std.proofs.lemmas.Bool.{true≢false, or_parts, or_from, ne_eqb, eq-eqb}
use Rattle.std.proofs.lemmas.List.{append-nil, append_assoc}
use Rattle.grasp_discovery.specs.Discoveries.{Discoveries}
use Rattle.grasp_flood.specs.Floods.{Floods}
use Rattle.grasp_asa.specs.Registrations.{Registrations}
use Rattle.grasp_cbor.proofs.Facts.Numbers.{itself as below, up}
use Rattle.grasp_session.specs.Sessions.{Sessions}
use Rattle.grasp_session.specs.Transcript.{Transcript}
use Rattle.grasp_types.specs.declared.message.Message.{Message}
use Rattle.grasp_wire.specs.Cutter.{Past}
use Rattle.grasp_model_node.specs.Moves.{with_reading, with_registrations, with_sessions, with_discoveries, with_floods, with_draw, begin_closing, queue_up, may_queue}
use Rattle.grasp_model_node.specs.Node.{NodeState}
use Rattle.grasp_model_node.specs.Queue.{Queued, datagram, dial, send, along}
use Rattle.grasp_model_node.specs.BoundedNodes.{IsGiven}
use Rattle.grasp_model_node.specs.Streams.{past_of}
use Rattle.grasp_model_node.specs.declared.way.Way.{Way}
use Rattle.grasp_laws_node_stories.specs.StreamMoves.{view_in, view_on, StreamMove, after_move, after_moves, said_by, said_in, heard_by, heard_in, is_dial, is_fault, is_last_move, some_move, MayMoves, sends_on}
use Rattle.grasp_laws_node_stories.proofs.Records.{closing_opens_none}

-- ---- lists of moves

pub after_both : (v : Option Transcript) (a b : List StreamMove) → after_moves v (a ++ b) ≡ after_moves (after_moves v a) b
after_both v [] b = refl
after_both v (m ∷ a) b = after_both (after_move v m) a b

pub said_both : (v : Option Transcript) (a b : List StreamMove) → said_in v (a ++ b) ≡ said_in v a ++ said_in (after_moves v a) b
said_both v [] b = refl
said_both v (m ∷ a) b = ap (λ ms. said_by v m ++ ms) (said_both (after_move v m) a b) ∙ sym (append_assoc (said_by v m) (said_in (after_move v m) a) (said_in (after_moves (after_move v m) a) b))

pub heard_both : (a b : List StreamMove) → heard_in (a ++ b) ≡ heard_in a ++ heard_in b
heard_both [] b = refl
heard_both (m ∷ a) b = ap (λ ms. heard_by m ++ ms) (heard_both a b) ∙ sym (append_assoc (heard_by m) (heard_in a) (heard_in b))

pub none_both : (test : StreamMove → Bool) (a b : List StreamMove) → some_move test a ≡ false → some_move test b ≡ false → some_move test (a ++ b) ≡ false
none_both test [] b e f = f
none_both test (m ∷ a) b e f = let p = or_parts (test m) (some_move test a) e in or_from (test m) (some_move test (a ++ b)) p.0 (none_both test a b p.1 f)

-- where none of the first is such a one
pub some_both : (test : StreamMove → Bool) (a b : List StreamMove) → some_move test a ≡ false → some_move test (a ++ b) ≡ some_move test b
some_both test [] b e = refl
some_both test (m ∷ a) b e = let p = or_parts (test m) (some_move test a) e in rw p.0 (some_both test a b p.1)

pub may_both : (v : Option Transcript) (a b : List StreamMove) → MayMoves v a → some_move is_last_move a ≡ false → MayMoves (after_moves v a) b → MayMoves v (a ++ b)
may_both v [] b m e k = k
may_both v (x ∷ a) b m e k =
    let p = or_parts (is_last_move x) (some_move is_last_move a) e in (m.0, (λ last. absurd (true≢false (sym last ∙ p.0))), may_both (after_move v x) a b m.2 p.1 k)

pub sends_both : (stream : ℕ) (p q : List Queued) → sends_on stream (p ++ q) ≡ sends_on stream p ++ sends_on stream q
sends_both stream [] q = refl
sends_both stream (datagram link to m ∷ p) q = sends_both stream p q
sends_both stream (dial s to ∷ p) q = sends_both stream p q
sends_both stream (send s m ∷ p) q = by_test (s == stream) (sends_both stream p q) where
  by_test : (b : Bool) → sends_on stream (p ++ q) ≡ sends_on stream p ++ sends_on stream q
      → cond b (m ∷ sends_on stream (p ++ q)) (sends_on stream (p ++ q)) ≡ cond b (m ∷ sends_on stream p) (sends_on stream p) ++ sends_on stream q
  by_test true e = ap (λ ms. m ∷ ms) e
  by_test false e = e

pub sends_along : (stream : ℕ) (m : Message) (ways : List Way) → sends_on stream (along m ways) ≡ []
sends_along stream m [] = refl
sends_along stream m (way ∷ ways) = sends_along stream m ways

pub sends_here : (stream : ℕ) (m : Message) → sends_on stream (send stream m ∷ []) ≡ m ∷ []
sends_here stream m = let same : (stream == stream) ≡ true = eq-eqb stream stream refl in rw same refl

pub sends_other : (on stream : ℕ) (m : Message) → on ≢ stream → sends_on stream (send on m ∷ []) ≡ []
sends_other on stream m d = let other : (on == stream) ≡ false = ne_eqb on stream d in rw other refl

-- ---- a part of a step

pub record Part (stream : ℕ) (n after : NodeState) (moves : List StreamMove) : Type 0 where
  pub may : MayMoves (view_on n stream) moves
  pub view : view_on after stream ≡ after_moves (view_on n stream) moves
  pub more : List Queued
  pub queued : after.queue ≡ n.queue ++ more
  pub said : sends_on stream more ≡ said_in (view_on n stream) moves
  pub no_fewer : n.streams.dialled ≤ after.streams.dialled

pub both : (stream : ℕ) (n m after : NodeState) (a b : List StreamMove) → Part stream n m a → some_move is_last_move a ≡ false → Part stream m after b → Part stream n after (a ++ b)
both stream n m after a b p e q = record {
  may = may_both (view_on n stream) a b p.may e (subst (λ v. MayMoves v b) p.view q.may);
  view = q.view ∙ (ap (λ v. after_moves v b) p.view ∙ sym (after_both (view_on n stream) a b));
  more = p.more ++ q.more;
  queued = q.queued ∙ (ap (λ qs. qs ++ q.more) p.queued ∙ append_assoc n.queue p.more q.more);
  said = sends_both stream p.more q.more
      ∙ (ap (λ ms. ms ++ sends_on stream q.more) p.said
      ∙ (ap (λ ms. said_in (view_on n stream) a ++ ms) (q.said ∙ ap (λ v. said_in v b) p.view) ∙ sym (said_both (view_on n stream) a b)));
  no_fewer = up n.streams.dialled m.streams.dialled after.streams.dialled p.no_fewer q.no_fewer;
}

-- what is given stays given
pub given_up : (stream d e : ℕ) → d ≤ e → IsGiven d stream → IsGiven e stream
given_up stream d e h (inl odd) = inl odd
given_up stream d e h (inr low) = inr (omega (arith, h, low))

-- ---- a part in which the stream hears nothing, isn't dialled and isn't opened

pub record Quietly (stream : ℕ) (n after : NodeState) : Type 0 where
  pub moves : List StreamMove
  pub part : Part stream n after moves
  pub heard : heard_in moves ≡ []
  pub no_fault : some_move is_fault moves ≡ false
  pub no_last : some_move is_last_move moves ≡ false
  pub no_dial : some_move is_dial moves ≡ false
  pub opens_none : (past : Past) → past_of after.streams stream ≡ Some past → past_of n.streams stream ≡ Some past

pub and_then : (stream : ℕ) (n m after : NodeState) → Quietly stream n m → Quietly stream m after → Quietly stream n after
and_then stream n m after p q = record {
  moves = p.moves ++ q.moves;
  part = both stream n m after p.moves q.moves p.part p.no_last q.part;
  heard = heard_both p.moves q.moves ∙ (ap (λ ms. ms ++ heard_in q.moves) p.heard ∙ q.heard);
  no_fault = none_both is_fault p.moves q.moves p.no_fault q.no_fault;
  no_last = none_both is_last_move p.moves q.moves p.no_last q.no_last;
  no_dial = none_both is_dial p.moves q.moves p.no_dial q.no_dial;
  opens_none = λ past e. p.opens_none past (q.opens_none past e);
}

pub either : (stream : ℕ) (n : NodeState) (b : Bool) (x y : NodeState) → Quietly stream n x → Quietly stream n y → Quietly stream n (cond b x y)
either stream n true x y h k = h
either stream n false x y h k = k

-- nothing happens on the stream
pub nothing : (stream : ℕ) (n after : NodeState) (more : List Queued) → view_on after stream ≡ view_on n stream → after.queue ≡ n.queue ++ more → sends_on stream more ≡ []
    → n.streams.dialled ≤ after.streams.dialled → ((past : Past) → past_of after.streams stream ≡ Some past → past_of n.streams stream ≡ Some past) → Quietly stream n after
nothing stream n after more v q s d o = record {
  moves = [];
  part = record { may = tt; view = v; more = more; queued = q; said = s; no_fewer = d };
  heard = refl;
  no_fault = refl;
  no_last = refl;
  no_dial = refl;
  opens_none = o;
}

-- ---- moves of other parts

pub itself : (stream : ℕ) (n : NodeState) → Quietly stream n n
itself stream n = nothing stream n n [] refl (sym (append-nil n.queue)) refl (below n.streams.dialled) (λ past e. e)

pub reads : (stream : ℕ) (n : NodeState) (now : ℕ) → Quietly stream n (with_reading n now)
unfolding with_reading
reads stream n now = nothing stream n (with_reading n now) [] refl (sym (append-nil n.queue)) refl (below n.streams.dialled) (λ past e. e)

pub draws : (stream : ℕ) (n : NodeState) → Quietly stream n (with_draw n)
unfolding with_draw
draws stream n = nothing stream n (with_draw n) [] refl (sym (append-nil n.queue)) refl (below n.streams.dialled) (λ past e. e)

pub registers : (stream : ℕ) (n : NodeState) (r : Registrations) → Quietly stream n (with_registrations n r)
unfolding with_registrations
registers stream n r = nothing stream n (with_registrations n r) [] refl (sym (append-nil n.queue)) refl (below n.streams.dialled) (λ past e. e)

pub discovers : (stream : ℕ) (n : NodeState) (d : Discoveries) → Quietly stream n (with_discoveries n d)
unfolding with_discoveries
discovers stream n d = nothing stream n (with_discoveries n d) [] refl (sym (append-nil n.queue)) refl (below n.streams.dialled) (λ past e. e)

pub floods : (stream : ℕ) (n : NodeState) (f : Floods) → Quietly stream n (with_floods n f)
unfolding with_floods
floods stream n f = nothing stream n (with_floods n f) [] refl (sym (append-nil n.queue)) refl (below n.streams.dialled) (λ past e. e)

pub queues : (stream : ℕ) (n : NodeState) (outputs : List Queued) → sends_on stream outputs ≡ [] → Quietly stream n (queue_up n outputs)
unfolding queue_up
queues stream n outputs e = nothing stream n (queue_up n outputs) outputs refl refl e (below n.streams.dialled) (λ past f. f)

pub closes : (stream : ℕ) (n : NodeState) (on : ℕ) → Quietly stream n (begin_closing n on)
unfolding begin_closing
closes stream n on = nothing stream n (begin_closing n on) [] refl (sym (append-nil n.queue)) refl (below n.streams.dialled) (λ past e. closing_opens_none n.streams on stream past e)

pub relays : (stream : ℕ) (n : NodeState) (m : Message) (ways : List Way) (count : ℕ) → Quietly stream n (cond (may_queue n m count) (queue_up n (along m ways)) n)
relays stream n m ways count = either stream n (may_queue n m count) (queue_up n (along m ways)) n (queues stream n (along m ways) (sends_along stream m ways)) (itself stream n)

-- the sessions change, and not that of this stream
pub other_sessions : (stream : ℕ) (n : NodeState) (z : Sessions) → view_in z stream ≡ view_on n stream → Quietly stream n (with_sessions n z)
unfolding with_sessions
other_sessions stream n z e = nothing stream n (with_sessions n z) [] e (sym (append-nil n.queue)) refl (below n.streams.dialled) (λ past f. f)

-- one move is made by the session of this stream, and this is queued
pub makes : (stream : ℕ) (n : NodeState) (z : Sessions) (outputs : List Queued) (m : StreamMove) → MayMoves (view_on n stream) (m ∷ []) → view_in z stream ≡ after_move (view_on n stream) m
    → sends_on stream outputs ≡ said_by (view_on n stream) m → Part stream n (queue_up (with_sessions n z) outputs) (m ∷ [])
unfolding with_sessions queue_up
makes stream n z outputs m may view said = record {
  may = may;
  view = view;
  more = outputs;
  queued = refl;
  said = said ∙ sym (append-nil (said_by (view_on n stream) m));
  no_fewer = below n.streams.dialled;
}

-- one move is made by the session of this stream, and nothing is queued
pub changes : (stream : ℕ) (n : NodeState) (z : Sessions) (m : StreamMove) → MayMoves (view_on n stream) (m ∷ []) → view_in z stream ≡ after_move (view_on n stream) m → said_by (view_on n stream) m ≡ []
    → Part stream n (with_sessions n z) (m ∷ [])
unfolding with_sessions
changes stream n z m may view said = record {
  may = may;
  view = view;
  more = [];
  queued = sym (append-nil n.queue);
  said = sym said ∙ sym (append-nil (said_by (view_on n stream) m));
  no_fewer = below n.streams.dialled;
}

-- a part of one quiet move that leaves the records
pub quietly : (stream : ℕ) (n after : NodeState) (m : StreamMove) → Part stream n after (m ∷ []) → heard_by m ≡ [] → is_fault m ≡ false → is_last_move m ≡ false → is_dial m ≡ false
    → ((past : Past) → past_of after.streams stream ≡ Some past → past_of n.streams stream ≡ Some past) → Quietly stream n after
quietly stream n after m p h f l d o = record {
  moves = m ∷ [];
  part = p;
  heard = append-nil (heard_by m) ∙ h;
  no_fault = or_from (is_fault m) false f refl;
  no_last = or_from (is_last_move m) false l refl;
  no_dial = or_from (is_dial m) false d refl;
  opens_none = o;
}
