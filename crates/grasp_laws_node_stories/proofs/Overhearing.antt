-- What happens on a stream by moves on another one, and by a datagram: nothing, or it is dialled for a response.
use Rattle.std.proofs.Common.{◌≡◌, ◌≢◌, ◌≤◌, ℕ, ◌+◌, true, ◌==◌, List, [], ◌∷◌, ◌++◌, ◌⊎◌, inl, inr, Option, None, Some, refl, sym, ap, ◌∙◌, subst}
use Rattle.std.proofs.lemmas.Bool.{false≢true, eqb-true}
use Rattle.std.proofs.lemmas.Bool.Decides.{eqb_tells}
use Rattle.std.proofs.lemmas.List.{append-nil, append_assoc}
use Rattle.grasp_cbor.proofs.Facts.Numbers.{itself as below, up}
use Rattle.grasp_laws_node.proofs.Bounded.Streams.{next_is_given, next_not_given}
use Rattle.grasp_laws_node.proofs.Walk.Bytes.{Piece, each_anything, bytes_on_moves, starving_moves}
use Rattle.grasp_laws_node.proofs.Walk.Datagrams.{datagram_moves}
use Rattle.grasp_laws_node.proofs.Walk.Moves as walk
use Rattle.grasp_laws_node.proofs.Walk.Moves.{Move, anything, datagrams as by_datagram, on_stream, next_dial, kept, unfolded}
use Rattle.grasp_session.proofs.Means.{kept_means}
use Rattle.grasp_laws_session.proofs.Runs.{some_state}
use Rattle.grasp_laws_session.proofs.Streams.{is_least}
use Rattle.grasp_session.specs.Sessions.{SessionState, Sessions, with_transcript, on_stream as session_on, receive_reply, after_receive, mark_at, after_mark}
use Rattle.grasp_session.specs.Transcript.{Mark, with_kept}
use Rattle.grasp_session.specs.declared.answer.Received.TheVariants.{Kept}
use Rattle.grasp_types.specs.declared.address.Locator.{Locator}
use Rattle.grasp_types.specs.declared.message.Message.{Message}
use Rattle.grasp_types.specs.declared.message.Message.TheVariants.{Response}
use Rattle.grasp_types.specs.declared.session.Handle.{Handle}
use Rattle.grasp_wire.specs.Cutter.{Past}
use Rattle.grasp_model_node.specs.BoundedNodes.{IsGiven}
use Rattle.grasp_model_node.specs.Bytes.{Added, bytes_on, StarvesAt}
use Rattle.grasp_model_node.specs.Datagrams.{after_datagram}
use Rattle.grasp_model_node.specs.Hear.{untaken}
use Rattle.grasp_model_node.specs.Moves.{dial_record, queue_up}
use Rattle.grasp_model_node.specs.Node.{NodeState}
use Rattle.grasp_model_node.specs.Queue.{Queued, send, along}
use Rattle.grasp_model_node.specs.Step.{Coming}
use Rattle.grasp_model_node.specs.Streams.{past_of, next_stream}
use Rattle.grasp_laws_node_stories.specs.StreamMoves.{view_in, view_on, after_moves, is_last_move, some_move, sends_on, IsResponse}
use Rattle.grasp_laws_node_stories.proofs.Acting.{Same, mark_other}
use Rattle.grasp_laws_node_stories.proofs.Parts.{Part, both, given_up, sends_along, sends_both, sends_other}
use Rattle.grasp_laws_node_stories.proofs.Records.{closing_opens_none, more_opens, other_past, other_without}
use Rattle.grasp_laws_node_stories.proofs.Requesting.{IsBorn, one_more}
use Rattle.grasp_laws_node_stories.proofs.Responding.{Responded, opened_none, dials}
use Rattle.grasp_laws_node_stories.proofs.Views.{changed_other, started_other}

-- ---- the sessions of other streams

pub mark_elsewhere : (z : Sessions) (on : ℕ) (mark : Mark) (stream : ℕ) → on ≢ stream → view_in (after_mark z on mark) stream ≡ view_in z stream
mark_elsewhere z on mark stream d = by_handle (session_on z on) refl where
  by_handle : (h : Option Handle) → session_on z on ≡ h → view_in (mark_at z mark h) stream ≡ view_in z stream
  by_handle None e = refl
  by_handle (Some h) e =
      let l = is_least z (λ (y : SessionState). y.stream == on) h e in
      mark_other z mark h l.state stream l.at (λ f. d (sym (eqb-true l.state.stream on l.passes) ∙ f))

keep_elsewhere : (on stream : ℕ) (n : NodeState) (m : Message) → on ≢ stream → receive_reply n.sessions on m ≡ Kept → view_in (after_receive n.sessions n.reading on m Kept) stream ≡ view_on n stream
keep_elsewhere on stream n m d e =
    let q = kept_means n.sessions n.reading on m e in
    let l = is_least n.sessions (λ (u : SessionState). u.stream == on) q.handle q.on in
    let lies : q.state.stream ≡ on =
    eqb-true q.state.stream on (subst (λ (u : SessionState). (u.stream == on) ≡ true) (some_state l.state q.state (sym l.at ∙ q.at)) l.passes) in
    ap (λ t. view_in t stream) q.after ∙ changed_other n.sessions q.handle q.state (with_transcript q.state (with_kept q.state.view n.reading m)) stream q.at refl (λ f. d (sym lies ∙ f))

-- ---- one after the other

responded_then : (stream : ℕ) (n m after : NodeState) → (a : Responded stream n m) → a.moves ≡ [] → (b : Responded stream m after) → Responded stream n after
responded_then stream n m after a e b = record {
  moves = b.moves;
  part = subst (λ l. Part stream n after (l ++ b.moves)) e (both stream n m after a.moves b.moves a.part (ap (some_move is_last_move) e) b.part);
  heard = b.heard;
  no_fault = b.no_fault;
  new = λ g. b.new (given_up stream n.streams.dialled m.streams.dialled a.part.no_fewer g);
  given = b.given;
  opens = λ past f. let p = b.opens past f in ((a.opens past p.0).0, p.1);
}

born_so : (stream : ℕ) (n m : NodeState) → (a : Responded stream n m) → a.moves ≡ [] → IsGiven n.streams.dialled stream ⊎ (view_on n stream ≡ None) → IsGiven m.streams.dialled stream ⊎ (view_on m stream ≡ None)
born_so stream n m a e (inl g) = inl (given_up stream n.streams.dialled m.streams.dialled a.part.no_fewer g)
born_so stream n m a e (inr f) = inr (a.part.view ∙ (ap (after_moves (view_on n stream)) e ∙ f))

still_born : (stream : ℕ) (n m : NodeState) → (a : Responded stream n m) → a.moves ≡ [] → IsBorn stream n → IsBorn stream m
still_born stream n m a e b = record {
  born = born_so stream n m a e b.born;
  given = λ past f. given_up stream n.streams.dialled m.streams.dialled a.part.no_fewer (b.given past (a.opens past f).0);
}

-- nothing happened on the stream yet, or it was dialled for a response
record Since (stream : ℕ) (from n : NodeState) : Type 0 where
  pub story : Responded stream from n
  pub still : (story.moves ≡ []) ⊎ IsGiven n.streams.dialled stream

nothing_yet : (stream : ℕ) (from : NodeState) → Since stream from from
nothing_yet stream from = record {
  story = record {
    moves = [];
    part = record { may = tt; view = refl; more = []; queued = sym (append-nil from.queue); said = refl; no_fewer = below from.streams.dialled };
    heard = refl;
    no_fault = refl;
    new = λ g. refl;
    given = λ e. absurd (false≢true e);
    opens = λ past e. (e, refl);
  };
  still = inl refl;
}

is_response : (m : Message) → walk.IsResponse m → IsResponse m
is_response (Response session initiator ttl told o) i = tt
is_response _ i = absurd i

module _ (stream : ℕ) (from : NodeState) (born : IsBorn stream from) where
  -- nothing happens on the stream
  passes : (n after : NodeState) (more : List Queued) → view_on after stream ≡ view_on n stream → after.queue ≡ n.queue ++ more → sends_on stream more ≡ [] → n.streams.dialled ≤ after.streams.dialled
      → ((past : Past) → past_of after.streams stream ≡ Some past → past_of n.streams stream ≡ Some past) → Since stream from n → Since stream from after
  passes n after more v q s d o a = record {
    story = record {
      moves = r.moves;
      part = record {
        may = r.part.may;
        view = v ∙ r.part.view;
        more = r.part.more ++ more;
        queued = q ∙ (ap (λ l. l ++ more) r.part.queued ∙ append_assoc from.queue r.part.more more);
        said = sends_both stream r.part.more more ∙ (ap (λ l. sends_on stream r.part.more ++ l) s ∙ (append-nil (sends_on stream r.part.more) ∙ r.part.said));
        no_fewer = up from.streams.dialled n.streams.dialled after.streams.dialled r.part.no_fewer d;
      };
      heard = r.heard;
      no_fault = r.no_fault;
      new = r.new;
      given = λ e. given_up stream n.streams.dialled after.streams.dialled d (r.given e);
      opens = λ past e. r.opens past (o past e);
    };
    still = by_still a.still;
  } where
    r : Responded stream from n
    r = a.story

    by_still : (r.moves ≡ []) ⊎ IsGiven n.streams.dialled stream → (r.moves ≡ []) ⊎ IsGiven after.streams.dialled stream
    by_still (inl e) = inl e
    by_still (inr g) = inr (given_up stream n.streams.dialled after.streams.dialled d g)

  dials_next : (n : NodeState) (to : Locator) (m : Message) → IsResponse m → Since stream from n → Since stream from (dial_record (queue_up n (next_dial n to m)) None)
  unfolding dial_record queue_up
  dials_next n to m i a = by_case (eqb_tells (next_stream n.streams) stream) a.still where
    by_case : Same (next_stream n.streams) stream → (a.story.moves ≡ []) ⊎ IsGiven n.streams.dialled stream → Since stream from (dial_record (queue_up n (next_dial n to m)) None)
    by_case (inl e) (inl none) = record {
      story = responded_then stream from n (dial_record (queue_up n (next_dial n to m)) None) a.story none (dials stream n to m i (still_born stream from n a.story none born));
      still = inr (subst (IsGiven (n.streams.dialled + 1)) e.1 (next_is_given n.streams.dialled));
    }
    by_case (inl e) (inr g) = absurd (next_not_given n.streams.dialled (subst (IsGiven n.streams.dialled) (sym e.1) g))
    by_case (inr e) s =
        passes n (dial_record (queue_up n (next_dial n to m)) None) (next_dial n to m) refl refl (sends_other (next_stream n.streams) stream m e.1) (one_more n.streams.dialled)
        (λ past f. opened_none stream n past (more_opens n.streams (record { number = next_stream n.streams; from = None; past = None }) stream past f)) a

  datagram_passes : (base n after : NodeState) → Move anything base n by_datagram after → Since stream from n → Since stream from after
  unfolding unfolded
  datagram_passes base n after (walk.relays m ways e) a = passes n _ (along m ways) refl refl (sends_along stream m ways) (below n.streams.dialled) (λ past f. f) a
  datagram_passes base n after (walk.replies to m i e) a = dials_next n to m (is_response m i) a
  datagram_passes base n after _ a = passes n _ [] refl (sym (append-nil n.queue)) refl (below n.streams.dialled) (λ past f. f) a

  stream_passes : (on : ℕ) → on ≢ stream → (base n after : NodeState) → Move anything base n (on_stream on) after → Since stream from n → Since stream from after
  unfolding unfolded
  stream_passes on d base n after (walk.answers m i so e) a = passes n _ (send on m ∷ []) refl refl (sends_other on stream m d) (below n.streams.dialled) (λ past f. f) a
  stream_passes on d base n after (walk.responds to m i so e) a = dials_next n to m (is_response m i) a
  stream_passes on d base n after (walk.marks mark) a = passes n _ [] (mark_elsewhere n.sessions on mark stream d) (sym (append-nil n.queue)) refl (below n.streams.dialled) (λ past f. f) a
  stream_passes on d base n after (walk.keeps m e) a = passes n _ [] (keep_elsewhere on stream n m d e) (sym (append-nil n.queue)) refl (below n.streams.dialled) (λ past f. f) a
  stream_passes on d base n after (walk.listens session o h so e free heard) a =
      passes n _ [] (started_other n.sessions n.reading (untaken on session o) h stream e d) (sym (append-nil n.queue)) refl (below n.streams.dialled) (λ past f. f) a
  stream_passes on d base n after walk.closes a = passes n _ [] refl (sym (append-nil n.queue)) refl (below n.streams.dialled) (λ past f. closing_opens_none n.streams on stream past f) a
  stream_passes on d base n after (walk.goes_on past so) a =
      passes n _ [] refl (sym (append-nil n.queue)) refl (below n.streams.dialled) (λ p f. sym (other_past n.streams on stream (Some past) d) ∙ f) a
  stream_passes on d base n after walk.leaves a = passes n _ [] refl (sym (append-nil n.queue)) refl (below n.streams.dialled) (λ p f. sym (other_without n.streams on stream d) ∙ f) a
  stream_passes on d base n after _ a = passes n _ [] refl (sym (append-nil n.queue)) refl (below n.streams.dialled) (λ past f. f) a

-- ---- a datagram, and a piece of another stream

pub datagrams : (stream : ℕ) (n : NodeState) (link from : ℕ) (m : Option Message) → IsBorn stream n → Responded stream n (after_datagram n link from m)
datagrams stream n link from m b = (kept (Since stream n) (datagram_passes stream n b n) (datagram_moves anything n n n link from m walk.still) (nothing_yet stream n)).story

nothing_known : (on : ℕ) (bytes : List ℕ) (a : Added) (past : Past) → Piece anything on bytes a past
nothing_known on bytes a past = record { stream_so = tt; messages = each_anything a.messages; past_so = λ waits. tt }

pub piece_elsewhere : (on stream : ℕ) (bytes : List ℕ) (a : Added) (n : NodeState) (o : Option Past) → on ≢ stream → IsBorn stream n → Responded stream n (bytes_on n on bytes a o)
piece_elsewhere on stream bytes a n o d b =
    (kept (Since stream n) (stream_passes stream n b on d n) (bytes_on_moves anything n n on n bytes a o (λ past e. nothing_known on bytes a past) walk.still) (nothing_yet stream n)).story

pub starving_elsewhere : (on stream : ℕ) (bytes : List ℕ) (x : Coming) (n after : NodeState) → on ≢ stream → IsBorn stream n → StarvesAt n on bytes x.added after → Responded stream n after
starving_elsewhere on stream bytes x n after d b s =
    (kept (Since stream n) (stream_passes stream n b on d n) (starving_moves anything n n on n bytes x.added after s (λ past e. nothing_known on bytes x.added past) walk.still) (nothing_yet stream n)).story
