-- What an input does on a stream once its step has begun, and the story that comes of it.
use Rattle.std.proofs.Common.{◌≡◌, ℕ, true, false, List, [], ◌∷◌, ◌++◌, length, drop, ◌⊎◌, inl, inr, Option, None, Some, refl, sym, ap, ◌∙◌, subst}
use Rattle.std.proofs.Math.Seq.{drop-append_seam}
use Rattle.std.proofs.lemmas.Bool.{true≢false}
use Rattle.grasp_session.specs.Transcript.{Transcript}
use Rattle.grasp_types.specs.declared.message.Message.{Message}
use Rattle.grasp_types.specs.declared.traffic.Input.{Input}
use Rattle.grasp_wire.specs.Cutter.{Past, no_past}
use Rattle.grasp_model_node.specs.Begin.{begin}
use Rattle.grasp_model_node.specs.Node.{NodeState}
use Rattle.grasp_model_node.specs.BoundedNodes.{IsGiven}
use Rattle.grasp_model_node.specs.Step.{Coming}
use Rattle.grasp_model_node.specs.Streams.{past_of}
use Rattle.grasp_laws_node_stories.specs.StreamMoves.{view_on, StreamMove, Asks, Says, Hears, Faults, Marks, Responds, after_moves, said_in, heard_in, is_dial, is_fault, is_last_move, some_move, MayMove, MayMoves, sends_on}
use Rattle.grasp_laws_node_stories.specs.Stories.{gained, came_by, came_on, fault_on, past_with, OpensIt, KeptOpen, NewlyOpen, Story}
use Rattle.grasp_laws_node_stories.proofs.Parts.{Part, Quietly, both, heard_both, none_both, some_both}

-- ---- a stream without a session that hears nothing and isn't dialled makes no moves

first_only : (m : StreamMove) (ms : List StreamMove) → MayMove None m → heard_in (m ∷ ms) ≡ [] → some_move is_dial (m ∷ ms) ≡ false → ⊥
first_only (Asks now timeout session kind o) ms a h d = true≢false d
first_only (Says now saying) ms a h d = a
first_only (Hears now m told) ms a h d = a
first_only (Faults told) ms a h d = a
first_only (Marks cause) ms a h d = a
first_only (Responds m) ms a h d = true≢false d
first_only _ ms a h d = cc

pub no_moves : (ms : List StreamMove) → MayMoves None ms → heard_in ms ≡ [] → some_move is_dial ms ≡ false → ms ≡ []
no_moves [] a h d = refl
no_moves (m ∷ ms) a h d = absurd (first_only m ms a.0 h d)

pub none_after : (v : Option Transcript) (ms : List StreamMove) → v ≡ None → MayMoves v ms → heard_in ms ≡ [] → some_move is_dial ms ≡ false → after_moves v ms ≡ None
none_after v ms e a h d =
    ap (λ (w : Option Transcript). after_moves w ms) e ∙ ap (λ (l : List StreamMove). after_moves None l) (no_moves ms (subst (λ w. MayMoves w ms) e a) h d)

pub quiet_none : (stream : ℕ) (n after : NodeState) → Quietly stream n after → view_on n stream ≡ None → view_on after stream ≡ None
quiet_none stream n after q e = q.part.view ∙ none_after (view_on n stream) q.moves e q.part.may q.heard q.no_dial

-- ---- what an input does

-- the stream stays open
pub record Stays (stream : ℕ) (i : Input) (x : Coming) (n : NodeState) (moves : List StreamMove) (past : Past) : Type 0 where
  pub before : Past
  pub was_open : past_of n.streams stream ≡ Some before
  pub past_is : past ≡ past_with before i x stream
  pub all_heard : heard_in moves ≡ came_on (Some before) i x stream
  pub none_last : some_move is_last_move moves ≡ false

-- the stream opens: the input opens it or it is dialled, and nothing was heard on it
pub record Opens (stream : ℕ) (i : Input) (n : NodeState) (moves : List StreamMove) (past : Past) : Type 0 where
  pub how : (some_move is_dial moves ≡ true) ⊎ OpensIt i stream
  pub was_closed : past_of n.streams stream ≡ None
  pub past_is : past ≡ no_past
  pub none_heard : heard_in moves ≡ []
  pub none_last : some_move is_last_move moves ≡ false

pub record Acted (stream : ℕ) (i : Input) (x : Coming) (n after : NodeState) : Type 0 where
  pub moves : List StreamMove
  pub part : Part stream n after moves
  pub unheard : List Message
  pub heard : came_on (past_of n.streams stream) i x stream ≡ heard_in moves ++ unheard
  pub no_fault : fault_on (past_of n.streams stream) i x stream ≡ false → some_move is_fault moves ≡ false
  pub new : IsGiven n.streams.dialled stream → some_move is_dial moves ≡ false
  pub given : some_move is_dial moves ≡ true → IsGiven after.streams.dialled stream
  pub opens : (past : Past) → past_of after.streams stream ≡ Some past → Stays stream i x n moves past ⊎ Opens stream i n moves past

-- nothing comes with the input on this stream
pub record IsElsewhere (i : Input) (x : Coming) (stream : ℕ) : Type 0 where
  pub came : came_by i x stream ≡ []
  pub past : (before : Past) → past_with before i x stream ≡ before

pub nothing_came : (o : Option Past) (i : Input) (x : Coming) (stream : ℕ) → came_by i x stream ≡ [] → came_on o i x stream ≡ []
nothing_came None i x stream e = refl
nothing_came (Some past) i x stream e = e

pub acted_quietly : (stream : ℕ) (i : Input) (x : Coming) (n after : NodeState) → IsElsewhere i x stream → Quietly stream n after → Acted stream i x n after
acted_quietly stream i x n after e q = record {
  moves = q.moves;
  part = q.part;
  unheard = [];
  heard = nothing_came (past_of n.streams stream) i x stream e.came ∙ sym (ap (λ (ms : List Message). ms ++ []) q.heard);
  no_fault = λ f. q.no_fault;
  new = λ g. q.no_dial;
  given = λ d. absurd (true≢false (sym d ∙ q.no_dial));
  opens = λ past f. inl (record { before = past; was_open = q.opens_none past f; past_is = sym (e.past past); all_heard = q.heard ∙ sym e.came; none_last = q.no_last });
}

-- ---- the story

gains : (n after : NodeState) (stream : ℕ) (moves : List StreamMove) → (p : Part stream n after moves) → sends_on stream (gained n after) ≡ said_in (view_on n stream) moves
gains n after stream moves p = ap (λ q. sends_on stream (drop (length n.queue) q)) p.queued ∙ (ap (sends_on stream) (drop-append_seam n.queue p.more) ∙ p.said)

pub told : (n : NodeState) (now : ℕ) (i : Input) (x : Coming) (after : NodeState) (stream : ℕ) → (begin n now).streams.dialled ≡ n.streams.dialled → Quietly stream n (begin n now) → Acted stream i x (begin n now) after → Story n now i x after stream
told n now i x after stream k q a = record {
  moves = q.moves ++ a.moves;
  may = whole.may;
  view = whole.view;
  said = gains n after stream (q.moves ++ a.moves) whole;
  unheard = a.unheard;
  heard = a.heard ∙ ap (λ (ms : List Message). ms ++ a.unheard) (sym same_heard);
  no_fault = λ f. none_both is_fault q.moves a.moves q.no_fault (a.no_fault f);
  new = λ g. none_both is_dial q.moves a.moves q.no_dial (a.new (subst (λ d. IsGiven d stream) (sym k) g));
  given = λ d. a.given (sym (some_both is_dial q.moves a.moves q.no_dial) ∙ d);
  begun = q.opens_none;
  opens = λ past e. by_case past (a.opens past e);
} where
  whole : Part stream n after (q.moves ++ a.moves)
  whole = both stream n (begin n now) after q.moves a.moves q.part q.no_last a.part

  same_heard : heard_in (q.moves ++ a.moves) ≡ heard_in a.moves
  same_heard = heard_both q.moves a.moves ∙ ap (λ (ms : List Message). ms ++ heard_in a.moves) q.heard

  how : (some_move is_dial a.moves ≡ true) ⊎ OpensIt i stream → (some_move is_dial (q.moves ++ a.moves) ≡ true) ⊎ OpensIt i stream
  how (inl d) = inl (some_both is_dial q.moves a.moves q.no_dial ∙ d)
  how (inr d) = inr d

  by_case : (past : Past) → Stays stream i x (begin n now) a.moves past ⊎ Opens stream i (begin n now) a.moves past
      → KeptOpen n now i x stream (q.moves ++ a.moves) past ⊎ NewlyOpen n now i stream (q.moves ++ a.moves) past
  by_case past (inl s) = inl (record {
    before = s.before;
    was_open = q.opens_none s.before s.was_open;
    begun_open = s.was_open;
    past_is = s.past_is;
    all_heard = same_heard ∙ s.all_heard;
    none_last = none_both is_last_move q.moves a.moves q.no_last s.none_last;
  })
  by_case past (inr o) = inr (record { how = how o.how; was_closed = o.was_closed; past_is = o.past_is; none_heard = same_heard ∙ o.none_heard; none_last = none_both is_last_move q.moves a.moves q.no_last o.none_last })
