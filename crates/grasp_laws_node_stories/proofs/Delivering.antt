-- A piece of a stream, and a closing: what happens on each stream.
use Rattle.std.proofs.Common.{◌≡◌, ◌≢◌, ℕ, ◌+◌, Bool, true, false, cond, ◌==◌, nat_le, List, [], ◌++◌, length, ◌⊎◌, inl, inr, Option, None, Some, refl, sym, ap, ◌∙◌, subst}
use Rattle.std.proofs.lemmas.Bool.{true≢false, ne_eqb, eq-eqb}
use Rattle.std.proofs.lemmas.Bool.Decides.{eqb_tells}
use Rattle.std.proofs.lemmas.List.{append-nil}
use Rattle.grasp_laws_session.proofs.Runs.{calls_in_order}
use Rattle.grasp_session.specs.Sessions.{after_mark, state_reply}
use Rattle.grasp_session.specs.Talk.{Cause, Closes, mark_of}
use Rattle.grasp_types.specs.declared.message.Message.{Message}
use Rattle.grasp_types.specs.declared.traffic.Input.TheVariants as input
use Rattle.grasp_wire.specs.Cutter.{Past}
use Rattle.grasp_model_node.specs.Bytes.{most_bytes, heard, past_after, left_as, broken, bytes_on, after_bytes, after_closed}
use Rattle.grasp_model_node.specs.Hear.{Heard, goes_on}
use Rattle.grasp_model_node.specs.Moves.{with_sessions, begin_closing, keep_past, drop_record}
use Rattle.grasp_model_node.specs.Node.{NodeState}
use Rattle.grasp_model_node.specs.BoundedNodes.{IsBoundedNode}
use Rattle.grasp_model_node.specs.Step.{Coming}
use Rattle.grasp_model_node.specs.Streams.{past_of, has_record}
use Rattle.grasp_laws_node_stories.specs.Stories.{is_bad_rest, came_by, came_on, fault_by, fault_on, past_with}
use Rattle.grasp_laws_node_stories.specs.StreamMoves.{view_on, heard_in, is_fault, some_move}
use Rattle.grasp_laws_node_stories.proofs.Acting.{Same, ends}
use Rattle.grasp_laws_node_stories.proofs.Hearing.{Ready, FedHeard}
use Rattle.grasp_laws_node_stories.proofs.Overhearing.{piece_elsewhere}
use Rattle.grasp_laws_node_stories.proofs.Parts.{Part, Quietly, itself}
use Rattle.grasp_laws_node_stories.proofs.Pieces.{hears_piece}
use Rattle.grasp_laws_node_stories.proofs.Records.{closing_shut, kept_past_is, shut_past, without_none, without_opens_none}
use Rattle.grasp_laws_node_stories.proofs.Requesting.{IsBorn}
use Rattle.grasp_laws_node_stories.proofs.Responding.{acted_responded}
use Rattle.grasp_laws_node_stories.proofs.Telling.{Acted, IsElsewhere}

-- ---- what comes on a stream

pub elsewhere : (on : ℕ) (bytes : List ℕ) (x : Coming) (stream : ℕ) → on ≢ stream → IsElsewhere (input.Bytes on bytes) x stream
elsewhere on bytes x stream d = let other : (on == stream) ≡ false = ne_eqb on stream d in record { came = rw other refl; past = λ before. rw other refl }

pub closed_elsewhere : (on : ℕ) (x : Coming) (stream : ℕ) → IsElsewhere (input.Closed on) x stream
closed_elsewhere on x stream = record { came = refl; past = λ before. refl }

pub came_here : (stream : ℕ) (bytes : List ℕ) (x : Coming) → came_by (input.Bytes stream bytes) x stream ≡ x.added.messages
came_here stream bytes x = let same : (stream == stream) ≡ true = eq-eqb stream stream refl in rw same refl

fault_here : (stream : ℕ) (bytes : List ℕ) (x : Coming) → fault_by (input.Bytes stream bytes) x stream ≡ is_bad_rest x.added.kind
fault_here stream bytes x = let same : (stream == stream) ≡ true = eq-eqb stream stream refl in rw same refl

past_here : (stream : ℕ) (bytes : List ℕ) (x : Coming) (past : Past) → past_with past (input.Bytes stream bytes) x stream ≡ past_after past bytes x.added
past_here stream bytes x past = let same : (stream == stream) ≡ true = eq-eqb stream stream refl in rw same refl

-- ---- a stream is closed or starves

pub cut_off : (stream : ℕ) (n : NodeState) (on : ℕ) (cause : Cause) → IsBoundedNode n → Quietly stream n (drop_record (with_sessions n (after_mark n.sessions on (mark_of cause))) on)
unfolding with_sessions drop_record
cut_off stream n on cause k =
    let q = ends stream n on cause (calls_in_order n.sessions k.sessions) in record {
      moves = q.moves;
      part = record { may = q.part.may; view = q.part.view; more = q.part.more; queued = q.part.queued; said = q.part.said; no_fewer = q.part.no_fewer };
      heard = q.heard;
      no_fault = q.no_fault;
      no_last = q.no_last;
      no_dial = q.no_dial;
      opens_none = λ past e. without_opens_none n.streams on stream past k.apart e;
    }

pub cut_past : (n : NodeState) (stream : ℕ) (cause : Cause) → IsBoundedNode n → past_of (drop_record (with_sessions n (after_mark n.sessions stream (mark_of cause))) stream).streams stream ≡ None
unfolding with_sessions drop_record
cut_past n stream cause k = without_none n.streams stream k.apart

pub closes : (stream : ℕ) (n : NodeState) (on : ℕ) → IsBoundedNode n → Quietly stream n (after_closed n on)
unfolding after_closed
closes stream n on k = by_test (has_record n.streams on) where
  by_test : (b : Bool) → Quietly stream n (cond b (broken n on) n)
  by_test true = cut_off stream n on Closes k
  by_test false = itself stream n

-- ---- the stream on which a piece comes

pub none_some : (o : Option Past) (past : Past) → o ≡ None → o ≡ Some past → ⊥
none_some o past e f = let no : None ≡ Some past = sym e ∙ f in cc

-- nothing was heard of it, as the stream isn't open any more
nothing_heard : (stream : ℕ) (bytes : List ℕ) (x : Coming) (n after : NodeState) → Quietly stream n after → past_of after.streams stream ≡ None → Acted stream (input.Bytes stream bytes) x n after
nothing_heard stream bytes x n after q none = record {
  moves = q.moves;
  part = q.part;
  unheard = came_on (past_of n.streams stream) (input.Bytes stream bytes) x stream;
  heard = sym (ap (λ (l : List Message). l ++ came_on (past_of n.streams stream) (input.Bytes stream bytes) x stream) q.heard);
  no_fault = λ e. q.no_fault;
  new = λ g. q.no_dial;
  given = λ d. absurd (true≢false (sym d ∙ q.no_dial));
  opens = λ past e. absurd (none_some (past_of after.streams stream) past none e);
}

-- the messages were heard
heard_acts : (stream : ℕ) (bytes : List ℕ) (x : Coming) (n : NodeState) (before : Past) (y : Heard) → past_of n.streams stream ≡ Some before → FedHeard stream (is_bad_rest x.added.kind) n y x.added.messages
    → Acted stream (input.Bytes stream bytes) x n (left_as stream (past_after before bytes x.added) y)
unfolding keep_past
heard_acts stream bytes x n before y was f = by_test y.is_open refl where
  past : Past
  past = past_after before bytes x.added

  came : came_on (past_of n.streams stream) (input.Bytes stream bytes) x stream ≡ heard_in f.moves ++ f.unheard
  came = ap (λ o. came_on o (input.Bytes stream bytes) x stream) was ∙ (came_here stream bytes x ∙ f.heard)

  no_fault : fault_on (past_of n.streams stream) (input.Bytes stream bytes) x stream ≡ false → some_move is_fault f.moves ≡ false
  no_fault e = f.no_fault (sym (fault_here stream bytes x) ∙ (sym (ap (λ o. fault_on o (input.Bytes stream bytes) x stream) was) ∙ e))

  kept : Part stream n (keep_past y.node stream past) f.moves
  kept = record { may = f.part.may; view = f.part.view; more = f.part.more; queued = f.part.queued; said = f.part.said; no_fewer = f.part.no_fewer }

  all : y.is_open ≡ true → heard_in f.moves ≡ came_on (Some before) (input.Bytes stream bytes) x stream
  all e = sym (append_none (heard_in f.moves) f.unheard (f.all_heard e)) ∙ (sym f.heard ∙ sym (came_here stream bytes x)) where
    append_none : (a b : List Message) → b ≡ [] → a ++ b ≡ a
    append_none a b g = ap (λ (l : List Message). a ++ l) g ∙ append-nil a

  by_test : (b : Bool) → y.is_open ≡ b → Acted stream (input.Bytes stream bytes) x n (cond b (keep_past y.node stream past) y.node)
  by_test true e = record {
    moves = f.moves;
    part = kept;
    unheard = f.unheard;
    heard = came;
    no_fault = no_fault;
    new = λ g. f.no_dial;
    given = λ d. absurd (true≢false (sym d ∙ f.no_dial));
    opens = λ p g. inl (record {
      before = before;
      was_open = was;
      past_is = kept_past_is y.node.streams stream past p f.ready.shut g ∙ sym (past_here stream bytes x before);
      all_heard = all e;
      none_last = f.none_last e;
    });
  }
  by_test false e = record {
    moves = f.moves;
    part = f.part;
    unheard = f.unheard;
    heard = came;
    no_fault = no_fault;
    new = λ g. f.no_dial;
    given = λ d. absurd (true≢false (sym d ∙ f.no_dial));
    opens = λ p g. absurd (none_some (past_of y.node.streams stream) p (shut_past y.node.streams stream f.ready.shut) g);
  }

-- an open stream has a session that goes on, or never had one
abbrev pub HasVoice : ℕ → NodeState → Type 0
HasVoice stream n = (past : Past) → past_of n.streams stream ≡ Some past → (view_on n stream ≡ None) ⊎ (goes_on (state_reply n.sessions stream) ≡ true)

pub is_ready : (stream : ℕ) (n : NodeState) (past : Past) → IsBoundedNode n → IsBorn stream n → HasVoice stream n → past_of n.streams stream ≡ Some past → Ready stream true (begin_closing n stream)
unfolding begin_closing
is_ready stream n past k b v e = record { reached = k.sessions; given = b.given past e; shut = closing_shut n.streams stream k.apart; voice = λ f. v past e }

piece_here : (stream : ℕ) (bytes : List ℕ) (x : Coming) (n : NodeState) (o : Option Past) → past_of n.streams stream ≡ o → IsBoundedNode n → IsBorn stream n → HasVoice stream n
    → Acted stream (input.Bytes stream bytes) x n (bytes_on n stream bytes x.added o)
piece_here stream bytes x n None e k b v = nothing_heard stream bytes x n n (itself stream n) e
piece_here stream bytes x n (Some past) e k b v = by_test (nat_le (length past.fed + length bytes) most_bytes) where
  by_test : (c : Bool) → Acted stream (input.Bytes stream bytes) x n (cond c (left_as stream (past_after past bytes x.added) (heard (begin_closing n stream) stream x.added)) (broken n stream))
  by_test true = heard_acts stream bytes x n past (heard (begin_closing n stream) stream x.added) e (hears_piece stream n x.added (is_ready stream n past k b v e))
  by_test false = nothing_heard stream bytes x n (broken n stream) (cut_off stream n stream Closes k) (cut_past n stream Closes k)

-- ---- all streams

pub pieces_act : (stream : ℕ) (on : ℕ) (bytes : List ℕ) (x : Coming) (n : NodeState) → IsBoundedNode n → IsBorn stream n → HasVoice stream n → Acted stream (input.Bytes on bytes) x n (after_bytes n on bytes x.added)
unfolding after_bytes
pieces_act stream on bytes x n k b v = by_case (eqb_tells on stream) where
  by_case : Same on stream → Acted stream (input.Bytes on bytes) x n (bytes_on n on bytes x.added (past_of n.streams on))
  by_case (inl i) =
      subst (λ (q : ℕ). Acted stream (input.Bytes q bytes) x n (bytes_on n q bytes x.added (past_of n.streams q))) (sym i.1) (piece_here stream bytes x n (past_of n.streams stream) refl k b v)
  by_case (inr i) =
      acted_responded stream (input.Bytes on bytes) x n (bytes_on n on bytes x.added (past_of n.streams on)) (elsewhere on bytes x stream i.1)
      (piece_elsewhere on stream bytes x.added n (past_of n.streams on) i.1 b)
