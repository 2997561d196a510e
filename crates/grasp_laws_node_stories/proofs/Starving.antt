-- Want of memory while a piece is heard: what happens on each stream.
use Rattle.std.proofs.Common.{◌≡◌, ◌≢◌, ℕ, true, false, List, [], ◌++◌, inl, inr, None, Some, refl, sym, ap, ◌∙◌, subst}
use Rattle.std.proofs.lemmas.Bool.{true≢false}
use Rattle.std.proofs.lemmas.Bool.Decides.{eqb_tells}
use Rattle.grasp_laws_session.proofs.Runs.{calls_in_order}
use Rattle.grasp_session.specs.Runs.{Reached}
use Rattle.grasp_session.specs.Talk.{Starves}
use Rattle.grasp_types.specs.declared.message.Message.{Message}
use Rattle.grasp_types.specs.declared.traffic.Input.TheVariants as input
use Rattle.grasp_wire.specs.Cutter.{Past}
use Rattle.grasp_model_node.specs.Bytes.{hear_all, starved, StarvesAt}
use Rattle.grasp_model_node.specs.Hear.{Heard, stays}
use Rattle.grasp_model_node.specs.Moves.{with_sessions, begin_closing, drop_record}
use Rattle.grasp_model_node.specs.Node.{NodeState}
use Rattle.grasp_model_node.specs.BoundedNodes.{IsBoundedNode}
use Rattle.grasp_model_node.specs.Step.{Coming}
use Rattle.grasp_model_node.specs.Streams.{past_of}
use Rattle.grasp_laws_node_stories.specs.Stories.{came_on}
use Rattle.grasp_laws_node_stories.specs.StreamMoves.{heard_in, is_dial, is_fault}
use Rattle.grasp_laws_node_stories.proofs.Acting.{Same, ends}
use Rattle.grasp_laws_node_stories.proofs.Delivering.{HasVoice, is_ready, elsewhere, came_here, none_some}
use Rattle.grasp_laws_node_stories.proofs.Hearing.{FedHeard}
use Rattle.grasp_laws_node_stories.proofs.Overhearing.{starving_elsewhere}
use Rattle.grasp_laws_node_stories.proofs.Parts.{Quietly, both, heard_both, none_both}
use Rattle.grasp_laws_node_stories.proofs.Pieces.{hears_all, none_yet}
use Rattle.grasp_laws_node_stories.proofs.Records.{AllShut, shut_gone}
use Rattle.grasp_laws_node_stories.proofs.Requesting.{IsBorn}
use Rattle.grasp_laws_node_stories.proofs.Responding.{acted_responded}
use Rattle.grasp_laws_node_stories.proofs.Telling.{Acted}

-- ---- the stream on which the piece came

starves : (stream : ℕ) (n : NodeState) → Reached n.sessions → AllShut stream n.streams.records → Quietly stream n (starved n stream)
unfolding with_sessions drop_record
starves stream n r shut =
    let q = ends stream n stream Starves (calls_in_order n.sessions r) in record {
      moves = q.moves;
      part = record { may = q.part.may; view = q.part.view; more = q.part.more; queued = q.part.queued; said = q.part.said; no_fewer = q.part.no_fewer };
      heard = q.heard;
      no_fault = q.no_fault;
      no_last = q.no_last;
      no_dial = q.no_dial;
      opens_none = λ past e. absurd (none_some (past_of (starved n stream).streams stream) past (shut_gone n.streams stream shut) e);
    }

pub starved_past : (stream : ℕ) (n : NodeState) → AllShut stream n.streams.records → past_of (starved n stream).streams stream ≡ None
unfolding with_sessions drop_record
starved_past stream n shut = shut_gone n.streams stream shut

heard_some : (all some others heard unheard more : List Message) → all ≡ some ++ others → some ≡ heard ++ unheard → unheard ≡ [] → more ≡ [] → all ≡ (heard ++ more) ++ others
heard_some all some others heard unheard more e f g h =
    e ∙ ap (λ (l : List Message). l ++ others) (f ∙ (ap (λ (l : List Message). heard ++ l) g ∙ sym (ap (λ (l : List Message). heard ++ l) h)))

starving_here : (stream : ℕ) (bytes : List ℕ) (x : Coming) (n : NodeState) (past : Past) (some others : List Message) → x.added.messages ≡ some ++ others → past_of n.streams stream ≡ Some past → (y : Heard) → y.is_open ≡ true
    → FedHeard stream false n y some → Acted stream (input.Bytes stream bytes) x n (starved y.node stream)
starving_here stream bytes x n past some others parts was y still f = record {
  moves = f.moves ++ q.moves;
  part = both stream n y.node (starved y.node stream) f.moves q.moves f.part (f.none_last still) q.part;
  unheard = others;
  heard = ap (λ o. came_on o (input.Bytes stream bytes) x stream) was
      ∙ (came_here stream bytes x
      ∙ (heard_some x.added.messages some others (heard_in f.moves) f.unheard (heard_in q.moves) parts f.heard (f.all_heard still) q.heard ∙ ap (λ (l : List Message). l ++ others) (sym (heard_both f.moves q.moves))));
  no_fault = λ e. none_both is_fault f.moves q.moves (f.no_fault refl) q.no_fault;
  new = λ g. none_both is_dial f.moves q.moves f.no_dial q.no_dial;
  given = λ d. absurd (true≢false (sym d ∙ none_both is_dial f.moves q.moves f.no_dial q.no_dial));
  opens = λ p e. absurd (none_some (past_of (starved y.node stream).streams stream) p (starved_past stream y.node f.ready.shut) e);
} where
  q : Quietly stream y.node (starved y.node stream)
  q = starves stream y.node f.ready.reached f.ready.shut

-- ---- all streams

pub starving_acts : (stream on : ℕ) (bytes : List ℕ) (x : Coming) (n after : NodeState) → IsBoundedNode n → IsBorn stream n → HasVoice stream n → StarvesAt n on bytes x.added after → Acted stream (input.Bytes on bytes) x n after
starving_acts stream on bytes x n after k b v s = by_case (eqb_tells on stream) where
  here : on ≡ stream → Acted stream (input.Bytes on bytes) x n (starved (hear_all on s.some (stays (begin_closing n on))).node on)
  here e =
      let was : past_of n.streams stream ≡ Some s.past = subst (λ (q : ℕ). past_of n.streams q ≡ Some s.past) e s.was_open in
      let still : (hear_all stream s.some (stays (begin_closing n stream))).is_open ≡ true = subst (λ (q : ℕ). (hear_all q s.some (stays (begin_closing n q))).is_open ≡ true) e s.still_open in
      let f = hears_all stream n s.some (stays (begin_closing n stream)) [] (none_yet stream n (is_ready stream n s.past k b v was)) in
      subst (λ (q : ℕ). Acted stream (input.Bytes q bytes) x n (starved (hear_all q s.some (stays (begin_closing n q))).node q)) (sym e)
      (starving_here stream bytes x n s.past s.some s.others s.parts was (hear_all stream s.some (stays (begin_closing n stream))) still f)

  by_case : Same on stream → Acted stream (input.Bytes on bytes) x n after
  by_case (inl i) = subst (Acted stream (input.Bytes on bytes) x n) (sym s.after_is) (here i.1)
  by_case (inr i) = acted_responded stream (input.Bytes on bytes) x n after (elsewhere on bytes x stream i.1) (starving_elsewhere on stream bytes x n after i.1 b s)

-- the stream is closed then
pub starving_past : (stream : ℕ) (bytes : List ℕ) (x : Coming) (n after : NodeState) → IsBoundedNode n → IsBorn stream n → HasVoice stream n → StarvesAt n stream bytes x.added after → past_of after.streams stream ≡ None
starving_past stream bytes x n after k b v s =
    let f = hears_all stream n s.some (stays (begin_closing n stream)) [] (none_yet stream n (is_ready stream n s.past k b v s.was_open)) in
    subst (λ (m : NodeState). past_of m.streams stream ≡ None) (sym s.after_is) (starved_past stream (hear_all stream s.some (stays (begin_closing n stream))).node f.ready.shut)
