-- A response on a stream of its own, and what a datagram does on each stream.
use Rattle.std.proofs.Common.{◌≡◌, ◌≢◌, ℕ, ◌-◌, Bool, true, false, cond, not, ◌&&◌, List, [], ◌∷◌, ◌++◌, inl, inr, None, Some, refl, sym, ap, ◌∙◌, subst}
use Rattle.std.proofs.lemmas.Bool.{true≢false}
use Rattle.std.proofs.lemmas.Bool.Decides.{eqb_tells}
use Rattle.grasp_laws_node.proofs.Bounded.Streams.{next_is_given, next_not_given}
use Rattle.grasp_types.specs.declared.address.Locator.{Locator}
use Rattle.grasp_types.specs.declared.message.Message.{Message}
use Rattle.grasp_types.specs.declared.traffic.Input.{Input}
use Rattle.grasp_wire.specs.Cutter.{Past}
use Rattle.grasp_model_node.specs.Moves.{dial_record, queue_up, may_queue, dial_with}
use Rattle.grasp_model_node.specs.Node.{NodeState}
use Rattle.grasp_model_node.specs.Queue.{send, dial}
use Rattle.grasp_model_node.specs.BoundedNodes.{IsGiven}
use Rattle.grasp_model_node.specs.Step.{Coming}
use Rattle.grasp_model_node.specs.Streams.{past_of, next_stream, is_dialled_out}
use Rattle.grasp_laws_node_stories.specs.StreamMoves.{view_on, StreamMove, Responds, heard_in, is_dial, is_fault, is_last_move, some_move, MayMoves, IsResponse}
use Rattle.grasp_laws_node_stories.proofs.Acting.{Same}
use Rattle.grasp_laws_node_stories.proofs.Parts.{Part, Quietly, both, heard_both, none_both, some_both, given_up, itself, nothing, sends_here, sends_other}
use Rattle.grasp_laws_node_stories.proofs.Records.{IsOpened, more_opens}
use Rattle.grasp_laws_node_stories.proofs.Requesting.{IsBorn, next_none, one_more}
use Rattle.grasp_laws_node_stories.proofs.Telling.{Acted, IsElsewhere, nothing_came}

-- ---- a response is dialled, or lost

-- nothing happens on the stream but that it may be dialled for a response
pub record Responded (stream : ℕ) (n after : NodeState) : Type 0 where
  pub moves : List StreamMove
  pub part : Part stream n after moves
  pub heard : heard_in moves ≡ []
  pub no_fault : some_move is_fault moves ≡ false
  pub new : IsGiven n.streams.dialled stream → some_move is_dial moves ≡ false
  pub given : some_move is_dial moves ≡ true → IsGiven after.streams.dialled stream
  pub opens : (past : Past) → past_of after.streams stream ≡ Some past → (past_of n.streams stream ≡ Some past) × (some_move is_last_move moves ≡ false)

pub quiet_responded : (stream : ℕ) (n after : NodeState) → Quietly stream n after → Responded stream n after
quiet_responded stream n after q = record {
  moves = q.moves;
  part = q.part;
  heard = q.heard;
  no_fault = q.no_fault;
  new = λ g. q.no_dial;
  given = λ d. absurd (true≢false (sym d ∙ q.no_dial));
  opens = λ past e. (q.opens_none past e, q.no_last);
}

pub quiet_then : (stream : ℕ) (n m after : NodeState) → Quietly stream n m → Responded stream m after → Responded stream n after
quiet_then stream n m after q r = record {
  moves = q.moves ++ r.moves;
  part = both stream n m after q.moves r.moves q.part q.no_last r.part;
  heard = heard_both q.moves r.moves ∙ (ap (λ (ms : List Message). ms ++ heard_in r.moves) q.heard ∙ r.heard);
  no_fault = none_both is_fault q.moves r.moves q.no_fault r.no_fault;
  new = λ g. none_both is_dial q.moves r.moves q.no_dial (r.new (given_up stream n.streams.dialled m.streams.dialled q.part.no_fewer g));
  given = λ d. r.given (sym (some_both is_dial q.moves r.moves q.no_dial) ∙ d);
  opens = λ past e. let p = r.opens past e in (q.opens_none past p.0, none_both is_last_move q.moves r.moves q.no_last p.1);
}

pub opened_none : (stream : ℕ) (n : NodeState) (past : Past) → IsOpened (past_of n.streams stream) (record { number = next_stream n.streams; from = None; past = None }) stream past → past_of n.streams stream ≡ Some past
opened_none stream n past (inl e) = e
opened_none stream n past (inr e) = let no : None ≡ Some past = e.2 in absurd (cc)

dial_here : (n : NodeState) (to : Locator) (m : Message) → IsResponse m → view_on n (next_stream n.streams) ≡ None → ((past : Past) → past_of n.streams (next_stream n.streams) ≡ Some past → IsGiven n.streams.dialled (next_stream n.streams))
    → Responded (next_stream n.streams) n (dial_record (queue_up n (dial (next_stream n.streams) to ∷ send (next_stream n.streams) m ∷ [])) None)
unfolding dial_record queue_up
dial_here n to m i none was_given = record {
  moves = Responds m ∷ [];
  part = record {
    may = subst (λ v. MayMoves v (Responds m ∷ [])) (sym none) (i, (λ e. refl), tt);
    view = refl;
    more = dial (next_stream n.streams) to ∷ send (next_stream n.streams) m ∷ [];
    queued = refl;
    said = sends_here (next_stream n.streams) m;
    no_fewer = one_more n.streams.dialled;
  };
  heard = refl;
  no_fault = refl;
  new = λ g. absurd (next_not_given n.streams.dialled g);
  given = λ d. next_is_given n.streams.dialled;
  opens = λ past e.
      absurd (next_not_given n.streams.dialled
      (was_given past (opened_none (next_stream n.streams) n past (more_opens n.streams (record { number = next_stream n.streams; from = None; past = None }) (next_stream n.streams) past e))));
}

-- another stream than the one that is dialled
pub dial_other : (stream : ℕ) (n : NodeState) (to : Locator) (m : Message) → next_stream n.streams ≢ stream
    → Quietly stream n (dial_record (queue_up n (dial (next_stream n.streams) to ∷ send (next_stream n.streams) m ∷ [])) None)
unfolding dial_record queue_up
dial_other stream n to m d =
    nothing stream n (dial_record (queue_up n (dial (next_stream n.streams) to ∷ send (next_stream n.streams) m ∷ [])) None) (dial (next_stream n.streams) to ∷ send (next_stream n.streams) m ∷ [])
    refl refl (sends_other (next_stream n.streams) stream m d) (one_more n.streams.dialled)
    (λ past e. opened_none stream n past (more_opens n.streams (record { number = next_stream n.streams; from = None; past = None }) stream past e))

pub dials : (stream : ℕ) (n : NodeState) (to : Locator) (m : Message) → IsResponse m → IsBorn stream n
    → Responded stream n (dial_record (queue_up n (dial (next_stream n.streams) to ∷ send (next_stream n.streams) m ∷ [])) None)
dials stream n to m i b = by_case (eqb_tells (next_stream n.streams) stream) where
  by_case : Same (next_stream n.streams) stream → Responded stream n (dial_record (queue_up n (dial (next_stream n.streams) to ∷ send (next_stream n.streams) m ∷ [])) None)
  by_case (inl e) =
      subst (λ (q : ℕ). Responded q n (dial_record (queue_up n (dial (next_stream n.streams) to ∷ send (next_stream n.streams) m ∷ [])) None)) e.1
      (dial_here n to m i (ap (view_on n) e.1 ∙ next_none stream n e.1 b.born) (subst (λ (q : ℕ). (past : Past) → past_of n.streams q ≡ Some past → IsGiven n.streams.dialled q) (sym e.1) b.given))
  by_case (inr e) = quiet_responded stream n _ (dial_other stream n to m e.1)

pub dials_with : (stream : ℕ) (n : NodeState) (to : Locator) (m : Message) → IsResponse m → IsBorn stream n → Responded stream n (dial_with n to m)
dials_with stream n to m i b = by_test (may_queue n m 2 && not (is_dialled_out n.streams)) where
  by_test : (c : Bool) → Responded stream n (cond c (dial_record (queue_up n (dial (next_stream n.streams) to ∷ send (next_stream n.streams) m ∷ [])) None) n)
  by_test true = dials stream n to m i b
  by_test false = quiet_responded stream n n (itself stream n)

-- ---- elsewhere

pub acted_responded : (stream : ℕ) (i : Input) (x : Coming) (n after : NodeState) → IsElsewhere i x stream → Responded stream n after → Acted stream i x n after
acted_responded stream i x n after e r = record {
  moves = r.moves;
  part = r.part;
  unheard = [];
  heard = nothing_came (past_of n.streams stream) i x stream e.came ∙ sym (ap (λ (ms : List Message). ms ++ []) r.heard);
  no_fault = λ f. r.no_fault;
  new = r.new;
  given = r.given;
  opens = λ past f. let p = r.opens past f in inl (record { before = past; was_open = p.0; past_is = sym (e.past past); all_heard = r.heard ∙ sym e.came; none_last = p.1 });
}
