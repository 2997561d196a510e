-- An agent's request: the next stream is dialled, and its session begins.
use Rattle.std.proofs.Common.{◌≡◌, ◌≢◌, ◌≤◌, ℕ, ◌+◌, false, [], ◌∷◌, ◌⊎◌, inl, inr, None, Some, refl, sym, ap, ◌∙◌, subst, arith}
use Rattle.std.proofs.lemmas.Bool.Decides.{eqb_tells}
use Rattle.grasp_laws_node.proofs.Bounded.Streams.{next_is_given, next_not_given}
use Rattle.grasp_laws_session.proofs.Runs.{calls_in_order}
use Rattle.grasp_session.specs.Messages.{Near}
use Rattle.grasp_session.specs.Says.{IsAt}
use Rattle.grasp_session.specs.Sessions.{SessionState, is_full, start_reply, after_start}
use Rattle.grasp_session.specs.Transcript.{opening, request_message}
use Rattle.grasp_session.specs.declared.begin.Begin.{Begin}
use Rattle.grasp_types.specs.declared.address.Locator.{Locator}
use Rattle.grasp_types.specs.declared.message.Message.{Message}
use Rattle.grasp_types.specs.declared.objective.Objective.{Objective}
use Rattle.grasp_types.specs.declared.session.Kind.{Kind}
use Rattle.grasp_types.specs.declared.session.Kind.TheVariants.{Negotiation, Synchronization}
use Rattle.grasp_types.specs.declared.traffic.Input.{Input}
use Rattle.grasp_wire.specs.Cutter.{Past, no_past}
use Rattle.grasp_model_node.specs.Draws.{next_session}
use Rattle.grasp_model_node.specs.Moves.{with_sessions, with_draw, dial_record, queue_up}
use Rattle.grasp_model_node.specs.Node.{NodeState}
use Rattle.grasp_model_node.specs.Queue.{send, dial}
use Rattle.grasp_model_node.specs.SessionCalls.{request_of, begun_by, requested}
use Rattle.grasp_model_node.specs.BoundedNodes.{IsGiven, IsBoundedNode}
use Rattle.grasp_model_node.specs.Step.{Coming}
use Rattle.grasp_model_node.specs.Streams.{StreamRecord, past_of, next_stream}
use Rattle.grasp_laws_node_stories.specs.StreamMoves.{view_in, view_on, Asks, MayMoves}
use Rattle.grasp_laws_node_stories.proofs.Acting.{Same}
use Rattle.grasp_laws_node_stories.proofs.Allowed.{Starts, starts}
use Rattle.grasp_laws_node_stories.proofs.Parts.{Part, Quietly, nothing, sends_here, sends_other, given_up}
use Rattle.grasp_laws_node_stories.proofs.Records.{IsOpened, more_opens}
use Rattle.grasp_laws_node_stories.proofs.Telling.{Stays, Opens, Acted, IsElsewhere, nothing_came, acted_quietly, quiet_none}
use Rattle.grasp_laws_node_stories.proofs.Views.{started_here, started_other}

-- the stream was dialled or opened, or it had no session and isn't open
pub record IsBorn (stream : ℕ) (n : NodeState) : Type 0 where
  pub born : IsGiven n.streams.dialled stream ⊎ (view_on n stream ≡ None)
  pub given : (past : Past) → past_of n.streams stream ≡ Some past → IsGiven n.streams.dialled stream

born_so : (stream : ℕ) (n after : NodeState) → Quietly stream n after → IsGiven n.streams.dialled stream ⊎ (view_on n stream ≡ None) → IsGiven after.streams.dialled stream ⊎ (view_on after stream ≡ None)
born_so stream n after q (inl g) = inl (given_up stream n.streams.dialled after.streams.dialled q.part.no_fewer g)
born_so stream n after q (inr e) = inr (quiet_none stream n after q e)

pub born_quietly : (stream : ℕ) (n after : NodeState) → Quietly stream n after → IsBorn stream n → IsBorn stream after
born_quietly stream n after q b = record {
  born = born_so stream n after q b.born;
  given = λ past e. given_up stream n.streams.dialled after.streams.dialled q.part.no_fewer (b.given past (q.opens_none past e));
}

pub one_more : (d : ℕ) → d ≤ d + 1
one_more d = omega arith

same_request : (kind : Kind) (session : ℕ) (o : Objective) → request_of kind session o ≡ request_message kind session o
same_request Negotiation session o = refl
same_request Synchronization session o = refl

pub free : (n : NodeState) → IsBoundedNode n → (place : ℕ) (x : SessionState) → IsAt n.sessions place x → x.stream ≢ next_stream n.streams
free n k place x at e = next_not_given n.streams.dialled (subst (IsGiven n.streams.dialled) e (k.sessions_given place x at))

-- ---- the stream that is dialled

pub next_none : (stream : ℕ) (n : NodeState) → next_stream n.streams ≡ stream → IsGiven n.streams.dialled stream ⊎ (view_on n stream ≡ None) → view_on n stream ≡ None
next_none stream n e (inl g) = absurd (next_not_given n.streams.dialled (subst (IsGiven n.streams.dialled) (sym e) g))
next_none stream n e (inr f) = f

begins : (n : NodeState) (asa : ℕ) (kind : Kind) (timeout : ℕ) (o : Objective) → IsBoundedNode n → Starts n.sessions
    → view_in (after_start n.sessions n.reading (begun_by n asa kind timeout o) (start_reply n.sessions)) (next_stream n.streams) ≡ Some (opening kind Near timeout n.reading (next_session n) o)
begins n asa kind timeout o k s =
    let b : Begin = begun_by n asa kind timeout o in
    ap (λ r. view_in (after_start n.sessions n.reading b r) (next_stream n.streams)) s.is ∙ started_here n.sessions n.reading b s.handle s.is (free n k)

dials_part : (n : NodeState) (asa : ℕ) (kind : Kind) (timeout : ℕ) (o : Objective) (peer : Locator) → IsBoundedNode n → Starts n.sessions → view_on n (next_stream n.streams) ≡ None
    → Part (next_stream n.streams) n (requested n asa kind timeout o peer) (Asks n.reading timeout (next_session n) kind o ∷ [])
unfolding with_sessions with_draw dial_record queue_up
dials_part n asa kind timeout o peer k s none = record {
  may = subst (λ v. MayMoves v (Asks n.reading timeout (next_session n) kind o ∷ [])) (sym none) (tt, (λ e. refl), tt);
  view = begins n asa kind timeout o k s;
  more = dial (next_stream n.streams) peer ∷ send (next_stream n.streams) (request_of kind (next_session n) o) ∷ [];
  queued = refl;
  said = sends_here (next_stream n.streams) (request_of kind (next_session n) o) ∙ ap (λ (m : Message). m ∷ []) (same_request kind (next_session n) o);
  no_fewer = one_more n.streams.dialled;
}

dials : (n : NodeState) (asa : ℕ) (kind : Kind) (timeout : ℕ) (o : Objective) (peer : Locator) (i : Input) (x : Coming) → IsElsewhere i x (next_stream n.streams) → IsBoundedNode n → Starts n.sessions
    → view_on n (next_stream n.streams) ≡ None → Acted (next_stream n.streams) i x n (requested n asa kind timeout o peer)
unfolding with_sessions with_draw dial_record queue_up
dials n asa kind timeout o peer i x e k s none = record {
  moves = Asks n.reading timeout (next_session n) kind o ∷ [];
  part = dials_part n asa kind timeout o peer k s none;
  unheard = [];
  heard = nothing_came (past_of n.streams (next_stream n.streams)) i x (next_stream n.streams) e.came;
  no_fault = λ f. refl;
  new = λ g. absurd (next_not_given n.streams.dialled g);
  given = λ f. next_is_given n.streams.dialled;
  opens = λ past f. by_case past (more_opens n.streams new_record (next_stream n.streams) past f);
} where
  new_record : StreamRecord
  new_record = record { number = next_stream n.streams; from = None; past = Some no_past }

  by_case : (past : Past) → IsOpened (past_of n.streams (next_stream n.streams)) new_record (next_stream n.streams) past
      → Stays (next_stream n.streams) i x n (Asks n.reading timeout (next_session n) kind o ∷ []) past ⊎ Opens (next_stream n.streams) i n (Asks n.reading timeout (next_session n) kind o ∷ []) past
  by_case past (inl f) = inl (record { before = past; was_open = f; past_is = sym (e.past past); all_heard = sym e.came; none_last = refl })
  by_case past (inr f) = inr (record { how = inl refl; was_closed = f.0; past_is = let same : Some no_past ≡ Some past = f.2 in cc; none_heard = refl; none_last = refl })

-- ---- another stream

pub others : (stream : ℕ) (n : NodeState) (asa : ℕ) (kind : Kind) (timeout : ℕ) (o : Objective) (peer : Locator) → Starts n.sessions → next_stream n.streams ≢ stream → Quietly stream n (requested n asa kind timeout o peer)
unfolding with_sessions with_draw dial_record queue_up
others stream n asa kind timeout o peer s d =
    nothing stream n (requested n asa kind timeout o peer) (dial (next_stream n.streams) peer ∷ send (next_stream n.streams) (request_of kind (next_session n) o) ∷ [])
    (ap (λ r. view_in (after_start n.sessions n.reading b r) stream) s.is ∙ started_other n.sessions n.reading b s.handle stream s.is d) refl
    (sends_other (next_stream n.streams) stream (request_of kind (next_session n) o) d) (one_more n.streams.dialled) (λ past f. by_case past (more_opens n.streams new_record stream past f)) where
      b : Begin
      b = begun_by n asa kind timeout o

      new_record : StreamRecord
      new_record = record { number = next_stream n.streams; from = None; past = Some no_past }

      by_case : (past : Past) → IsOpened (past_of n.streams stream) new_record stream past → past_of n.streams stream ≡ Some past
      by_case past (inl f) = f
      by_case past (inr f) = absurd (d f.1)

pub requests : (stream : ℕ) (n : NodeState) (asa : ℕ) (kind : Kind) (timeout : ℕ) (o : Objective) (peer : Locator) (i : Input) (x : Coming) → IsElsewhere i x stream → IsBoundedNode n → is_full n.sessions ≡ false → IsBorn stream n
    → Acted stream i x n (requested n asa kind timeout o peer)
requests stream n asa kind timeout o peer i x e k room b = by_case (eqb_tells (next_stream n.streams) stream) where
  s : Starts n.sessions
  s = starts n.sessions (calls_in_order n.sessions k.sessions) room

  here : (on : ℕ) → on ≡ stream → next_stream n.streams ≡ on → Acted stream i x n (requested n asa kind timeout o peer)
  here on f g =
      subst (λ (q : ℕ). Acted q i x n (requested n asa kind timeout o peer)) (g ∙ f)
      (dials n asa kind timeout o peer i x (subst (IsElsewhere i x) (sym (g ∙ f)) e) k s (ap (view_on n) (g ∙ f) ∙ next_none stream n (g ∙ f) b.born))

  by_case : Same (next_stream n.streams) stream → Acted stream i x n (requested n asa kind timeout o peer)
  by_case (inl f) = here (next_stream n.streams) f.1 refl
  by_case (inr f) = acted_quietly stream i x n (requested n asa kind timeout o peer) e (others stream n asa kind timeout o peer s f.1)
