-- The declines of untaken sessions, and sessions that go with their agent: the moves of each stream.
use Rattle.std.proofs.Common.{◌≡◌, ◌≢◌, ℕ, zero, suc, Bool, true, false, cond, ◌==◌, ◌&&◌, nat_lt, bytes_eq, List, [], ◌∷◌, ◌++◌, ◌⊎◌, inl, inr, Option, None, Some, Ok, is_ok, is_none, refl, sym, ap, ◌∙◌, subst}
use Rattle.std.proofs.lemmas.Bool.{and_parts, and_right, eqb-true}
use Rattle.grasp_laws_node.proofs.Bounded.Calls.{ok_is}
use Rattle.grasp_laws_node.proofs.Consistent.Declines.{ended_leaves}
use Rattle.grasp_laws_node.proofs.Meaning.Acts.{number_at}
use Rattle.grasp_session.proofs.Facts.{at_handle}
use Rattle.grasp_session.proofs.Means.{checked_means, said_means}
use Rattle.grasp_laws_session.proofs.Runs.{calls_go_on, calls_in_order, set_some, some_state}
use Rattle.grasp_laws_session.proofs.Streams.{is_least}
use Rattle.grasp_session.proofs.Tables.{state_slot}
use Rattle.grasp_session.specs.Runs.{Reached, Speaks, Removes}
use Rattle.grasp_session.specs.Says.{IsAt}
use Rattle.grasp_session.specs.Sessions.{SessionState, Sessions, with_transcript, session_at, left, leave_at, check_reply, after_say, after_remove, untaken_above_reply, owner_reply, stream_reply}
use Rattle.grasp_session.specs.Transcript.{SayEnd, message_of, having_said, request_of}
use Rattle.grasp_session.specs.declared.answer.Act.TheVariants as act
use Rattle.grasp_types.specs.declared.session.Handle.{Handle}
use Rattle.grasp_model_node.specs.Declines.{Declining, decline_of, next_decline, declines_above, declines_of, unlistened, declined_for, may_decline, declined, removed, after_decline, after_declines}
use Rattle.grasp_model_node.specs.Moves.{with_sessions, begin_closing, queue_up}
use Rattle.grasp_model_node.specs.Node.{NodeState}
use Rattle.grasp_model_node.specs.Queue.{has_room}
use Rattle.grasp_model_node.specs.RegistryCalls.{declines_for, close_stream, without_session, without_sessions}
use Rattle.grasp_laws_node_stories.proofs.Acting.{speaks, leave_same}
use Rattle.grasp_laws_node_stories.proofs.Parts.{Quietly, and_then, itself, closes, other_sessions}

-- ---- what is live after a session has left was live before

abbrev pub AreFewer : Sessions → Sessions → Type 0
AreFewer z w = (h : Handle) (x : SessionState) → session_at w h ≡ Some x → session_at z h ≡ Some x

left_fewer : (z : Sessions) (h : Handle) (y : SessionState) → AreFewer z (left z h y)
left_fewer z h y k x e = by_case (set_some z.places h.place None k.place x (state_slot (left z h y) k x e)) where
  by_case : ((k.place ≡ h.place) × (None ≡ Some x)) ⊎ ((k.place ≢ h.place) × IsAt z k.place x) → session_at z k ≡ Some x
  by_case (inl i) = absurd (cc)
  by_case (inr i) = at_handle z k x i.1 (number_at (left z h y) k x e)

-- ---- one decline

-- the decline is that of the session with its handle, where there is one, which no agent has taken
pub record IsMeant (z : Sessions) (d : Declining) : Type 0 where
  pub stream : (x : SessionState) → session_at z d.handle ≡ Some x → d.stream ≡ x.stream
  pub owner : (x : SessionState) → session_at z d.handle ≡ Some x → x.owner ≡ 0
  pub message : (x : SessionState) → session_at z d.handle ≡ Some x → d.message ≡ message_of x.view (SayEnd (declined_for unlistened))

meant_fewer : (z w : Sessions) (d : Declining) → AreFewer z w → IsMeant z d → IsMeant w d
meant_fewer z w d f m = record {
  stream = λ x e. m.stream x (f d.handle x e);
  owner = λ x e. m.owner x (f d.handle x e);
  message = λ x e. m.message x (f d.handle x e);
}

-- what a part leaves: calls lead to its sessions, and none is new
pub record Goes (stream : ℕ) (n after : NodeState) : Type 0 where
  pub quietly : Quietly stream n after
  pub reached : Reached after.sessions
  pub fewer : AreFewer n.sessions after.sessions

goes_then : (stream : ℕ) (n m after : NodeState) → Goes stream n m → Goes stream m after → Goes stream n after
goes_then stream n m after a b = record {
  quietly = and_then stream n m after a.quietly b.quietly;
  reached = b.reached;
  fewer = λ h x e. a.fewer h x (b.fewer h x e);
}

goes_closing : (stream : ℕ) (n m : NodeState) (on : ℕ) → Goes stream n m → Goes stream n (begin_closing m on)
unfolding begin_closing
goes_closing stream n m on g = record { quietly = and_then stream n m (begin_closing m on) g.quietly (closes stream m on); reached = g.reached; fewer = g.fewer }

pub declined_goes : (stream : ℕ) (n : NodeState) (d : Declining) → Reached n.sessions → IsMeant n.sessions d → check_reply n.sessions 0 d.handle act.End ≡ Ok tt → Goes stream n (declined n d)
unfolding with_sessions queue_up
declined_goes stream n d r m e =
    let z : Sessions = n.sessions in
    let c = checked_means z 0 d.handle act.End e in
    let x : SessionState = c.state in
    let y : SessionState = with_transcript x (having_said x.view n.reading (SayEnd (declined_for unlistened))) in
    let is_left : after_say z n.reading d.handle (SayEnd (declined_for unlistened)) ≡ left z d.handle y =
    (said_means z n.reading d.handle (SayEnd (declined_for unlistened)) x c.at).after ∙ ended_leaves z d.handle y (m.owner x c.at) (and_right (is_none x.view.mark) false refl) in
    record {
      quietly = speaks stream n d.handle x (SayEnd (declined_for unlistened)) d.stream d.message (calls_in_order z r) c.at c.allowed (m.stream x c.at) (m.message x c.at);
      reached = calls_go_on z (Speaks n.reading 0 d.handle (SayEnd (declined_for unlistened))) r e;
      fewer = subst (AreFewer z) (sym is_left) (left_fewer z d.handle y);
    }

pub removed_goes : (stream : ℕ) (n : NodeState) (h : Handle) → Reached n.sessions → Goes stream n (with_sessions n (after_remove n.sessions h))
unfolding with_sessions
removed_goes stream n h r = by_state (session_at n.sessions h) refl where
  by_state : (v : Option SessionState) → session_at n.sessions h ≡ v → Goes stream n (with_sessions n (leave_at n.sessions h v))
  by_state None e = record { quietly = other_sessions stream n n.sessions refl; reached = r; fewer = λ k x f. f }
  by_state (Some x) e = record {
    quietly = other_sessions stream n (left n.sessions h x) (leave_same n.sessions h (Some x) stream (calls_in_order n.sessions r) e);
    reached = subst Reached (ap (leave_at n.sessions h) e) (calls_go_on n.sessions (Removes h) r (rw e refl));
    fewer = left_fewer n.sessions h x;
  }

pub decline_goes : (stream : ℕ) (n : NodeState) (d : Declining) → Reached n.sessions → IsMeant n.sessions d → Goes stream n (after_decline n d)
decline_goes stream n d r m = goes_closing stream n (cond (may_decline n d.handle) (declined n d) (removed n d.handle)) d.stream (by_test (may_decline n d.handle) refl) where
  by_test : (b : Bool) → may_decline n d.handle ≡ b → Goes stream n (cond b (declined n d) (removed n d.handle))
  by_test true e =
      let p = and_parts (has_room n.queue 1) (is_ok (check_reply n.sessions 0 d.handle act.End)) e in
      declined_goes stream n d r m (ok_is (check_reply n.sessions 0 d.handle act.End) p.1)
  by_test false e = removed_goes stream n d.handle r

-- ---- one after the other

abbrev pub AreMeant : Sessions → List Declining → Type 0
AreMeant z [] = Unit {0}
AreMeant z (d ∷ ds) = IsMeant z d × AreMeant z ds

pub all_fewer : (z w : Sessions) (ds : List Declining) → AreFewer z w → AreMeant z ds → AreMeant w ds
all_fewer z w [] f m = tt
all_fewer z w (d ∷ ds) f m = (meant_fewer z w d f m.0, all_fewer z w ds f m.1)

pub declines_go : (stream : ℕ) (n : NodeState) (ds : List Declining) → Reached n.sessions → AreMeant n.sessions ds → Goes stream n (after_declines n ds)
unfolding after_declines
declines_go stream n [] r m = record { quietly = itself stream n; reached = r; fewer = λ h x e. e }
declines_go stream n (d ∷ ds) r m =
    let first = decline_goes stream n d r m.0 in
    goes_then stream n (after_decline n d) (after_declines (after_decline n d) ds) first
    (declines_go stream (after_decline n d) ds first.reached (all_fewer n.sessions (after_decline n d).sessions ds first.fewer m.1))

-- ---- the declines of an objective are those of its sessions

abbrev above_test : List ℕ → ℕ → SessionState → Bool
above_test name above x = nat_lt above x.number && (x.owner == 0) && bytes_eq (request_of x.view).name name

decline_meant : (z : Sessions) (h : Handle) (y : SessionState) → session_at z h ≡ Some y → y.owner ≡ 0 → IsMeant z (decline_of h y)
decline_meant z h y at own = record {
  stream = λ x e. ap (λ (w : SessionState). w.stream) (same x e);
  owner = λ x e. ap (λ (w : SessionState). w.owner) (sym (same x e)) ∙ own;
  message = λ x e. ap (λ (w : SessionState). message_of w.view (SayEnd (declined_for unlistened))) (same x e);
} where
  same : (x : SessionState) → session_at z h ≡ Some x → y ≡ x
  same x e = some_state y x (sym at ∙ e)

meant_above : (z : Sessions) (name : List ℕ) (k above : ℕ) → AreMeant z (declines_above z name k above)
unfolding declines_above
meant_above z name zero above = tt
meant_above z name (suc k) above = by_handle (untaken_above_reply z name above) refl (λ number. meant_above z name k number) where
  by_handle : (h : Option Handle) → untaken_above_reply z name above ≡ h → ((number : ℕ) → AreMeant z (declines_above z name k number)) → AreMeant z (next_decline z (λ number. declines_above z name k number) h)
  by_handle None f rest = tt
  by_handle (Some h) f rest =
      let l = is_least z (above_test name above) h f in
      let p = and_parts (nat_lt above l.state.number && (l.state.owner == 0)) (bytes_eq (request_of l.state.view).name name) l.passes in
      let own = eqb-true l.state.owner 0 (and_parts (nat_lt above l.state.number) (l.state.owner == 0) p.0).1 in
      rw l.at (decline_meant z h l.state l.at own, rest h.number)

pub meant_of : (z : Sessions) (name : List ℕ) → AreMeant z (declines_of z name)
meant_of z name = meant_above z name 64 0

meant_both : (z : Sessions) (ds es : List Declining) → AreMeant z ds → AreMeant z es → AreMeant z (ds ++ es)
meant_both z [] es m k = k
meant_both z (d ∷ ds) es m k = (m.0, meant_both z ds es m.1 k)

pub meant_for : (z : Sessions) (names : List (List ℕ)) → AreMeant z (declines_for z names)
meant_for z [] = tt
meant_for z (name ∷ names) = meant_both z (declines_of z name) (declines_for z names) (meant_of z name) (meant_for z names)

-- ---- the sessions of an agent go

close_stream_goes : (stream : ℕ) (n m : NodeState) (o : Option ℕ) → Goes stream n m → Goes stream n (close_stream m o)
close_stream_goes stream n m None g = g
close_stream_goes stream n m (Some on) g = goes_closing stream n m on g

pub without_session_goes : (stream : ℕ) (n : NodeState) (o : Option Handle) → Reached n.sessions → Goes stream n (without_session n o)
without_session_goes stream n None r = record { quietly = itself stream n; reached = r; fewer = λ h x e. e }
without_session_goes stream n (Some h) r = close_stream_goes stream n (with_sessions n (after_remove n.sessions h)) (stream_reply n.sessions h) (removed_goes stream n h r)

pub without_sessions_go : (stream count : ℕ) (n : NodeState) (asa : ℕ) → Reached n.sessions → Goes stream n (without_sessions count n asa)
unfolding without_sessions
without_sessions_go stream zero n asa r = record { quietly = itself stream n; reached = r; fewer = λ h x e. e }
without_sessions_go stream (suc count) n asa r =
    let g = without_sessions_go stream count n asa r in
    goes_then stream n (without_sessions count n asa) (without_session (without_sessions count n asa) (owner_reply (without_sessions count n asa).sessions asa)) g
    (without_session_goes stream (without_sessions count n asa) (owner_reply (without_sessions count n asa).sessions asa) g.reached)
