-- The declines of an objective: each of its untaken sessions leaves, and its stream begins closing.
use Rattle.std.proofs.Common.{◌≡◌, ◌≢◌, ℕ, Bool, true, false, cond, not, ◌==◌, List, [], ◌∷◌, ◌++◌, ◌⊎◌, inl, inr, Option, None, Some, Ok, is_ok, is_none, slice_index_or, refl, sym, ap, ◌∙◌, subst}
use Rattle.std.proofs.lemmas.Bool.{and_parts, and_from, and_right, eqb-true, eq-eqb}
use Rattle.grasp_laws_session.proofs.Fresh.{fresh_stay}
use Rattle.grasp_session.proofs.Facts.{at_handle}
use Rattle.grasp_session.proofs.Means.{checked_means, said_means}
use Rattle.grasp_laws_session.proofs.Runs.{set_some, some_state}
use Rattle.grasp_session.proofs.Tables.{state_slot}
use Rattle.grasp_session.specs.Made.{AreFresh}
use Rattle.grasp_session.specs.Runs.{AreInOrder, Speaks, Removes}
use Rattle.grasp_session.specs.Says.{IsAt}
use Rattle.grasp_session.specs.Sessions.{SessionState, Sessions, with_transcript, if_number, session_at, left, is_leaving, changed, leave_at, check_reply, after_say, after_remove}
use Rattle.grasp_session.specs.Transcript.{SayEnd, is_going, having_said}
use Rattle.grasp_session.specs.declared.answer.Act.TheVariants as act
use Rattle.grasp_types.specs.declared.session.Handle.{Handle}
use Rattle.grasp_model_node.specs.Declines.{Declining, unlistened, declined_for, may_decline, declined, removed, after_decline, after_declines}
use Rattle.grasp_model_node.specs.Moves.{with_sessions, begin_closing, queue_up}
use Rattle.grasp_model_node.specs.Node.{NodeState}
use Rattle.grasp_model_node.specs.Queue.{has_room}
use Rattle.grasp_model_node.specs.BoundedNodes.{IsBoundedNode}
use Rattle.grasp_model_node.specs.Streams.{past_of}
use Rattle.grasp_laws_node.proofs.Bounded.Calls.{ok_is, decline_kept}
use Rattle.grasp_laws_node.proofs.OthersAlone.{others_self}
use Rattle.grasp_laws_node.proofs.Consistent.Moves.{IsHeld}
use Rattle.grasp_laws_node.proofs.Consistent.Streams.{closing_none, others_past_set}
use Rattle.grasp_laws_node.proofs.Consistent.Table.{AreTied, Shuts, IsHeard, but_one, moved, tied_shut, order, left_shuts}

-- ---- sessions leave

-- what is live was live before
abbrev pub AreFewer : Sessions → Sessions → Type 0
AreFewer z w = (place : ℕ) (x : SessionState) → IsAt w place x → IsAt z place x

left_fewer : (z : Sessions) (h : Handle) (y : SessionState) → AreFewer z (left z h y)
left_fewer z h y place x at = by_case (set_some z.places h.place None place x at) where
  by_case : ((place ≡ h.place) × (None ≡ Some x)) ⊎ ((place ≢ h.place) × IsAt z place x) → IsAt z place x
  by_case (inl i) = absurd (cc)
  by_case (inr i) = i.1

-- no session lies on the stream
abbrev pub IsEmpty : ℕ → Sessions → Type 0
IsEmpty stream z = (place : ℕ) (x : SessionState) → IsAt z place x → x.stream ≢ stream

left_empty : (z : Sessions) (h : Handle) (x y : SessionState) → AreInOrder z → session_at z h ≡ Some x → IsEmpty x.stream (left z h y)
left_empty z h x y o e place w at on = by_case (set_some z.places h.place None place w at) where
  by_case : ((place ≡ h.place) × (None ≡ Some w)) ⊎ ((place ≢ h.place) × IsAt z place w) → ⊥
  by_case (inl i) = cc
  by_case (inr i) = i.0 (o.streams place h.place w x i.1 (state_slot z h x e) on)

-- ---- one decline

-- the session on the stream of the decline, where there is one, is that of its handle, and no agent has taken it
pub record IsMeant (z : Sessions) (d : Declining) : Type 0 where
  pub on : (place : ℕ) (x : SessionState) → IsAt z place x → x.stream ≡ d.stream → (place ≡ d.handle.place) × (x.number ≡ d.handle.number)
  pub at : (place : ℕ) (x : SessionState) → IsAt z place x → place ≡ d.handle.place → x.number ≡ d.handle.number → (x.stream ≡ d.stream) × (x.owner ≡ 0)

meant_fewer : (z w : Sessions) (d : Declining) → AreFewer z w → IsMeant z d → IsMeant w d
meant_fewer z w d f m = record { on = λ place x at e. m.on place x (f place x at) e; at = λ place x at e g. m.at place x (f place x at) e g }

-- sessions and streams hold together, and no agent has taken a session in which anything was said
pub record AreSound (n : NodeState) : Type 0 where
  pub ties : AreTied n.sessions n.streams
  pub fresh : AreFresh n.sessions

-- what a decline leaves: the session is gone
pub record IsDeclined (n after : NodeState) (stream : ℕ) : Type 0 where
  pub sound : AreSound after
  pub fewer : AreFewer n.sessions after.sessions
  pub empty : IsEmpty stream after.sessions
  pub registrations : after.registrations ≡ n.registrations

-- the sessions without it
record IsWithout (stream : ℕ) (z w : Sessions) : Type 0 where
  pub shuts : Shuts stream z w
  pub fewer : AreFewer z w
  pub empty : IsEmpty stream w
  pub fresh : AreFresh w

closes_after : (n m : NodeState) (stream : ℕ) → AreSound n → IsWithout stream n.sessions m.sessions → m.streams ≡ n.streams → m.registrations ≡ n.registrations → IsDeclined n (begin_closing m stream) stream
unfolding begin_closing
closes_after n m stream s w same registrations = record {
  sound = record {
    ties = tied_shut stream m.sessions (begin_closing m stream).streams
        (moved stream n.sessions m.sessions n.streams (begin_closing m stream).streams (but_one stream n.sessions n.streams s.ties) w.shuts.others
        (λ other d. others_past_set m.streams stream None other d ∙ ap (λ t. past_of t other) same)) w.shuts.shut (closing_none m.streams stream);
    fresh = w.fresh;
  };
  fewer = w.fewer;
  empty = w.empty;
  registrations = registrations;
}

pub handle_state : (z : Sessions) (h : Handle) (x : SessionState) → session_at z h ≡ Some x → IsAt z h.place x × (x.number ≡ h.number)
handle_state z h x e = (state_slot z h x e, by_slot (slice_index_or z.places h.place None) e) where
  by_slot : (o : Option SessionState) → if_number (λ y. y.number) h.number o ≡ Some x → x.number ≡ h.number
  by_slot None f = absurd (cc)
  by_slot (Some y) f = by_test (y.number == h.number) refl f where
    by_test : (b : Bool) → (y.number == h.number) ≡ b → cond b (Some y) None ≡ Some x → x.number ≡ h.number
    by_test true g i = ap (λ (u : SessionState). u.number) (sym (some_state y x i)) ∙ eqb-true y.number h.number g
    by_test false g i = absurd (cc)

pub ended_leaves : (z : Sessions) (h : Handle) (y : SessionState) → y.owner ≡ 0 → is_going y.view ≡ false → changed z h y ≡ left z h y
ended_leaves z h y own g =
    let leaves : is_leaving y ≡ true = and_from (y.owner == 0) (not (is_going y.view)) (eq-eqb y.owner 0 own) (ap not g) in rw leaves refl

says_without : (n : NodeState) (d : Declining) → IsBoundedNode n → AreSound n → IsMeant n.sessions d → check_reply n.sessions 0 d.handle act.End ≡ Ok tt
    → IsWithout d.stream n.sessions (after_say n.sessions n.reading d.handle (SayEnd (declined_for unlistened)))
says_without n d k s m e =
    let z : Sessions = n.sessions in
    let c = checked_means z 0 d.handle act.End e in
    let x : SessionState = c.state in
    let y : SessionState = with_transcript x (having_said x.view n.reading (SayEnd (declined_for unlistened))) in
    let at = handle_state z d.handle x c.at in
    let meant = m.at d.handle.place x at.0 refl at.1 in
    let is_left : after_say z n.reading d.handle (SayEnd (declined_for unlistened)) ≡ left z d.handle y =
    (said_means z n.reading d.handle (SayEnd (declined_for unlistened)) x c.at).after ∙ ended_leaves z d.handle y meant.1 (and_right (is_none x.view.mark) false refl) in
    let o : AreInOrder z = order z k.sessions in
    record {
      shuts = subst (λ w. Shuts d.stream z w) (sym is_left) (subst (λ stream. Shuts stream z (left z d.handle y)) meant.0 (left_shuts z d.handle x y o c.at));
      fewer = subst (AreFewer z) (sym is_left) (left_fewer z d.handle y);
      empty = subst (IsEmpty d.stream) (sym is_left) (subst (λ stream. IsEmpty stream (left z d.handle y)) meant.0 (left_empty z d.handle x y o c.at));
      fresh = fresh_stay z (Speaks n.reading 0 d.handle (SayEnd (declined_for unlistened))) s.fresh e (λ own. tt);
    }

removes_without : (n : NodeState) (d : Declining) → IsBoundedNode n → AreSound n → IsMeant n.sessions d → IsWithout d.stream n.sessions (after_remove n.sessions d.handle)
removes_without n d k s m = by_state (session_at n.sessions d.handle) refl where
  z : Sessions
  z = n.sessions

  o : AreInOrder z
  o = order z k.sessions

  gone : (x : SessionState) → session_at z d.handle ≡ Some x → x.stream ≡ d.stream → IsWithout d.stream z (left z d.handle x)
  gone x e f = record {
    shuts = subst (λ stream. Shuts stream z (left z d.handle x)) f (left_shuts z d.handle x x o e);
    fewer = left_fewer z d.handle x;
    empty = subst (λ stream. IsEmpty stream (left z d.handle x)) f (left_empty z d.handle x x o e);
    fresh = subst (λ w. AreFresh w) (ap (leave_at z d.handle) e) (fresh_stay z (Removes d.handle) s.fresh (rw e refl) tt);
  }

  nowhere : session_at z d.handle ≡ None → IsEmpty d.stream z
  nowhere e place x at on =
      let p = m.on place x at on in
      let there : session_at z d.handle ≡ Some x = at_handle z d.handle x (subst (λ q. IsAt z q x) p.0 at) p.1 in
      let no : None ≡ Some x = sym e ∙ there in cc

  by_state : (v : Option SessionState) → session_at z d.handle ≡ v → IsWithout d.stream z (leave_at z d.handle v)
  by_state None e = record {
    shuts = record { others = others_self d.stream z; shut = λ place x at on. absurd (nowhere e place x at on) };
    fewer = λ place x at. at;
    empty = nowhere e;
    fresh = s.fresh;
  }
  by_state (Some x) e = let at = handle_state z d.handle x e in gone x e (m.at d.handle.place x at.0 refl at.1).0

decline_leaves : (n : NodeState) (d : Declining) → IsBoundedNode n → AreSound n → IsMeant n.sessions d → IsDeclined n (after_decline n d) d.stream
unfolding with_sessions queue_up
decline_leaves n d k s m = by_test (may_decline n d.handle) refl where
  by_test : (b : Bool) → may_decline n d.handle ≡ b → IsDeclined n (begin_closing (cond b (declined n d) (removed n d.handle)) d.stream) d.stream
  by_test true e =
      let p = and_parts (has_room n.queue 1) (is_ok (check_reply n.sessions 0 d.handle act.End)) e in
      closes_after n (declined n d) d.stream s (says_without n d k s m (ok_is (check_reply n.sessions 0 d.handle act.End) p.1)) refl refl
  by_test false e = closes_after n (removed n d.handle) d.stream s (removes_without n d k s m) refl refl

-- ---- one after the other

abbrev pub AreMeant : Sessions → List Declining → Type 0
AreMeant z [] = Unit {0}
AreMeant z (d ∷ ds) = IsMeant z d × AreMeant z ds

abbrev pub AreEmpty : Sessions → List Declining → Type 0
AreEmpty z [] = Unit {0}
AreEmpty z (d ∷ ds) = IsEmpty d.stream z × AreEmpty z ds

all_fewer : (z w : Sessions) (ds : List Declining) → AreFewer z w → AreMeant z ds → AreMeant w ds
all_fewer z w [] f m = tt
all_fewer z w (d ∷ ds) f m = (meant_fewer z w d f m.0, all_fewer z w ds f m.1)

pub meant_both : (z : Sessions) (ds es : List Declining) → AreMeant z ds → AreMeant z es → AreMeant z (ds ++ es)
meant_both z [] es m k = k
meant_both z (d ∷ ds) es m k = (m.0, meant_both z ds es m.1 k)

record AreDeclined (n after : NodeState) (ds : List Declining) : Type 0 where
  pub sound : AreSound after
  pub fewer : AreFewer n.sessions after.sessions
  pub empty : AreEmpty after.sessions ds
  pub registrations : after.registrations ≡ n.registrations

all_leave : (n : NodeState) (ds : List Declining) → IsBoundedNode n → AreSound n → AreMeant n.sessions ds → AreDeclined n (after_declines n ds) ds
unfolding after_declines
all_leave n [] k s m = record { sound = s; fewer = λ place x at. at; empty = tt; registrations = refl }
all_leave n (d ∷ ds) k s m =
    let first = decline_leaves n d k s m.0 in
    let rest = all_leave (after_decline n d) ds (decline_kept n d k) first.sound (all_fewer n.sessions (after_decline n d).sessions ds first.fewer m.1) in record {
      sound = rest.sound;
      fewer = λ place x at. first.fewer place x (rest.fewer place x at);
      empty = (λ place x at. first.empty place x (rest.fewer place x at), rest.empty);
      registrations = rest.registrations ∙ first.registrations;
    }

-- a decline for the session on this stream
abbrev pub IsListed : ℕ → List Declining → Type 0
IsListed stream [] = ⊥
IsListed stream (d ∷ ds) = (d.stream ≡ stream) ⊎ IsListed stream ds

pub listed_first : (stream : ℕ) (ds es : List Declining) → IsListed stream ds → IsListed stream (ds ++ es)
listed_first stream [] es l = absurd l
listed_first stream (d ∷ ds) es (inl e) = inl e
listed_first stream (d ∷ ds) es (inr l) = inr (listed_first stream ds es l)

pub listed_later : (stream : ℕ) (ds es : List Declining) → IsListed stream es → IsListed stream (ds ++ es)
listed_later stream [] es l = l
listed_later stream (d ∷ ds) es l = inr (listed_later stream ds es l)

listed_empty : (z : Sessions) (stream : ℕ) (ds : List Declining) → AreEmpty z ds → IsListed stream ds → IsEmpty stream z
listed_empty z stream [] e l = absurd l
listed_empty z stream (d ∷ ds) e (inl f) = subst (λ k. IsEmpty k z) f e.0
listed_empty z stream (d ∷ ds) e (inr l) = listed_empty z stream ds e.1 l

-- what no agent has taken is listened for, or is declined
pub declines_held : (n : NodeState) (ds : List Declining) → IsBoundedNode n → AreSound n → AreMeant n.sessions ds
    → ((place : ℕ) (x : SessionState) → IsAt n.sessions place x → x.owner ≡ 0 → IsHeard n.registrations x ⊎ IsListed x.stream ds) → IsHeld (after_declines n ds)
declines_held n ds k s m f =
    let a = all_leave n ds k s m in record { ties = a.sound.ties; heard = λ place x at own. heard a place x at (f place x (a.fewer place x at) own); fresh = a.sound.fresh } where
      heard : AreDeclined n (after_declines n ds) ds → (place : ℕ) (x : SessionState) → IsAt (after_declines n ds).sessions place x → IsHeard n.registrations x ⊎ IsListed x.stream ds → IsHeard (after_declines n ds).registrations x
      heard a place x at (inl h) = subst (λ r. IsHeard r x) (sym a.registrations) h
      heard a place x at (inr l) = absurd (listed_empty (after_declines n ds).sessions x.stream ds a.empty l place x at refl)
